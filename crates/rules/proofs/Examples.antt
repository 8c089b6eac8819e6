-- Demand 3 for the graphics processor, and that it is not vacuous: the check admits four programs, and a run of 01's card needs no
-- assumption.
-- Assumes nothing.
use Rattle.std.proofs.Common.{◌≡◌, ℕ, zero, suc, ◌^◌, ◌<◌, ◌≤◌, Bool, true, ◌&&◌, ltb, List, [], ◌∷◌, ◌++◌, get_or, take, replicate, refl, arith, ltb-true, Ok, Err}
use Rattle.isa.specs.Words.{instruction_at, decoded_at}
use Rattle.processor.specs.Processor.{gpu}
use Rattle.processor.proofs.Instances.{gpu_sound}
use Rattle.gpu_core.specs.Machine.{Memory, lent}
use Rattle.gpu_core.specs.Types.{IsBank, IsMemory}
use Rattle.machine.specs.declared.State.{State}
use Rattle.machine.specs.State.{start_state, IsState}
use Rattle.machine.specs.Run.{budget_limit}
use Rattle.verdicts.specs.declared.Refusal.TheVariants.{Broken}
use Rattle.verdicts.specs.declared.Rule.TheVariants.{Ending}
use Rattle.items.specs.Items.{item_of}
use Rattle.rules.specs.Reading.{item_at}
use Rattle.rules.specs.Scan.{scan, first_bad}
use Rattle.rules.specs.Known.{transfer_of}
use Rattle.rules.specs.Check.{is_start, is_target, learn, ok1, ok2, ok3, ok4, ok5, ok6, broken_in, rules_of, check_of}
use Rattle.rules.specs.Safety.{StartState, Loaded, Safe, Demand3, Tells, GoesOn}
use Rattle.values.proofs.Booleans.{and_l, and_r}
use Rattle.rules.proofs.Demand.{demand3, tells, goes_on}

pub gpu_demand3 : Demand3 gpu
gpu_demand3 = demand3 gpu gpu_sound

pub gpu_tells : Tells gpu
gpu_tells = tells gpu

pub gpu_goes_on : GoesOn gpu
gpu_goes_on = goes_on gpu gpu_sound

-- 01's "whole card": MOVEI #F02114h,R1; MOVEQ #0,R0; STORE R0,(R1); NOP; JR to itself; NOP
pub card : List ℕ
card = (0x98 ∷ 0x01 ∷ 0x21 ∷ 0x14 ∷ 0x00 ∷ 0xF0 ∷ 0x8C ∷ 0x00 ∷ 0xBC ∷ 0x20 ∷ 0xE4 ∷ 0x00 ∷ 0xD7 ∷ 0xE0 ∷ 0xE4 ∷ 0x00 ∷ []) ++ replicate 4080 0

-- a JUMP: NOP; MOVEI #F03000h,R1; JUMP (R1); NOP
pub jumping : List ℕ
jumping = (0xE4 ∷ 0x00 ∷ 0x98 ∷ 0x01 ∷ 0x30 ∷ 0x00 ∷ 0x00 ∷ 0xF0 ∷ 0xD0 ∷ 0x20 ∷ 0xE4 ∷ 0x00 ∷ []) ++ replicate 4084 0

-- a switch to bank 1, after which nothing is known, and a STORE through a register set anew:
-- MOVEI #F02100h,R1; MOVEI #4000h,R0; STORE R0,(R1); MOVEI #F03100h,R1; STORE R0,(R1); NOP; JR to itself; NOP
pub switching : List ℕ
switching = (0x98 ∷ 0x01 ∷ 0x21 ∷ 0x00 ∷ 0x00 ∷ 0xF0 ∷ 0x98 ∷ 0x00 ∷ 0x40 ∷ 0x00 ∷ 0x00 ∷ 0x00 ∷ 0xBC ∷ 0x20 ∷ 0x98 ∷ 0x01 ∷ 0x31 ∷ 0x00 ∷ 0x00 ∷ 0xF0 ∷ 0xBC ∷ 0x20 ∷ 0xE4 ∷ 0x00 ∷ 0xD7 ∷ 0xE0 ∷ 0xE4 ∷ 0x00 ∷ []) ++ replicate 4068 0

-- indexed accesses in the data window, all four of F03108h:
-- MOVEI #F03100h,R14; MOVEQ #8,R3; STORE R1,(R14+2); LOAD (R14+2),R2; STORE R1,(R14+R3); LOAD (R14+R3),R2; JR to itself; NOP
pub indexing : List ℕ
indexing = (0x98 ∷ 0x0E ∷ 0x31 ∷ 0x00 ∷ 0x00 ∷ 0xF0 ∷ 0x8D ∷ 0x03 ∷ 0xC4 ∷ 0x41 ∷ 0xAC ∷ 0x42 ∷ 0xF0 ∷ 0x61 ∷ 0xE8 ∷ 0x62 ∷ 0xD7 ∷ 0xE0 ∷ 0xE4 ∷ 0x00 ∷ []) ++ replicate 4076 0

-- what the check answers, computed
verdicts : (check_of gpu card 16 ≡ Ok tt) × (check_of gpu card 12 ≡ Err (Broken Ending 0xF0300A)) × (check_of gpu jumping 12 ≡ Ok tt) × (check_of gpu switching 28 ≡ Ok tt) × (check_of gpu indexing 20 ≡ Ok tt)
unfolding card jumping switching indexing check_of rules_of broken_in first_bad scan item_at item_of transfer_of is_start is_target learn ok1 ok2 ok3 ok4 ok5 ok6 decoded_at instruction_at
verdicts = (refl, refl, refl, refl, refl)

pub card_admitted : check_of gpu card 16 ≡ Ok tt
card_admitted = verdicts.0

-- cut before its JR: the last instruction, a NOP, follows no jump with condition 0
pub card_cut : check_of gpu card 12 ≡ Err (Broken Ending 0xF0300A)
card_cut = verdicts.1

pub jumping_admitted : check_of gpu jumping 12 ≡ Ok tt
jumping_admitted = verdicts.2

pub switching_admitted : check_of gpu switching 28 ≡ Ok tt
switching_admitted = verdicts.3

pub indexing_admitted : check_of gpu indexing 20 ≡ Ok tt
indexing_admitted = verdicts.4

-- every run of a program from a state that begins is safe
abbrev pub AlwaysSafe : List ℕ → ℕ → Type 0
AlwaysSafe program C =
    (memory : Memory) (s : State) → Loaded gpu program C memory s → (budget : ℕ) → budget ≤ budget_limit → Safe gpu (take C program) memory s budget

pub card_safe : AlwaysSafe card 16
card_safe = gpu_demand3.safely card 16 card_admitted

pub jumping_safe : AlwaysSafe jumping 12
jumping_safe = gpu_demand3.safely jumping 12 jumping_admitted

pub switching_safe : AlwaysSafe switching 28
switching_safe = gpu_demand3.safely switching 28 switching_admitted

pub indexing_safe : AlwaysSafe indexing 20
indexing_safe = gpu_demand3.safely indexing 20 indexing_admitted

abbrev start : State
start = start_state gpu

unfoldable pub below : ℕ → List ℕ → Bool
below n [] = true
below n (x ∷ l) = ltb x n && below n l

pub below_at : (n : ℕ) → 0 < n → (l : List ℕ) → below n l ≡ true → (i : ℕ) → get_or l i 0 < n
unfolding below
below_at n z [] e i = z
below_at n z (x ∷ l) e zero = ltb-true x n (and_l (ltb x n) (below n l) e)
below_at n z (x ∷ l) e (suc i) = below_at n z l (and_r (ltb x n) (below n l) e) i

pub card_memory : IsMemory gpu.size (lent card)
unfolding card below
card_memory = record { whole = refl; bytes = record { ram_bytes = record { bytes = below_at 256 (omega arith) card refl } } }

zero_bank : IsBank (replicate 32 0)
unfolding below
zero_bank = record { registers = refl; words = below_at (2 ^ 32) (omega arith) (replicate 32 0) refl }

start_state_lem : IsState start
start_state_lem =
    record {
      first_bank = zero_bank;
      second_bank = zero_bank;
      core_typed =
          record {
            bank_bit = omega arith;
            flag_bits = record { z_bit = omega arith; n_bit = omega arith; c_bit = omega arith };
            pc_word = omega arith;
            pending_word = tt;
            remainder_word = omega arith;
            mode_bit = omega arith;
            accumulator_word = omega arith;
          };
    }

start_begins : StartState gpu start
start_begins = record { runs = refl; at_first = refl; none_pending = refl }

-- no assumption is left but the budget's limit
pub card_safe_from_start : (budget : ℕ) → budget ≤ budget_limit → Safe gpu (take 16 card) (lent card) start budget
card_safe_from_start =
    card_safe (lent card) start (record { is_memory = card_memory; same_code = refl; is_state = start_state_lem; begins = start_begins })
