-- What owning a state tells of it: its banks and numbers.
-- Assumes nothing.
use Rattle.std.proofs.Common.{ℕ, zero, suc, ◌^◌, ◌<◌, List, [], ◌∷◌, get_or, arith, w32, Option, Some, None}
use mir.Val.{Val}
use denote.Shadow.{shadow}
use denote.Laws.{Is}
use denote.Array.{Array, each}
use denote.Plain.{UInt}
use denote.Struct.Declared.{row}
use denote.Builtin.{u32}
use Rattle.std.specs.contracts.option.Option as Q
use Rattle.values.proofs.Bits.{bit_fits}
use Rattle.gpu_core.specs.Types.{IsBank, IsPending}
use Rattle.machine.specs.declared.State.{State}
use Rattle.machine.specs.State.{IsState}
use Rattle.machine.specs.contracts.State as S

words : (xs : List ℕ) (us : List Val) → shadow (each ℕ (UInt w32).own_val xs us) → (i : ℕ) → get_or xs i 0 < 2 ^ 32
words [] us h i = omega arith
words (x ∷ xs) [] h i = absurd h
words (x ∷ xs) (u ∷ us) h zero = h.0.1
words (x ∷ xs) (u ∷ us) h (suc i) = words xs us h.1 i

bank : (xs : List ℕ) (vs : List Val) → Is (Array (UInt w32) 32) xs vs → IsBank xs
bank xs vs h = record { registers = h.1.0.1; words = words xs h.0 h.1.1 }

target : (p : Option ℕ) (vs : List Val) → Is (Q.the_field u32).row ((Q.the_field u32).into p) vs → IsPending p
target None vs h = tt
target (Some t) vs h = h.1.1.1.1.0.1

pub is_state : (s : State) (vs : List Val) → Is (row S.the_type) s vs → IsState s
is_state s vs h =
    let f = h.1.1 in
    record {
      first_bank = bank s.bank0 _ f.0;
      second_bank = bank s.bank1 _ f.1.0;
      core_typed =
          record {
            bank_bit = bit_fits s.second;
            flag_bits = record { z_bit = bit_fits s.z; n_bit = bit_fits s.n; c_bit = bit_fits s.c };
            pc_word = f.1.1.1.1.1.1.0.1;
            pending_word = target s.pending _ f.1.1.1.1.1.1.1.0;
            remainder_word = f.1.1.1.1.1.1.1.1.0.1;
            mode_bit = bit_fits s.mode;
            accumulator_word = f.1.1.1.1.1.1.1.1.1.1.0.1;
          };
    }
