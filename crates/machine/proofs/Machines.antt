-- The machine of a state and the state of a machine: there and back it is the same, and the types are kept.
-- Assumes nothing.
use Rattle.std.proofs.Common.{◌≡◌, ℕ, ◌%◌, ◌<◌, Bool, true, false, cond, List, [], sym, refl, ◌∙◌, arith, eqb-true}
use borrow.Author.Tests.{eqb-false}
use Rattle.values.specs.Results.{bit_of, is_one}
use Rattle.gpu_core.specs.declared.Core.{Core}
use Rattle.answers.specs.declared.Activity.{Activity}
use Rattle.gpu_core.specs.Machine.{Memory, Machine, machine_with}
use Rattle.gpu_core.specs.Types.{IsCore, IsMemory, IsMachine}
use Rattle.machine.specs.declared.State.{State}
use Rattle.machine.specs.State.{core_of, state_with, machine_of, state_of, IsState}

-- exchanged and exchanged back
pub settled : {A : Type 0} (t : Bool) (x y : A) → cond t (cond t x y) (cond t y x) ≡ x
settled true x y = refl
settled false x y = refl

-- a bit as a truth value and back, and the other way round
pub bit_back : (n : ℕ) → bit_of (is_one n) ≡ n % 2
bit_back n = go (is_one n) refl
  where
    go : (t : Bool) → is_one n ≡ t → bit_of t ≡ n % 2
    go true e = sym (eqb-true (n % 2) 1 e)
    go false e = omega (arith, eqb-false (n % 2) 1 e)

bit_same : (n : ℕ) → n < 2 → bit_of (is_one n) ≡ n
bit_same n h = bit_back n ∙ omega arith

back_bit : (t : Bool) → is_one (bit_of t) ≡ t
back_bit true = refl
back_bit false = refl

pub state_machine : (s : State) (memory : Memory) → state_of s.activity (machine_of s memory) ≡ s
state_machine s memory =
    rw (back_bit s.second, back_bit s.z, back_bit s.n, back_bit s.c, back_bit s.mode, settled s.second s.bank0 s.bank1, settled s.second s.bank1 s.bank0)

same_core : (k : Core) (bank0 bank1 : List ℕ) (activity : Activity) → IsCore k → core_of (state_with bank0 bank1 k activity) ≡ k
same_core k bank0 bank1 activity h =
    rw (bit_same k.bank h.bank_bit, bit_same k.flags.z h.flag_bits.z_bit, bit_same k.flags.n h.flag_bits.n_bit, bit_same k.flags.c h.flag_bits.c_bit, bit_same k.mode h.mode_bit)

pub machine_state : (activity : Activity) (m : Machine) → IsCore m.core → machine_of (state_of activity m) m.memory ≡ m
machine_state activity m h =
    rw (back_bit (is_one m.core.bank), settled (is_one m.core.bank) m.active m.other, settled (is_one m.core.bank) m.other m.active, same_core m.core [] [] activity h)

pub machine_typed : (size : ℕ) (s : State) (memory : Memory) → IsState s → IsMemory size memory → IsMachine size (machine_of s memory)
machine_typed size s memory is typed = go (is_one (bit_of s.second))
  where
    go : (t : Bool) → IsMachine size (machine_with (cond t s.bank1 s.bank0) (cond t s.bank0 s.bank1) (core_of s) memory)
    go true = record { active_bank = is.second_bank; other_bank = is.first_bank; core_typed = is.core_typed; memory_typed = typed }
    go false = record { active_bank = is.first_bank; other_bank = is.second_bank; core_typed = is.core_typed; memory_typed = typed }

pub left_typed : (size : ℕ) (activity : Activity) (m : Machine) → IsMachine size m → IsState (state_of activity m)
left_typed size activity m h = go (is_one m.core.bank)
  where
    core : (a b : List ℕ) → IsCore (core_of (state_with a b m.core activity))
    core a b = rw (same_core m.core a b activity h.core_typed) h.core_typed

    go : (t : Bool) → IsState (state_with (cond t m.other m.active) (cond t m.active m.other) m.core activity)
    go true = record { first_bank = h.other_bank; second_bank = h.active_bank; core_typed = core m.other m.active }
    go false = record { first_bank = h.active_bank; second_bank = h.other_bank; core_typed = core m.active m.other }
