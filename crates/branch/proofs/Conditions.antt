-- Condition bits that are zero ask nothing, whatever the flags: condition 0 is always met.
-- Assumes nothing.
use Prim.Native.Nat.{ℕ}
use mathlib.Core.Path.{◌≡◌, refl}
use mathlib.Core.Bool.{Bool, true, false, cond}
use lib.Dec.{eqb}
use Rattle.values.specs.declared.Flags.{Flags}
use Rattle.branch.specs.Jump.{chosen_of, met_of, taken_of}

nothing_asked : (flag : ℕ) → met_of 0 0 flag ≡ true
nothing_asked flag = go (eqb flag 1)
  where
    go : (t : Bool) → cond t true true ≡ true
    go true = refl
    go false = refl

pub always_taken : (f : Flags) → taken_of 0 f ≡ true
unfolding taken_of
always_taken f = rw (nothing_asked f.z, nothing_asked (chosen_of 0 f))
