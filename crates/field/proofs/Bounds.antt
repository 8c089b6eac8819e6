-- Bounds of what a field says.
-- Assumes nothing.
use Prim.Native.Nat.{ℕ, suc, ◌-◌, ◌%◌, ◌<◌, ◌≤◌}
use mathlib.Core.Path.{◌≡◌}
use mathlib.Core.Bool.{Bool, true, false, cond}
use native.Mathlib.Omega.{arith}
use borrow.Author.Tests.{lt-ltb}
use lib.Dec.{eqb}
use lib.IntN.{pos, negsuc, ◌-ℤ◌}
use Rattle.field.specs.Fields.{quick_of}

-- a quick number is at most 32
pub quick_most : (q : ℕ) → quick_of q ≤ 32
quick_most q = go (eqb (q % 32) 0)
  where
    go : (t : Bool) → cond t 32 (q % 32) ≤ 32
    go true = omega arith
    go false = omega arith

-- a field of five bits less 32
pub minus_32 : (k : ℕ) → k < 32 → pos k -ℤ pos 32 ≡ negsuc (32 - suc k)
minus_32 k h = rw (lt-ltb k 32 h)
