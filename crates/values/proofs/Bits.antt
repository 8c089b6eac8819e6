-- A truth value as a number is a bit.
-- Assumes nothing.
use Prim.Native.Nat.{◌<◌}
use mathlib.Core.Bool.{Bool, true, false}
use native.Mathlib.Omega.{arith}
use Rattle.values.specs.Results.{bit_of}

pub bit_fits : (t : Bool) → bit_of t < 2
bit_fits true = omega arith
bit_fits false = omega arith
