-- `rotate` meets its contract, by the law of rotations at every width.
use native.Mathlib.Omega.{arith}
use mathlib.Core.Path.{ap}
use Prim.Native.Nat.{ℕ, ◌-◌, ◌/◌, ◌%◌, ◌^◌}
use Rattle.values.specs.Results.{computed_of}
use Rattle.shifter.proofs.Shifts.{rotated}
use Rattle.shifter.proofs.shift.rotate.Goals as goal

pub returns-else-n-eq0 : goal.returns-else-n-eq0
returns-else-n-eq0 c =
    let a = c.args in
    ap (λ (v : ℕ). computed_of v (a.d / 2 ^ 31))
    (rotated a.d (a.k % 32) (32 - a.k % 32) 32 (omega arith) c.ranges.d.fits)
