-- Shifts by a signed number of places, over the right shift; rotations, over the width.
-- Assumes nothing.
use mathlib.Core.Path.{◌≡◌, sym, ◌∙◌, subst}
use mathlib.Core.Bool.{Bool, cond}
use Prim.Native.Nat.{ℕ, ◌+◌, ◌*◌, ◌/◌, ◌%◌, ◌^◌, ◌<◌}
use native.Mathlib.Nat.{add-zero, mul-mod_left, add_comm}
use lib.Bits.{bit_or, or_shifted_r}
use lib.Pow.{mod-pow-add, shl-shr, shr_lt}
use lib.IntN.{ℤ, pos, nat_abs}
use lib.Signed.{lt_z}
use mir.Syntax.{w32}
use mir.Val.{Fits, to_z, of_z}
use mir.Facts.{of_z-to_z}
use Rattle.values.specs.declared.Computed.{Computed}
use Rattle.values.specs.Signed.{signed_of}
use Rattle.shifter.specs.Shift.{left_of, shift_of}

-- what the test of the sign of s, its magnitude and the call of either shift give
pub shifted : (right : ℕ → ℕ → Computed) (d : ℕ) {s k : ℕ} {z : ℤ} {t : Bool} {r : Computed} → Fits w32 s → z ≡ signed_of s → lt_z (to_z w32 (of_z w32 z)) (pos 0) ≡ t → k ≡ nat_abs (signed_of s) → r ≡ cond t (left_of d k) (right d k) → r ≡ shift_of right d s
shifted right d f e h m q = rw (q, m, ← h, e, of_z-to_z f)

-- a left shift by j at the width k + j keeps the low k bits
shl_keeps : (a k j : ℕ) → (a * 2 ^ j) % 2 ^ (k + j) ≡ (a % 2 ^ k) * 2 ^ j
shl_keeps a k j = mod-pow-add (a * 2 ^ j) k j ∙ rw (shl-shr a j, mul-mod_left a (2 ^ j), add-zero)

-- a rotation by k at the width w = k + j
pub rotated : (a k j w : ℕ) → k + j ≡ w → a < 2 ^ w → bit_or (a / 2 ^ k) (a * 2 ^ j % 2 ^ w) ≡ a % 2 ^ k * 2 ^ j + a / 2 ^ k
rotated a k j w e h =
    rw (sym e, shl_keeps a k j) (or_shifted_r (a % 2 ^ k) j (a / 2 ^ k) (shr_lt j k (subst (λ (m : ℕ). a < 2 ^ m) (sym e ∙ add_comm k j) h)))
