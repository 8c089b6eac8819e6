-- Two's complement, over the width: a signed number and its bits, by cases on its sign.
-- Assumes nothing.
use mathlib.Core.Path.{◌≡◌, refl, ap, ◌∙◌}
use mathlib.Core.Bool.{Bool, true, false, cond}
use Prim.Native.Nat.{ℕ, zero, suc, ◌+◌, ◌*◌, ◌%◌, ◌<◌, ◌≤◌, ◌^◌}
use native.Mathlib.Omega.{arith}
use native.Mathlib.Nat.{lt_of_le_of_lt, mul-le-mul, mod-lt}
use lib.Pow.{pow_pos, pow-add, pow-lt}
use borrow.Author.Tests.{ltb-true, ltb-false, lt-ltb, le-ltb}
use lib.Dec.{ltb, le→leb}
use lib.IntN.{ℤ, pos, negsuc, neg_ℤ, nat_abs, ◌-ℤ◌, ◌*ℤ◌}
use lib.Signed.{lt_z, mag, shr_z, mag_shr, nat_abs-le}
use mir.Syntax.{Width, w16, w32}
use mir.Val.{SFits, Fits, bits, hbits, to_z, of_z}
use mir.Facts.{to_z-of_z, to_z_pos, sfits_to_z, sfits_widen}

-- -1 - m
below_zero : (m : ℕ) → negsuc 0 -ℤ pos m ≡ negsuc m
below_zero zero = refl
below_zero (suc m) = ap negsuc (omega arith)

-- -1 - (-(n + 1))
pub above_zero : (n : ℕ) → negsuc 0 -ℤ negsuc n ≡ pos n
above_zero n = rw (le-ltb (suc n) 1 (omega arith)) (ap pos (omega arith))

-- -1 less a number of the lower half: it fits, and it is the number whose bits lie that far below the top
module _ (w : Width) (m : ℕ) (small : m < 2 ^ hbits w) where
  less : negsuc 0 -ℤ to_z w m ≡ negsuc m
  less = rw (to_z_pos w small) (below_zero m)

  pub less_fits : SFits w (negsuc 0 -ℤ to_z w m)
  less_fits = rw less (record { sfits = small })

  pub less_is : (x : ℕ) → 2 ^ hbits w ≤ x → suc m + x ≡ 2 ^ bits w → to_z w (of_z w (negsuc 0 -ℤ to_z w m)) ≡ to_z w x
  less_is x high e = to_z-of_z less_fits ∙ rw (less, le-ltb x (2 ^ hbits w) high) (ap negsuc (omega arith))

-- 16 bits moved up by 2^15, wrapped, and moved down again are the signed number that they stand for
module _ (k up : ℕ) (fits : k < 65536) (e : up ≡ (k + 32768) % 65536) where
  halves : (t : Bool) → ltb k 32768 ≡ t → pos up -ℤ pos 32768 ≡ to_z w16 k
  halves true h =
      let s : k < 32768 = ltb-true k 32768 h in rw (h, le-ltb up 32768 (omega arith)) (ap pos (omega arith))
  halves false h =
      let s : 32768 ≤ k = ltb-false k 32768 h in rw (h, lt-ltb up 32768 (omega arith)) (ap negsuc (omega arith))

  pub centred : to_z w32 up -ℤ to_z w32 32768 ≡ to_z w16 k
  centred = rw (to_z_pos w32 {n = up} (omega arith)) (halves (ltb k 32768) refl)

  pub centred_fits : SFits w32 (to_z w32 up -ℤ to_z w32 32768)
  centred_fits = rw centred (sfits_widen {w = w16} {w' = w32} tt (sfits_to_z {w = w16} {n = k} (record { fits = fits })))

  pub centred_is : to_z w32 (of_z w32 (to_z w32 up -ℤ to_z w32 32768)) ≡ to_z w16 k
  centred_is = to_z-of_z centred_fits ∙ centred

-- what a test against 0 says of a number
pub by_sign : {w : Width} {z : ℤ} {t : Bool} → SFits w z → lt_z (to_z w (of_z w z)) (pos 0) ≡ t → z ≡ cond t (negsuc (mag z)) (pos (mag z))
by_sign {w} {z} f h = rw (← h, to_z-of_z f) (go z)
  where
    go : (z : ℤ) → z ≡ cond (lt_z z (pos 0)) (negsuc (mag z)) (pos (mag z))
    go (pos n) = rw (le-ltb n 0 (omega arith))
    go (negsuc n) = refl

-- a shift to the right fits
pub shr_fits : {w : Width} {d : ℕ} (m : ℕ) → Fits w d → SFits w (shr_z (to_z w d) m)
shr_fits {w} {d} m f = record { sfits = lt_of_le_of_lt (mag_shr (to_z w d) m) (sfits_to_z f).sfits }

mag_most : (z : ℤ) → mag z ≤ nat_abs z
mag_most (pos n) = omega arith
mag_most (negsuc n) = omega arith

abs_neg : (k : ℕ) → nat_abs (neg_ℤ (pos k)) ≡ k
abs_neg zero = refl
abs_neg (suc k) = refl

abs_mul : (a b : ℤ) → nat_abs (a *ℤ b) ≡ nat_abs a * nat_abs b
abs_mul (pos a) (pos b) = refl
abs_mul (pos a) (negsuc b) = abs_neg (a * suc b)
abs_mul (negsuc a) (pos b) = abs_neg (suc a * b)
abs_mul (negsuc a) (negsuc b) = refl

-- the low bits of a number, as a signed number
pub narrow : {w : Width} (n : ℕ) → SFits w (to_z w (n % 2 ^ bits w))
narrow {w} n = sfits_to_z (record { fits = mod-lt n (pow_pos (bits w)) })

-- the product of two signed numbers fits a width that is twice as wide
module _ (v w : Width) (twice : hbits v + hbits v < hbits w) where
  pub mul_fits : (a b : ℤ) → SFits v a → SFits v b → SFits w (a *ℤ b)
  mul_fits a b f g =
      let m = mul-le-mul (nat_abs-le a f.sfits) (nat_abs-le b g.sfits) in
      record { sfits = omega (arith, mag_most (a *ℤ b), abs_mul a b, m, pow-add 2 (hbits v) (hbits v), pow-lt twice) }

  widened : {z : ℤ} (n : ℕ) → z ≡ to_z v (n % 2 ^ bits v) → to_z w (of_z w z) ≡ to_z v (n % 2 ^ bits v)
  widened n e = rw e (to_z-of_z {w = w} (sfits_widen {w = v} (le→leb (hbits v) (hbits w) (omega arith)) (narrow n)))

  module _ {a b : ℤ} (x y : ℕ) (ea : a ≡ to_z v (x % 2 ^ bits v)) (eb : b ≡ to_z v (y % 2 ^ bits v)) where
    pub product_fits : SFits w (to_z w (of_z w a) *ℤ to_z w (of_z w b))
    product_fits = rw (widened x ea, widened y eb) (mul_fits _ _ (narrow x) (narrow y))

    pub product_is : to_z w (of_z w (to_z w (of_z w a) *ℤ to_z w (of_z w b))) ≡ to_z v (x % 2 ^ bits v) *ℤ to_z v (y % 2 ^ bits v)
    product_is = to_z-of_z {w = w} product_fits ∙ rw (widened x ea, widened y eb)
