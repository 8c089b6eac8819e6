-- Every operation's result fits 32 bits, and its flags are bits, where its operands are so.
-- Assumes nothing.
use Rattle.std.proofs.Common.{◌≡◌, ℕ, ◌+◌, ◌-◌, ◌*◌, ◌/◌, ◌%◌, ◌^◌, ◌<◌, ◌≤◌, Bool, true, false, cond, eqb, ltb, ℤ, pos, negsuc, nat_abs, refl, subst, lt_trans, lt_of_le_of_lt, mod-lt, arith, w16, w32, to_z, ltb-false}
use borrow.Author.Tests.{eqb-false}
use lib.Bits.{and_le_l, or_lt, xor_lt}
use lib.Pow.{pow-lt, shr_le}
use lib.Signed.{nat_abs-le, lt_z}
use mir.Facts.{sfits_to_z, Fits-of_z}
use Rattle.values.specs.declared.Computed.{Computed}
use Rattle.values.specs.Results.{computed_of, flags_of, IsFlags}
use Rattle.values.proofs.Bits.{bit_fits}
use Rattle.values.proofs.TwosComplement.{mul_fits, narrow, shr_fits}
use Rattle.alu.specs.Add.{add_of, addc_of, sub_of, subc_of, abs_of}
use Rattle.alu.specs.Logic.{and_of, or_of, xor_of, not_of, bset_of, bclr_of}
use Rattle.multiplier.specs.Multiply.{mult_of, product_of, imult_of}
use Rattle.multiplier.specs.Divide.{divide_of, div_of}
use Rattle.multiplier.proofs.Products.{product_fits}
use Rattle.shifter.specs.Shift.{left_of, right_of, right_signed_of, shift_of, rotate_of}
use Rattle.shifter.specs.Saturate.{clamp_of, saturated_of}
use Rattle.shifter.specs.Normalise.{mtoi_of, normi_of}
use Rattle.shifter.proofs.Shifts.{rotated}

-- a result of 32 bits, and a bit as its carry
pub record Fit (r : Computed) : Type 0 where
  pub value_fits : r.value < 2 ^ 32
  pub carry_fits : r.carry < 2

pub flags_fit : (r : Computed) → Fit r → IsFlags (flags_of r)
flags_fit r f =
    record { z_bit = bit_fits (eqb r.value 0); n_bit = omega (arith, f.value_fits); c_bit = f.carry_fits }

-- a choice between two numbers that fit
chosen : (t : Bool) (a b top : ℕ) → a < top → b < top → cond t a b < top
chosen true a b top ha hb = ha
chosen false a b top ha hb = hb

either : (t : Bool) (a b : Computed) → Fit a → Fit b → Fit (cond t a b)
either true a b ha hb = ha
either false a b ha hb = hb

module _ (d : ℕ) (hd : d < 2 ^ 32) where
  pub abs_fit : Fit (abs_of d)
  abs_fit =
      record {
        value_fits = omega (arith, nat_abs-le (to_z w32 d) (sfits_to_z {w = w32} {n = d} (record { fits = hd })).sfits);
        carry_fits = omega arith;
      }

  pub left_fit : (k : ℕ) → Fit (left_of d k)
  left_fit k =
      record {
        value_fits = chosen (ltb k 32) (d * 2 ^ k % 2 ^ 32) 0 (2 ^ 32) (omega arith) (omega arith);
        carry_fits = omega arith;
      }

  pub right_fit : (k : ℕ) → Fit (right_of d k)
  right_fit k =
      record {
        value_fits = chosen (ltb k 32) (d / 2 ^ k) 0 (2 ^ 32) (lt_of_le_of_lt (shr_le d k) hd) (omega arith);
        carry_fits = omega arith;
      }

  pub right_signed_fit : (k : ℕ) → Fit (right_signed_of d k)
  right_signed_fit k =
      record {
        value_fits = (Fits-of_z (shr_fits {w = w32} (2 ^ cond (ltb k 32) k 31) (record { fits = hd }))).fits;
        carry_fits = omega arith;
      }

  pub rotate_fit : (k : ℕ) → Fit (rotate_of d k)
  rotate_fit k =
      record {
        value_fits =
            subst (λ (n : ℕ). n < 2 ^ 32) (rotated d (k % 32) (32 - k % 32) 32 (omega arith) hd)
            (or_lt 32 (d / 2 ^ (k % 32)) (d * 2 ^ (32 - k % 32) % 2 ^ 32) (lt_of_le_of_lt (shr_le d (k % 32)) hd) (omega arith));
        carry_fits = omega arith;
      }

  pub shift_fit : (right : ℕ → ℕ → Computed) → ((k : ℕ) → Fit (right d k)) → (s : ℕ) → Fit (shift_of right d s)
  shift_fit right fit s =
      either (lt_z (to_z w32 s) (pos 0)) _ _ (left_fit (nat_abs (to_z w32 s))) (fit (nat_abs (to_z w32 s)))

  -- a difference is a word whatever is taken away
  pub sub_fit : (s : ℕ) → Fit (sub_of d s)
  sub_fit s = record { value_fits = omega arith; carry_fits = bit_fits (ltb d s) }

  pub subc_fit : (s c : ℕ) → Fit (subc_of d s c)
  subc_fit s c = record { value_fits = omega arith; carry_fits = bit_fits (ltb d (s + c % 2)) }

  module _ (s : ℕ) (hs : s < 2 ^ 32) where
    pub add_fit : Fit (add_of d s)
    add_fit = record { value_fits = omega arith; carry_fits = omega arith }

    pub addc_fit : (c : ℕ) → Fit (addc_of d s c)
    addc_fit c = record { value_fits = omega arith; carry_fits = omega arith }

    pub div_fits : (mode : ℕ) → ((div_of d s mode).quotient < 2 ^ 32) × ((div_of d s mode).remainder < 2 ^ 32)
    div_fits mode = go (eqb s 0) refl
      where
        go : (t : Bool) → eqb s 0 ≡ t → ((cond t (record { quotient = 2 ^ 32 - 1; remainder = d }) (divide_of (cond (eqb mode 1) (d * 65536) d) s)).quotient < 2 ^ 32) × ((cond t (record { quotient = 2 ^ 32 - 1; remainder = d }) (divide_of (cond (eqb mode 1) (d * 65536) d) s)).remainder < 2 ^ 32)
        go true e = (omega arith, hd)
        go false e =
            let some : 0 < s = omega (arith, eqb-false s 0 e) in
            (omega arith, lt_trans (mod-lt (cond (eqb mode 1) (d * 65536) d) some) hs)

pub product_fit : (d s : ℕ) → product_of d s < 2 ^ 32
product_fit d s = (Fits-of_z (mul_fits w16 w32 (omega arith) _ _ (narrow d) (narrow s))).fits

clamp_fit : (top : ℕ) (z : ℤ) → clamp_of top z ≤ top
clamp_fit top (pos n) = go (ltb top n) refl
  where
    go : (t : Bool) → ltb top n ≡ t → cond t top n ≤ top
    go true e = omega arith
    go false e = omega (arith, ltb-false top n e)
clamp_fit top (negsuc n) = omega arith

-- the operations that hand C back
module _ (c : ℕ) (hc : c < 2) where
  with_c : (v : ℕ) → v < 2 ^ 32 → Fit (computed_of v c)
  with_c v h = record { value_fits = h; carry_fits = hc }

  pub and_fit : (d s : ℕ) → d < 2 ^ 32 → Fit (and_of d s c)
  and_fit d s hd = with_c _ (lt_of_le_of_lt (and_le_l d s) hd)

  pub or_fit : (d s : ℕ) → d < 2 ^ 32 → s < 2 ^ 32 → Fit (or_of d s c)
  or_fit d s hd hs = with_c _ (or_lt 32 d s hd hs)

  pub xor_fit : (d s : ℕ) → d < 2 ^ 32 → s < 2 ^ 32 → Fit (xor_of d s c)
  xor_fit d s hd hs = with_c _ (xor_lt 32 d s hd hs)

  pub not_fit : (d : ℕ) → Fit (not_of d c)
  not_fit d = with_c _ (omega arith)

  pub bset_fit : (d q : ℕ) → d < 2 ^ 32 → Fit (bset_of d q c)
  bset_fit d q hd = with_c _ (or_lt 32 d (2 ^ (q % 32)) hd (pow-lt {i = q % 32} {j = 32} (omega arith)))

  pub bclr_fit : (d q : ℕ) → d < 2 ^ 32 → Fit (bclr_of d q c)
  bclr_fit d q hd = with_c _ (lt_of_le_of_lt (and_le_l d (2 ^ 32 - 1 - 2 ^ (q % 32))) hd)

  pub mult_fit : (d s : ℕ) → Fit (mult_of d s c)
  mult_fit d s = with_c _ (product_fits 16 d s)

  pub imult_fit : (d s : ℕ) → Fit (imult_of d s c)
  imult_fit d s = with_c _ (product_fit d s)

  pub saturated_fit : (top d : ℕ) → top < 2 ^ 32 → Fit (saturated_of top d c)
  saturated_fit top d h = with_c _ (lt_of_le_of_lt (clamp_fit top (to_z w32 d)) h)

  pub mtoi_fit : (s : ℕ) → Fit (mtoi_of s c)
  mtoi_fit s = with_c _ (chosen (ltb s (2 ^ 31)) _ _ (2 ^ 32) (omega arith) (omega arith))

  pub normi_fit : (s : ℕ) → Fit (normi_of s c)
  normi_fit s = with_c _ (chosen (eqb s 0) _ _ (2 ^ 32) (omega arith) (omega arith))
