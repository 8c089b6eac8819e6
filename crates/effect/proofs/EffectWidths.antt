-- What an instruction computes fits: words of 32 bits and flags of one bit, where its operands do.
-- Assumes nothing.
use Rattle.std.proofs.Common.{ℕ, ◌/◌, ◌%◌, ◌^◌, ◌<◌, Bool, true, false, cond, eqb, List, [], ◌∷◌, arith}
use Rattle.isa.specs.declared.Instr.{Instr}
use Rattle.isa.specs.declared.Instr.TheVariants.{Nop}
use Rattle.field.specs.Fields.{quick_of, signed_field_of}
use Rattle.isa.specs.Table.{form_of, instructions}
use Rattle.isa.specs.Words.{opcode_in, among}
use Rattle.values.specs.Results.{IsFlags}
use Rattle.values.specs.Signed.{unsigned_of}
use Rattle.values.proofs.Bits.{bit_fits}
use Rattle.shifter.specs.Shift.{right_of, right_signed_of}
use Rattle.effect.specs.declared.Operands.{Operands}
use Rattle.effect.specs.declared.Effect.{Effect}
use Rattle.effect.specs.declared.Effect.TheVariants as E
use Rattle.effect.specs.Effects.{effect_of}
use Rattle.effect.proofs.Widths.{Fit, flags_fit, abs_fit, left_fit, right_fit, right_signed_fit, rotate_fit, shift_fit, add_fit, addc_fit, sub_fit, subc_fit, div_fits, and_fit, or_fit, xor_fit, not_fit, bset_fit, bclr_fit, mult_fit, imult_fit, saturated_fit, mtoi_fit, normi_fit}

-- operands of 32 bits, and bits as flags
pub record OperandsFit (x : Operands) : Type 0 where
  pub s_fits : x.s < 2 ^ 32
  pub d_fits : x.d < 2 ^ 32
  pub acc_fits : x.acc < 2 ^ 32
  pub n_fits : x.n < 2
  pub c_fits : x.c < 2

abbrev pub EffectFits : Effect → Type 0
EffectFits E.Nothing = Unit {0}
EffectFits (E.Write d r) = Fit r
EffectFits (E.Keep d n) = n < 2 ^ 32
EffectFits (E.Flags f) = IsFlags f
EffectFits (E.Divide d q) = (q.quotient < 2 ^ 32) × (q.remainder < 2 ^ 32)
EffectFits (E.Product r) = Fit r
EffectFits (E.Accumulate n) = n < 2 ^ 32
EffectFits (E.ToOther d n) = n < 2 ^ 32
EffectFits (E.FromOther s d) = Unit {0}
EffectFits (E.Immediate d) = Unit {0}
EffectFits (E.Counter d) = Unit {0}
EffectFits (E.Jump condition target) = target < 2 ^ 32
EffectFits (E.Load d address) = Unit {0}
EffectFits (E.Store address n) = n < 2 ^ 32

quick_fits : (q : ℕ) → quick_of q < 2 ^ 32
quick_fits q = go (eqb (q % 32) 0)
  where
    go : (t : Bool) → cond t 32 (q % 32) < 2 ^ 32
    go true = omega arith
    go false = omega arith

-- something that holds of each instruction of a list
abbrev pub Each : (Instr → Type 0) → List Instr → Type 0
Each Q [] = Unit {0}
Each Q (i ∷ is) = Q i × Each Q is

infixr 4 ◌⊗◌
pub ◌⊗◌ : {A B : Type 0} → A → B → A × B
a ⊗ b = (a, b)

module _ (Q : Instr → Type 0) (op : ℕ) (none : Q Nop) where
  -- holds of the one that has the opcode
  pub found : (is : List Instr) → Each Q is → Q (among op is)
  found [] h = none
  found (i ∷ is) h = go (found is h.1) (eqb (opcode_in (form_of i)) op)
    where
      go : Q (among op is) → (t : Bool) → Q (cond t i (among op is))
      go later true = h.0
      go later false = later

module _ (a : List ℕ) (x : Operands) (h : OperandsFit x) where
  -- in the order of the table
  each : (s d : ℕ) → Each (λ i. EffectFits (effect_of i a x)) (instructions s d)
  each s d =
      add_fit x.d h.d_fits x.s h.s_fits
      ⊗ addc_fit x.d h.d_fits x.s h.s_fits x.c
      ⊗ add_fit x.d h.d_fits (quick_of s) (quick_fits s)
      ⊗ (add_fit x.d h.d_fits (quick_of s) (quick_fits s)).value_fits
      ⊗ sub_fit x.d h.d_fits x.s
      ⊗ subc_fit x.d h.d_fits x.s x.c
      ⊗ sub_fit x.d h.d_fits (quick_of s)
      ⊗ (sub_fit x.d h.d_fits (quick_of s)).value_fits
      ⊗ sub_fit 0 (omega arith) x.d
      ⊗ and_fit x.c h.c_fits x.d x.s h.d_fits
      ⊗ or_fit x.c h.c_fits x.d x.s h.d_fits h.s_fits
      ⊗ xor_fit x.c h.c_fits x.d x.s h.d_fits h.s_fits
      ⊗ not_fit x.c h.c_fits x.d
      ⊗ record { z_bit = bit_fits (eqb (x.d / 2 ^ (s % 32) % 2) 0); n_bit = h.n_fits; c_bit = h.c_fits }
      ⊗ bset_fit x.c h.c_fits x.d s h.d_fits
      ⊗ bclr_fit x.c h.c_fits x.d s h.d_fits
      ⊗ mult_fit x.c h.c_fits x.d x.s
      ⊗ imult_fit x.c h.c_fits x.d x.s
      ⊗ imult_fit x.c h.c_fits x.d x.s
      ⊗ h.acc_fits
      ⊗ omega arith
      ⊗ div_fits x.d h.d_fits x.s h.s_fits x.mode
      ⊗ abs_fit x.d h.d_fits
      ⊗ shift_fit x.d h.d_fits right_of (right_fit x.d h.d_fits) x.s
      ⊗ left_fit x.d h.d_fits (quick_of s)
      ⊗ right_fit x.d h.d_fits (quick_of s)
      ⊗ shift_fit x.d h.d_fits right_signed_of (right_signed_fit x.d h.d_fits) x.s
      ⊗ right_signed_fit x.d h.d_fits (quick_of s)
      ⊗ rotate_fit x.d h.d_fits x.s
      ⊗ rotate_fit x.d h.d_fits (quick_of s)
      ⊗ flags_fit _ (sub_fit x.d h.d_fits x.s)
      ⊗ flags_fit _ (sub_fit x.d h.d_fits (unsigned_of (signed_field_of s)))
      ⊗ saturated_fit x.c h.c_fits 255 x.d (omega arith)
      ⊗ saturated_fit x.c h.c_fits 65535 x.d (omega arith)
      ⊗ h.s_fits
      ⊗ omega arith
      ⊗ h.s_fits
      ⊗ tt
      ⊗ tt
      ⊗ tt
      ⊗ tt
      ⊗ tt
      ⊗ h.d_fits
      ⊗ h.d_fits
      ⊗ h.d_fits
      ⊗ tt
      ⊗ h.s_fits
      ⊗ omega arith
      ⊗ mtoi_fit x.c h.c_fits x.s
      ⊗ normi_fit x.c h.c_fits x.s
      ⊗ tt
      ⊗ tt
      ⊗ tt
      ⊗ h.d_fits
      ⊗ h.d_fits
      ⊗ saturated_fit x.c h.c_fits 16777215 x.d (omega arith)
      ⊗ tt

  pub effect_fits : (op s d : ℕ) → EffectFits (effect_of (among op (instructions s d)) a x)
  effect_fits op s d = found (λ i. EffectFits (effect_of i a x)) op tt (instructions s d) (each s d)
