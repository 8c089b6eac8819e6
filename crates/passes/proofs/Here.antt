-- Rules 1 to 5 at an offset of the code, told by what stands there.
-- Assumes nothing.
use Rattle.std.proofs.Common.{Option}
use Prim.Native.Nat.{ℕ, ◌+◌}
use mathlib.Core.Path.{◌≡◌, refl, sym, ◌∙◌}
use mathlib.Core.Bool.{true, not, ◌&&◌, ◌||◌}
use mathlib.Core.List.{List}
use native.Mathlib.Omega.{arith}
use borrow.Author.Tests.{eq-eqb, ne_eqb, lt-ltb, le-ltb, le-leb, lt-leb, eqb-true, eqb-false, ltb-true, ltb-false, leb-true, leb-false}
use lib.Dec.{eqb, ltb, leb}
use lib.ListN.{length}
use Rattle.processor.specs.Processor.{Processor}
use Rattle.items.specs.declared.Item.{Item}
use Rattle.items.specs.declared.Shape.{Shape}
use Rattle.items.specs.declared.Shape.TheVariants.{Other, Movei, MovePc, Jr, Jump, Load, Store}
use Rattle.items.specs.Items.{item_of, shape_of, bytes_of, is_jump, always, is_built}
use Rattle.rules.specs.Reading.{breaks_slot}
use Rattle.rules.specs.Check.{is_target, ok1, ok2, ok3, ok4, ok5, jr_ok, jump_ok}
use Rattle.values.proofs.Booleans.{by}
use Rattle.reading.specs.Offsets.{Here}
use Rattle.reading.proofs.Offsets.{item_at_lem, item_here}

module _ (P : Processor) (code : List ℕ) (a : ℕ) where
  -- what is no JR, and what is no JUMP, is not asked
  pub jr_other : (u : Shape) → ((n c : ℕ) → u ≡ Jr n c → ⊥) → true ≡ jr_ok P code a u
  jr_other Other h = refl
  jr_other (Movei d v) h = refl
  jr_other MovePc h = refl
  jr_other (Jr n c) h = absurd (h n c refl)
  jr_other (Jump r c) h = refl
  jr_other (Load m) h = refl
  jr_other (Store m) h = refl

  pub jump_other : (p u : Shape) → ((r c : ℕ) → u ≡ Jump r c → ⊥) → true ≡ jump_ok P code a p u
  jump_other p Other h = refl
  jump_other p (Movei d v) h = refl
  jump_other p MovePc h = refl
  jump_other p (Jr n c) h = refl
  jump_other p (Jump r c) h = absurd (h r c refl)
  jump_other p (Load m) h = refl
  jump_other p (Store m) h = refl

module _ (P : Processor) where
  -- A test of two offsets is that of their addresses.
  pub leb_base : (a b : ℕ) → leb (P.base + a) (P.base + b) ≡ leb a b
  leb_base a b =
      by (leb a b)
      (λ t. le-leb (P.base + a) (P.base + b) (omega (arith, leb-true a b t)) ∙ sym t)
      (λ t. lt-leb (P.base + a) (P.base + b) (omega (arith, leb-false a b t)) ∙ sym t)

  pub ltb_base : (a b : ℕ) → ltb (P.base + a) (P.base + b) ≡ ltb a b
  ltb_base a b =
      by (ltb a b)
      (λ t. lt-ltb (P.base + a) (P.base + b) (omega (arith, ltb-true a b t)) ∙ sym t)
      (λ t. le-ltb (P.base + a) (P.base + b) (omega (arith, ltb-false a b t)) ∙ sym t)

  pub eqb_base : (a b : ℕ) → eqb (P.base + a) (P.base + b) ≡ eqb a b
  eqb_base a b =
      by (eqb a b)
      (λ t. eq-eqb (P.base + a) (P.base + b) (omega (arith, eqb-true a b t)) ∙ sym t)
      (λ t. ne_eqb (P.base + a) (P.base + b) (λ e. eqb-false a b t (omega arith)) ∙ sym t)

  module _ {code : List ℕ} {i : ℕ} {t : Option Item} (h : Here P code i t) where
    -- where the shape there was told to be s
    module _ {s : Shape} (told : s ≡ shape_of t) (p : Option Item) where
      -- and to have n bytes
      module _ {n : ℕ} (e : n ≡ bytes_of s) where
        sums : P.base + i + n ≡ P.base + (i + n)
        sums = omega arith

        pub ok1_here : ok1 P code (P.base + i) p ≡ (is_built t && leb (i + n) (length code))
        unfolding ok1
        ok1_here = rw (item_here P h, ← told, ← e, sums, leb_base)

        pub ok4_here : ok4 P code (P.base + i) p ≡ (not (is_jump s) || (ltb (i + n) (length code) && not (breaks_slot (shape_of (item_of P code (i + n))))))
        unfolding ok4
        ok4_here = rw (item_here P h, ← told, ← e, sums, ltb_base, item_at_lem P)

        pub ok5_here : ok5 P code (P.base + i) p ≡ (not (eqb (i + n) (length code)) || (always (shape_of p) && not (is_target P code (P.base + i))))
        unfolding ok5
        ok5_here = rw (item_here P h, ← told, ← e, sums, eqb_base)

      -- and to be u
      module _ {u : Shape} (e : s ≡ u) where
        pub ok2_here : jr_ok P code (P.base + i) u ≡ ok2 P code (P.base + i) p
        unfolding ok2
        ok2_here = rw (item_here P h, ← told, e)

        pub ok3_here : jump_ok P code (P.base + i) (shape_of p) u ≡ ok3 P code (P.base + i) p
        unfolding ok3
        ok3_here = rw (item_here P h, ← told, e)
