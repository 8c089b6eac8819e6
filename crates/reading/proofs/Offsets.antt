-- The code by offsets from its processor's base.
-- Assumes nothing.
use Rattle.std.proofs.Common.{Option}
use Prim.Native.Nat.{ℕ, ◌+◌, ◌-◌}
use mathlib.Core.Path.{◌≡◌, sym, ◌∙◌, ap}
use mathlib.Core.List.{List}
use native.Mathlib.Omega.{arith}
use Rattle.processor.specs.Processor.{Processor}
use Rattle.items.specs.declared.Item.{Item}
use Rattle.items.specs.Items.{item_of, shape_of, bytes_of}
use Rattle.rules.specs.Reading.{item_at, after}
use Rattle.reading.specs.Offsets.{Here}

module _ (P : Processor) where
  pub item_at_lem : (code : List ℕ) (i : ℕ) → item_at P code (P.base + i) ≡ item_of P code i
  unfolding item_at
  item_at_lem code i =
      let e : (P.base + i) - P.base ≡ i = omega arith in
      ap (λ j. item_of P code j) e

  pub item_here : {code : List ℕ} {i : ℕ} {t : Option Item} → Here P code i t → item_at P code (P.base + i) ≡ t
  item_here {code} {i} h = item_at_lem code i ∙ sym h.same

  pub after_at : (code : List ℕ) (i : ℕ) (t : Option Item) → t ≡ item_of P code i → after P code (P.base + i) ≡ P.base + (i + bytes_of (shape_of t))
  after_at code i t e = omega (arith, ap (λ u. bytes_of (shape_of u)) (item_at_lem code i ∙ sym e))
