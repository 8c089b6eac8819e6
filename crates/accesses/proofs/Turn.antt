-- A turn of the pass for rule 6: what is asked and what is learnt at an item of the code.
-- Assumes nothing.
use Rattle.std.proofs.Common.{Option, Some, None}
use Prim.Native.Nat.{ℕ, ◌+◌}
use mathlib.Core.Path.{◌≡◌, refl, sym, subst, ◌∙◌, ap}
use mathlib.Core.Bool.{Bool, true, cond}
use mathlib.Core.List.{List}
use native.Mathlib.Omega.{arith}
use lib.ListN.{length}
use Rattle.processor.specs.Processor.{Processor}
use Rattle.items.specs.declared.Item.{Item}
use Rattle.items.specs.declared.Shape.{Shape}
use Rattle.items.specs.declared.Shape.TheVariants.{Other, Movei, MovePc, Jr, Jump, Load, Store}
use Rattle.items.specs.Items.{shape_of, bytes_of, class_in, long_in}
use Rattle.ranges.specs.declared.Range.{Range}
use Rattle.ranges.specs.Ranges.{unknown}
use Rattle.rules.specs.Reading.{end_of}
use Rattle.rules.specs.Known.{transfer, transfer_of}
use Rattle.rules.specs.Check.{access_ok, is_target, learn, ok6}
use Rattle.transfer.specs.Reached.{access_of}
use Rattle.reading.specs.Offsets.{Here}
use Rattle.reading.proofs.Offsets.{item_here}
use Rattle.reading.proofs.Pass.{PassAt, pass_on}

module _ (P : Processor) where
  transfer_in : (t : Option Item) (k : List Range) → transfer_of P t k ≡ transfer P (class_in t) (long_in t) k
  unfolding transfer_of
  transfer_in None k = refl
  transfer_in (Some i) k = refl

  pub access_by_end : (code : List ℕ) (k : List Range) (s : Shape) → access_ok P code k s ≡ access_of P (end_of P code) k s
  access_by_end code k Other = refl
  access_by_end code k (Movei d v) = refl
  access_by_end code k MovePc = refl
  access_by_end code k (Jr n c) = refl
  access_by_end code k (Jump s c) = refl
  access_by_end code k (Load m) = refl
  access_by_end code k (Store m) = refl

  module _ {code : List ℕ} {i : ℕ} {t : Option Item} (h : Here P code i t) {s : Shape} (q : s ≡ shape_of t) (k : List Range) where
    pub ok6_here : ok6 P code (P.base + i) k ≡ access_of P (P.base + length code) k s
    unfolding ok6
    ok6_here =
        ap (λ j. access_ok P code k (shape_of j)) (item_here P h)
        ∙ access_by_end code k (shape_of t)
        ∙ ap (access_of P (P.base + length code) k) (sym q)

    -- what the pass goes on with
    pub onward : PassAt P code (List Range) unknown (learn P code) (ok6 P code) i k → {n : ℕ} → n ≡ bytes_of s
        → access_of P (P.base + length code) k s ≡ true
        → {target : Bool} → target ≡ is_target P code (P.base + (i + n))
        → PassAt P code (List Range) unknown (learn P code) (ok6 P code) (i + n) (cond target unknown (transfer P (class_in t) (long_in t) k))
    unfolding learn
    onward e {n} z a j =
        let size : n ≡ bytes_of (shape_of t) = z ∙ ap bytes_of q in
        let sums : P.base + i + bytes_of (shape_of t) ≡ P.base + (i + bytes_of (shape_of t)) = omega arith in
        subst (PassAt P code (List Range) unknown (learn P code) (ok6 P code) (i + n)) (rw (item_here P h, sums, transfer_in t k, ← size, ← j) refl)
        (pass_on _ _ _ _ _ _ i k t e h.inside h.same n size (ok6_here ∙ a))
