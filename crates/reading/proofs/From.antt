-- A scan with enough fuel: what a pass over the code comes to, one instruction after the other.
-- Assumes nothing.
use Prim.Native.Nat.{ℕ, zero, suc, ◌+◌, ◌-◌, ◌≤◌, ◌<◌}
use mathlib.Core.Path.{◌≡◌, sym, ◌∙◌}
use mathlib.Core.Bool.{Bool, true, false}
use mathlib.Core.List.{List}
use native.Mathlib.Omega.{arith}
use lib.Dec.{ltb}
use lib.ListN.{length}
use borrow.Author.Tests.{ltb-true, ltb-false}
use Rattle.std.proofs.Common.{Option, Some, None}
use Rattle.processor.specs.Processor.{Processor}
use Rattle.rules.specs.Reading.{end_of, after}
use Rattle.rules.specs.Scan.{scan, first_bad}
use Rattle.values.proofs.Booleans.{by}
use Rattle.rules.proofs.Scan.{scan_past, scan_on, scan_hit, after_later}

module _ (P : Processor) (code : List ℕ) (X : Type 0) (x₀ : X) (flow : ℕ → X → X) (test : ℕ → X → Bool) where
  -- what the scan finds from the address a on
  unfoldable pub from_there : ℕ → X → Option ℕ
  from_there a x = scan P code X x₀ flow test (end_of P code - a) a x

  enough : (n m a : ℕ) (x : X) → end_of P code ≤ a + n → end_of P code ≤ a + m → scan P code X x₀ flow test n a x ≡ scan P code X x₀ flow test m a x
  enough zero m a x h g = scan_past P code X x₀ flow test 0 a x (omega arith) ∙ sym (scan_past P code X x₀ flow test m a x (omega arith))
  enough (suc n) zero a x h g = scan_past P code X x₀ flow test (suc n) a x (omega arith) ∙ sym (scan_past P code X x₀ flow test 0 a x (omega arith))
  enough (suc n) (suc m) a x h g =
      by (ltb a (end_of P code))
      (λ t.
      let l = ltb-true a (end_of P code) t in
      by (test a x)
      (λ u.
      scan_on P code X x₀ flow test n a x l u
      ∙ enough n m (after P code a) (flow a x) (omega (arith, after_later P code a)) (omega (arith, after_later P code a))
      ∙ sym (scan_on P code X x₀ flow test m a x l u))
      (λ u. scan_hit P code X x₀ flow test n a x l u ∙ sym (scan_hit P code X x₀ flow test m a x l u)))
      (λ t.
      let l = ltb-false a (end_of P code) t in
      scan_past P code X x₀ flow test (suc n) a x l ∙ sym (scan_past P code X x₀ flow test (suc m) a x l))

  pub from_first : first_bad P code X x₀ flow test ≡ from_there P.base x₀
  unfolding from_there first_bad
  from_first = enough (length code) (end_of P code - P.base) P.base x₀ (omega arith) (omega arith)

  pub from_past : (a : ℕ) (x : X) → end_of P code ≤ a → from_there a x ≡ None
  unfolding from_there
  from_past a x h = scan_past P code X x₀ flow test (end_of P code - a) a x h

  pub from_on : (a : ℕ) (x : X) → a < end_of P code → test a x ≡ true → from_there a x ≡ from_there (after P code a) (flow a x)
  unfolding from_there
  from_on a x h t =
      enough (end_of P code - a) (suc (end_of P code)) a x (omega arith) (omega arith)
      ∙ scan_on P code X x₀ flow test (end_of P code) a x h t
      ∙ enough (end_of P code) (end_of P code - after P code a) (after P code a) (flow a x) (omega arith) (omega arith)

  pub from_hit : (a : ℕ) (x : X) → a < end_of P code → test a x ≡ false → from_there a x ≡ Some a
  unfolding from_there
  from_hit a x h t =
      enough (end_of P code - a) (suc (end_of P code)) a x (omega arith) (omega arith) ∙ scan_hit P code X x₀ flow test (end_of P code) a x h t
