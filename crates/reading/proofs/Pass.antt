-- A pass over the code by offsets: where it came, and what that says of the scan.
-- Assumes nothing.
use Rattle.std.proofs.Common.{Option}
use Prim.Native.Nat.{ℕ, ◌+◌, ◌≤◌, ◌<◌}
use mathlib.Core.Path.{◌≡◌, sym, ◌∙◌, ap}
use mathlib.Core.Bool.{Bool, true, false}
use mathlib.Core.List.{List}
use native.Mathlib.Nat.{add-zero}
use native.Mathlib.Omega.{arith}
use lib.ListN.{length}
use Rattle.std.proofs.Common.{Some, None}
use Rattle.processor.specs.Processor.{Processor}
use Rattle.items.specs.declared.Item.{Item}
use Rattle.items.specs.Items.{item_of, shape_of, bytes_of}
use Rattle.rules.specs.Scan.{first_bad}
use Rattle.reading.proofs.From.{from_there, from_first, from_past, from_on, from_hit}
use Rattle.reading.proofs.Offsets.{after_at}

module _ (P : Processor) (code : List ℕ) (X : Type 0) (x₀ : X) (flow : ℕ → X → X) (test : ℕ → X → Bool) where
  -- the pass came to the offset i, and carries x
  unfoldable pub PassAt : ℕ → X → Type 0
  PassAt i x = first_bad P code X x₀ flow test ≡ from_there P code X x₀ flow test (P.base + i) x

  pub pass_first : PassAt 0 x₀
  unfolding PassAt
  pass_first = rw add-zero (from_first P code X x₀ flow test)

  pub pass_on : (i : ℕ) (x : X) (t : Option Item) → PassAt i x → i < length code → t ≡ item_of P code i → (n : ℕ) → n ≡ bytes_of (shape_of t) → test (P.base + i) x ≡ true
      → PassAt (i + n) (flow (P.base + i) x)
  unfolding PassAt
  pass_on i x t e h g n z q =
      e ∙ from_on P code X x₀ flow test (P.base + i) x (omega arith) q
      ∙ ap (λ a. from_there P code X x₀ flow test a (flow (P.base + i) x)) (after_at P code i t g ∙ ap (λ m. P.base + (i + m)) (sym z))

  pub pass_hit : (i : ℕ) (x : X) → PassAt i x → i < length code → test (P.base + i) x ≡ false → first_bad P code X x₀ flow test ≡ Some (P.base + i)
  unfolding PassAt
  pass_hit i x e h q = e ∙ from_hit P code X x₀ flow test (P.base + i) x (omega arith) q

  pub pass_past : (i : ℕ) (x : X) → PassAt i x → length code ≤ i → first_bad P code X x₀ flow test ≡ None
  unfolding PassAt
  pass_past i x e h = e ∙ from_past P code X x₀ flow test (P.base + i) x (omega arith)
