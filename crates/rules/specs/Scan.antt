-- A scan of the code, read straight through: the first instruction at which a test fails.
use Rattle.std.specs.Prelude.{ℕ, zero, suc, Bool, cond, List, length, nat_lt, Option, Some, None}
use Rattle.processor.specs.Processor.{Processor}
use Rattle.rules.specs.Reading.{end_of, after}

module _ (P : Processor) (code : List ℕ) (X : Type 0) (x₀ : X) (flow : ℕ → X → X) (test : ℕ → X → Bool) where
  -- the first instruction from a on, of at most n, at which the test fails
  unfoldable pub scan : ℕ → ℕ → X → Option ℕ
  scan zero a x = None
  scan (suc n) a x =
      cond (nat_lt a (end_of P code)) (cond (test a x) (scan n (after P code a) (flow a x)) (Some a)) None

  unfoldable pub first_bad : Option ℕ
  first_bad = scan (length code) P.base x₀
