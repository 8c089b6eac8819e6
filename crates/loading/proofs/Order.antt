-- From the lowest of the rules 1 to 5 that is broken to the verdict: the rules below it are kept, and leave the answer to it.
-- Assumes nothing.
use Prim.Native.Nat.{ℕ, ◌≤◌, ◌<◌}
use mathlib.Core.Path.{◌≡◌, refl, sym, subst}
use mathlib.Core.Bool.{true, false, not}
use mathlib.Core.List.{List}
use native.Mathlib.Omega.{arith}
use Rattle.std.proofs.Common.{Option, Some, None, is_some, Ok, Err}
use Rattle.processor.specs.Processor.{Processor}
use Rattle.verdicts.specs.declared.Refusal.TheVariants.{Broken}
use Rattle.verdicts.specs.declared.Rule.{Rule}
use Rattle.verdicts.specs.declared.Rule.TheVariants.{AllBuilt, JrTarget, JumpTarget, DelaySlot, Ending, Access}
use Rattle.verdicts.specs.Verdicts.{rule_number}
use Rattle.rules.specs.Check.{first_failing, first_access, or_else, broken_in, rules_of}
use Rattle.values.proofs.Booleans.{no_way}
use Rattle.passes.specs.Passes.{lowest_of, test_of}
use Rattle.passes.proofs.Lowest.{limit_of, LowestFrom, lowest_of_lem}

is_clear : (h : Option ℕ) → not (is_some h) ≡ true → h ≡ None
is_clear None e = refl
is_clear (Some a) e = no_way e

is_hit : (h : Option ℕ) → not (is_some h) ≡ false → (a : ℕ) × (h ≡ Some a)
is_hit None e = no_way (sym e)
is_hit (Some a) e = (a, refl)

module _ (P : Processor) (code : List ℕ) where
  -- the lowest of the rules 1 to 5 that is broken, or none
  abbrev LowestRule : Option Rule → Type 0
  LowestRule = LowestFrom (λ r. not (is_some (first_failing P code (test_of P code r)))) 1

  clear : {w : Option Rule} → LowestRule w → (r : Rule) → 1 ≤ rule_number r → rule_number r < limit_of w → first_failing P code (test_of P code r) ≡ None
  clear l r a b = is_clear _ (l.kept r a b)

  hit : (r : Rule) → LowestRule (Some r) → (a : ℕ) × (first_failing P code (test_of P code r) ≡ Some a)
  hit r l = is_hit _ (l.fails r refl)

  -- it gives the answer, where its own pass finds it
  given_by : (r : Rule) → LowestRule (Some r) → rules_of P code ≡ or_else (first_failing P code (test_of P code r)) (λ a. Err (Broken r a)) (Ok tt)
  unfolding rules_of broken_in
  given_by AllBuilt l = rw (hit AllBuilt l).1
  given_by JrTarget l = rw (clear l AllBuilt (omega arith) (omega arith), (hit JrTarget l).1)
  given_by JumpTarget l =
      rw (clear l AllBuilt (omega arith) (omega arith), clear l JrTarget (omega arith) (omega arith), (hit JumpTarget l).1)
  given_by DelaySlot l =
      rw (
        clear l AllBuilt (omega arith) (omega arith),
        clear l JrTarget (omega arith) (omega arith),
        clear l JumpTarget (omega arith) (omega arith),
        (hit DelaySlot l).1,
      )
  given_by Ending l =
      rw (
        clear l AllBuilt (omega arith) (omega arith),
        clear l JrTarget (omega arith) (omega arith),
        clear l JumpTarget (omega arith) (omega arith),
        clear l DelaySlot (omega arith) (omega arith),
        (hit Ending l).1,
      )
  given_by Access l = absurd (omega (arith, l.among Access refl))

  -- and rule 6, where none of the others is broken
  left_to_last : LowestRule None → rules_of P code ≡ or_else (first_access P code) (λ a. Err (Broken Access a)) (Ok tt)
  unfolding rules_of broken_in
  left_to_last l =
      rw (
        clear l AllBuilt (omega arith) (omega arith),
        clear l JrTarget (omega arith) (omega arith),
        clear l JumpTarget (omega arith) (omega arith),
        clear l DelaySlot (omega arith) (omega arith),
        clear l Ending (omega arith) (omega arith),
      )

  -- the lowest broken rule
  abbrev Lowest : Option Rule
  Lowest = lowest_of (λ r. not (is_some (first_failing P code (test_of P code r))))

  pub one_broken : (r : Rule) → Lowest ≡ Some r → rules_of P code ≡ or_else (first_failing P code (test_of P code r)) (λ a. Err (Broken r a)) (Ok tt)
  one_broken r e = given_by r (subst LowestRule e (lowest_of_lem _))

  pub none_broken : Lowest ≡ None → rules_of P code ≡ or_else (first_access P code) (λ a. Err (Broken Access a)) (Ok tt)
  none_broken e = left_to_last (subst LowestRule e (lowest_of_lem _))
