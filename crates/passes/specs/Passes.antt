-- What the passes over the code promise: which of the rules 1 to 5 is the lowest that is broken.
use Rattle.std.specs.Prelude.{ℕ, Bool, true, false, cond, List, [], ◌∷◌, Option, Some, None, ◌==◌}
use Rattle.processor.specs.Processor.{Processor}
use Rattle.verdicts.specs.declared.Rule.{Rule}
use Rattle.verdicts.specs.declared.Rule.TheVariants.{AllBuilt, JrTarget, JumpTarget, DelaySlot, Ending, Access}
use Rattle.verdicts.specs.Verdicts.{rule_number}
use Rattle.items.specs.declared.Item.{Item}
use Rattle.rules.specs.Check.{ok1, ok2, ok3, ok4, ok5}

-- the test of one of the rules 1 to 5; rule 6 is tested as the fifth, and the check does not ask for it here
abbrev pub test_of : Processor → List ℕ → Rule → ℕ → Option Item → Bool
test_of P code AllBuilt = ok1 P code
test_of P code JrTarget = ok2 P code
test_of P code JumpTarget = ok3 P code
test_of P code DelaySlot = ok4 P code
test_of P code Ending = ok5 P code
test_of P code Access = ok5 P code

-- the rules 1 to 5, in the order of their numbers
abbrev pub first_five : List Rule
first_five = AllBuilt ∷ JrTarget ∷ JumpTarget ∷ DelaySlot ∷ Ending ∷ []

-- the first of some rules of which a test fails
abbrev pub lowest_in : (Rule → Bool) → List Rule → Option Rule
lowest_in test [] = None
lowest_in test (r ∷ rs) = cond (test r) (lowest_in test rs) (Some r)

-- the lowest of the rules 1 to 5 of which a test fails
abbrev pub lowest_of : (Rule → Bool) → Option Rule
lowest_of test = lowest_in test first_five

-- whether a rule was found, and is r
abbrev pub is_rule : Option Rule → Rule → Bool
is_rule None r = false
is_rule (Some q) r = rule_number q == rule_number r
