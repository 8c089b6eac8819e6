-- `is_rule` meets its contract: two rules are the same where their numbers are.
use Rattle.std.proofs.Common.{◌≡◌, nat_eq, Option, Some, None, refl, ◌∙◌}
use Rattle.std.specs.Option.{option_eq}
use Rattle.verdicts.specs.declared.Rule.{Rule}
use Rattle.verdicts.specs.declared.Rule.TheVariants.{AllBuilt, JrTarget, JumpTarget, DelaySlot, Ending, Access}
use Rattle.verdicts.specs.Verdicts.{rule_number}
use Rattle.verdicts.specs.contracts.RulePartialEq.TheImpl.{eq-value}
use Rattle.passes.specs.Passes.{is_rule}
use Rattle.passes.proofs.tests.is_rule.Goals as goal

abbrev Same : Rule → Rule → Type 0
Same q r = eq-value.it q r ≡ nat_eq (rule_number q) (rule_number r)

same : (q r : Rule) → Same q r
same AllBuilt r =
    elim r as (Same AllBuilt) [ AllBuilt ↦ refl | JrTarget ↦ refl | JumpTarget ↦ refl | DelaySlot ↦ refl | Ending ↦ refl | Access ↦ refl ]
same JrTarget r =
    elim r as (Same JrTarget) [ AllBuilt ↦ refl | JrTarget ↦ refl | JumpTarget ↦ refl | DelaySlot ↦ refl | Ending ↦ refl | Access ↦ refl ]
same JumpTarget r =
    elim r as (Same JumpTarget) [ AllBuilt ↦ refl | JrTarget ↦ refl | JumpTarget ↦ refl | DelaySlot ↦ refl | Ending ↦ refl | Access ↦ refl ]
same DelaySlot r =
    elim r as (Same DelaySlot) [ AllBuilt ↦ refl | JrTarget ↦ refl | JumpTarget ↦ refl | DelaySlot ↦ refl | Ending ↦ refl | Access ↦ refl ]
same Ending r =
    elim r as (Same Ending) [ AllBuilt ↦ refl | JrTarget ↦ refl | JumpTarget ↦ refl | DelaySlot ↦ refl | Ending ↦ refl | Access ↦ refl ]
same Access r =
    elim r as (Same Access) [ AllBuilt ↦ refl | JrTarget ↦ refl | JumpTarget ↦ refl | DelaySlot ↦ refl | Ending ↦ refl | Access ↦ refl ]

same_found : (found : Option Rule) (r : Rule) → option_eq eq-value.it found (Some r) ≡ is_rule found r
same_found None r = refl
same_found (Some q) r = same q r

pub returns : goal.returns
returns c = c.eq.ensures ∙ same_found c.args.found c.args.rule
