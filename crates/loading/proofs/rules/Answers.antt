-- `rules` meets its contract: the lowest rule that is broken gives the answer, and rule 6 where none of the others is.
use mathlib.Core.Path.{sym, ap, ◌∙◌}
use Rattle.processor.specs.Processor.{gpu}
use Rattle.rules.specs.Check.{rules_of}
use Rattle.loading.proofs.Order.{none_broken, one_broken}
use Rattle.loading.proofs.rules.Goals as goal

pub returns-in-Some : goal.returns-in-Some
returns-in-Some c =
    let e = one_broken gpu _ _ (sym c.lowest_broken.ensures ∙ c.in-Some.is) in
    let f = ap (rules_of gpu) c.of-marked.ensures in
    cc

pub returns-in-None : goal.returns-in-None
returns-in-None c =
    let e = none_broken gpu _ (sym c.lowest_broken.ensures ∙ c.in-None.is) in
    let f = ap (rules_of gpu) c.of-marked.ensures in
    cc
