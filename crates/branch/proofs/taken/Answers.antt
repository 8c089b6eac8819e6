-- `taken` meets its contract: two bits that are zero ask nothing, whatever the flag.
use mathlib.Core.Path.{sym, ◌∙◌}
use Rattle.branch.specs.Jump.{taken_of}
use Rattle.branch.proofs.Conditions.{always_taken}
use Rattle.branch.proofs.taken.Goals as goal

pub returns-then-bits-eq0 : goal.returns-then-bits-eq0
returns-then-bits-eq0 c = rw c.if-bits-eq0.true (sym (always_taken c.args.f))

pub returns-then-met : goal.returns-then-met
unfolding taken_of
returns-then-met c =
    rw (c.met-then-met.ensures, c.chosen.ensures, sym c.met.ensures ∙ c.if-met.true)

pub returns-else-met : goal.returns-else-met
unfolding taken_of
returns-else-met c = rw (sym c.met.ensures ∙ c.if-met.false)
