-- `obeys1` meets its contract: what stands there is built, and ends inside the code.
use mathlib.Core.Path.{refl}
use Rattle.processor.specs.Processor.{gpu}
use Rattle.passes.proofs.Here.{ok1_here}
use Rattle.passes.proofs.tests.obeys1.Goals as goal

pub returns-then-is_some : goal.returns-then-is_some
returns-then-is_some c =
    rw (ok1_here gpu c.args.at.now.here c.shape_of.ensures c.args.at.now.before c.size.ensures.0, ← c.is_some.ensures, c.if-is_some.true)

pub returns-else-is_some : goal.returns-else-is_some
returns-else-is_some c =
    rw (ok1_here gpu c.args.at.now.here refl c.args.at.now.before refl, ← c.is_some.ensures, c.if-is_some.false)
