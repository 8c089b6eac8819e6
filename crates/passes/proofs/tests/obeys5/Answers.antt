-- `obeys5` meets its contract: what ends with the code is asked for what stands before it, and for being a target.
use mathlib.Core.Path.{ap}
use mathlib.Core.Bool.{not}
use borrow.Author.Tests.{eq-eqb, ne_eqb}
use Rattle.processor.specs.Processor.{gpu}
use Rattle.passes.proofs.Here.{ok5_here}
use Rattle.passes.proofs.tests.obeys5.Goals as goal

pub returns-then-at-size : goal.returns-then-at-size
returns-then-at-size c =
    rw (ok5_here gpu c.args.at.now.here c.shape_of.ensures c.args.at.now.before c.size.ensures.0, ne_eqb _ _ c.if-at-size.true)

pub returns-then-always_jumps : goal.returns-then-always_jumps
returns-then-always_jumps c =
    rw (
      ok5_here gpu c.args.at.now.here c.shape_of.ensures c.args.at.now.before c.size.ensures.0,
      eq-eqb _ _ c.if-at-size.false,
      ← c.shape_of-2.ensures,
      ← c.always_jumps.ensures,
      c.if-always_jumps.true,
    )
    (ap not c.is_target.ensures)

pub returns-else-always_jumps : goal.returns-else-always_jumps
returns-else-always_jumps c =
    rw (
      ok5_here gpu c.args.at.now.here c.shape_of.ensures c.args.at.now.before c.size.ensures.0,
      eq-eqb _ _ c.if-at-size.false,
      ← c.shape_of-2.ensures,
      ← c.always_jumps.ensures,
      c.if-always_jumps.false,
    )
