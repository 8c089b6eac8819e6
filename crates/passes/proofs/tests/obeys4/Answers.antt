-- `obeys4` meets its contract: what stands behind a jump is asked.
use mathlib.Core.Path.{refl, ap}
use mathlib.Core.Bool.{not}
use borrow.Author.Tests.{lt-ltb, le-ltb}
use Rattle.processor.specs.Processor.{gpu}
use Rattle.passes.proofs.Here.{ok4_here}
use Rattle.passes.proofs.tests.obeys4.Goals as goal

pub returns-then-not-is_jump : goal.returns-then-not-is_jump
returns-then-not-is_jump c =
    rw (ok4_here gpu c.args.at.now.here c.shape_of-s.ensures c.args.at.now.before refl, ← c.is_jump.ensures, c.if-not-is_jump.true)

pub returns-then-n-at : goal.returns-then-n-at
returns-then-n-at c =
    rw (
      ok4_here gpu c.args.at.now.here c.shape_of-s.ensures c.args.at.now.before c.size.ensures.0,
      ← c.is_jump.ensures,
      c.if-not-is_jump.false,
      lt-ltb _ _ c.if-n-at.true,
      ← c.item_at.ensures,
      ← c.shape_of.ensures,
    )
    (ap not c.breaks_slot.ensures)

pub returns-else-n-at : goal.returns-else-n-at
returns-else-n-at c =
    rw (
      ok4_here gpu c.args.at.now.here c.shape_of-s.ensures c.args.at.now.before c.size.ensures.0,
      ← c.is_jump.ensures,
      c.if-not-is_jump.false,
      le-ltb _ _ c.if-n-at.false,
    )
