-- `obeys3` meets its contract: a JUMP is asked for what stands before it, and for being a target.
use mathlib.Core.Path.{◌∙◌, ap, refl}
use mathlib.Core.Bool.{not}
use Rattle.processor.specs.Processor.{gpu}
use Rattle.passes.proofs.Here.{ok3_here, jump_other}
use Rattle.passes.proofs.tests.obeys3.Goals as goal

pub returns-then-holds_start : goal.returns-then-holds_start
returns-then-holds_start c =
    rw (
      ← ok3_here gpu c.args.at.now.here c.shape_of.ensures c.args.at.now.before c.in-Jump.is,
      ← c.shape_of-in-Jump.ensures,
      ← c.holds_start.ensures,
      c.if-holds_start.true,
    )
    (ap not c.is_target.ensures)

pub returns-else-holds_start : goal.returns-else-holds_start
returns-else-holds_start c =
    rw (
      ← ok3_here gpu c.args.at.now.here c.shape_of.ensures c.args.at.now.before c.in-Jump.is,
      ← c.shape_of-in-Jump.ensures,
      ← c.holds_start.ensures,
      c.if-holds_start.false,
    )

pub returns-in_default : goal.returns-in_default
returns-in_default c =
    jump_other gpu _ _ _ _ c.in_default.not-Jump ∙ ok3_here gpu c.args.at.now.here c.shape_of.ensures c.args.at.now.before refl
