-- `obeys2` meets its contract: a JR is asked for its target.
use mathlib.Core.Path.{◌∙◌, ap, refl}
use Prim.Native.Nat.{◌+◌}
use mir.Syntax.{w32}
use mir.Facts.{to_z-of_z}
use Rattle.branch.specs.Jump.{jr_target_of}
use Rattle.processor.specs.Processor.{gpu}
use Rattle.rules.specs.Check.{is_start}
use Rattle.passes.proofs.Here.{ok2_here, jr_other}
use Rattle.passes.proofs.tests.obeys2.Goals as goal

pub returns-in-Jr : goal.returns-in-Jr
returns-in-Jr c =
    let field = to_z-of_z {w = w32} {z = c.signed_field.result} (record { sfits = c.signed_field.type_inv }) ∙ c.signed_field.ensures in
    c.is_start.ensures
    ∙ ap (is_start gpu c.args.at.now.marked.now.code.now) (c.jr_target.ensures ∙ ap (jr_target_of (gpu.base + c.args.at.now.offset)) field)
    ∙ ok2_here gpu c.args.at.now.here c.shape_of.ensures c.args.at.now.before c.in-Jr.is

pub returns-in_default : goal.returns-in_default
returns-in_default c =
    jr_other gpu _ _ _ c.in_default.not-Jr ∙ ok2_here gpu c.args.at.now.here c.shape_of.ensures c.args.at.now.before refl
