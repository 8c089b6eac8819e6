-- The lemmas speak of the place at which an instruction's shape is known.
use Rattle.std.proofs.Common.{sym, ◌∙◌}
use Rattle.processor.specs.Processor.{gpu}
use Rattle.reading.specs.Offsets.{Here}
use Rattle.reading.proofs.Pass.{pass_first, pass_hit, pass_past}
use Rattle.accesses.proofs.Turn.{ok6_here, onward}
use Rattle.accesses.proofs.first_access.Goals as goal
use Rattle.accesses.proofs.first_access.Goals.{After-shape_of-s}

here : (c : After-shape_of-s) → Here gpu c.args.marked.now.code.now c.loop-i.i c.item_at-t.result
here c = record { fits = c.args.marked.now.fits; inside = c.loop-i-test.true; same = c.item_at-t.ensures }

pub loop-i-init : goal.loop-i-init
loop-i-init c = rw c.unknown_all-known.ensures (pass_first _ _ _ _ _ _)

pub returns-then-not-access : goal.returns-then-not-access
returns-then-not-access c =
    let h = here (goal.at.returns-then-not-access c).After-shape_of-s in
    sym (pass_hit _ _ _ _ _ _ _ c.loop-i.known c.loop-i.invariant h.inside (ok6_here gpu h c.shape_of-s.ensures _ ∙ sym c.access.ensures ∙ c.if-not-access.true))

pub loop-i-preserved-then-is_target : goal.loop-i-preserved-then-is_target
loop-i-preserved-then-is_target c =
    let h = here (goal.at.loop-i-preserved-then-is_target c).After-shape_of-s in
    rw c.unknown_all-known-then-is_target.ensures
    (onward gpu h c.shape_of-s.ensures _ c.loop-i.invariant c.size.ensures.0 (sym c.access.ensures ∙ c.if-not-access.false) (sym c.if-is_target.true ∙ c.is_target.ensures))

pub loop-i-preserved : goal.loop-i-preserved
loop-i-preserved c =
    let h = here (goal.at.loop-i-preserved c).After-shape_of-s in
    rw (c.transfer.ensures, c.class_in.ensures, c.long_in.ensures)
    (onward gpu h c.shape_of-s.ensures _ c.loop-i.invariant c.size.ensures.0 (sym c.access.ensures ∙ c.if-not-access.false) (sym c.if-is_target.false ∙ c.is_target.ensures))

pub returns : goal.returns
returns c = sym (pass_past _ _ _ _ _ _ _ c.loop-i.known c.loop-i.invariant c.loop-i-test.false)
