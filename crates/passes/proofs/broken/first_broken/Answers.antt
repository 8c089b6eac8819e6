-- `first_broken` meets its contract. The loop's invariant: the pass came to this offset, and carries the item before.
use mathlib.Core.Path.{sym, subst, ◌∙◌, ap}
use Rattle.processor.specs.Processor.{gpu}
use Rattle.items.specs.Items.{bytes_of}
use Rattle.reading.proofs.Pass.{PassAt, pass_first, pass_on, pass_hit, pass_past}
use Rattle.reading.proofs.Offsets.{item_at_lem}
use Rattle.passes.proofs.broken.first_broken.Goals as goal

pub loop-i-init : goal.loop-i-init
loop-i-init c = pass_first _ _ _ _ _ _

pub returns-then-not-obeys : goal.returns-then-not-obeys
returns-then-not-obeys c =
    let l = c.loop-i in
    sym (pass_hit _ _ _ _ _ _ _ l.p l.invariant c.loop-i-test.true (rw (← c.obeys.ensures) c.if-not-obeys.true))

pub loop-i-preserved : goal.loop-i-preserved
loop-i-preserved c =
    let g = c.item_at-t.ensures in
    subst (PassAt _ _ _ _ _ _ _) (item_at_lem gpu _ _ ∙ sym g)
    (pass_on _ _ _ _ _ _ _ c.loop-i.p _ c.loop-i.invariant c.loop-i-test.true g _ (c.size-i.ensures.0 ∙ ap bytes_of c.shape_of.ensures)
    (rw (← c.obeys.ensures) c.if-not-obeys.false))

pub returns : goal.returns
returns c = let l = c.loop-i in sym (pass_past _ _ _ _ _ _ _ l.p l.invariant c.loop-i-test.false)
