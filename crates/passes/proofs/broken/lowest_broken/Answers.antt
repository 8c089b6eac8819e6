-- `lowest_broken` meets its contract. The loop's invariant: the limit is the lowest rule that was broken so far.
use mathlib.Core.Path.{sym, subst, ◌∙◌, ap}
use Rattle.items.specs.Items.{bytes_of}
use Rattle.passes.proofs.Lowest.{LowestFrom, lowest_of_lem, lowest_is}
use Rattle.passes.proofs.Least.{least_first, least_on, least_past}
use Rattle.passes.proofs.broken.lowest_broken.Goals as goal

pub loop-i-init : goal.loop-i-init
loop-i-init c = least_first _ _

pub loop-i-preserved : goal.loop-i-preserved
loop-i-preserved c =
    let h = c.lowest_here-lowest.ensures in
    least_on _ _ _ c.loop-i.invariant (subst (LowestFrom _ 1) (sym h) (lowest_of_lem _)) c.loop-i-test.true c.item_at-t.ensures _
    (c.size-i.ensures.0 ∙ ap bytes_of c.shape_of.ensures)

pub returns : goal.returns
returns c = lowest_is _ _ (least_past _ _ c.loop-i.invariant c.loop-i-test.false)
