-- `write_longs` meets its contract. The loop's invariant: the first i longs are put.
use Rattle.std.proofs.Common.{◌<◌, length, refl, ◌∙◌, add-one, arith, take_all}
use Rattle.block.specs.Block.{put_longs}
use Rattle.block.proofs.Longs.{puts_more}
use Rattle.block.proofs.write_longs.Goals as goal

pub loop-i-init : goal.loop-i-init
unfolding put_longs
loop-i-init c = (refl, refl)

pub loop-i-preserved : goal.loop-i-preserved
loop-i-preserved c =
    let k = c.loop-i in
    let less : k.i < length c.args.l.now = omega (arith, c.loop-i-test.true) in
    (c.put_long.auto.ram ∙ k.invariant.0, rw (add-one k.i, puts_more _ _ _ k.i less, ← k.invariant.1) c.put_long.ensures)

pub returns : goal.returns
returns c =
    let k = c.loop-i in
    rw (take_all k.i _ c.loop-i-test.false) at k.invariant.1
