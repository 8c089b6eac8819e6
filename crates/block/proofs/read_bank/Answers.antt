-- `read_bank` meets its contract. The loop's invariant: the first i registers are the first i longs.
use Rattle.std.proofs.Common.{◌<◌, length, refl, add-one, arith, length-set, take-suc-set}
use Rattle.block.specs.Block.{longs}
use Rattle.block.proofs.Longs.{longs_more}
use Rattle.block.proofs.read_bank.Goals as goal

pub loop-i-init : goal.loop-i-init
unfolding longs
loop-i-init c = (refl, refl)

pub loop-i-preserved : goal.loop-i-preserved
unfolding longs
loop-i-preserved c =
    let l = c.loop-i in
    let h : l.i < length l.b = omega (arith, c.loop-i-test.true, l.invariant.0) in (
      simp length-set l.invariant.0,
      rw (add-one, take-suc-set l.b l.i c.long_at.result h, l.invariant.1, c.long_at.ensures, longs_more _ _ l.i),
    )
