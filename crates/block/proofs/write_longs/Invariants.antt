-- `write_longs` meets its contract. The loop's invariant: the first i longs are put.
use Rattle.std.proofs.Common.{◌≡◌, length, take}
use Rattle.block.specs.Block.{put_longs}
use Rattle.block.proofs.write_longs.Given as goal

abbrev pub invariant-loop-i : goal.invariant-loop-i
invariant-loop-i l = (length l.block ≡ length l.initial.block) × (l.block ≡ put_longs l.initial.block l.at (take l.i l.l))
