-- `read_bank` meets its contract. The loop's invariant: the first i registers are the first i longs.
use Rattle.std.proofs.Common.{◌≡◌, length, take}
use Rattle.block.specs.Block.{longs}
use Rattle.block.proofs.read_bank.Given as goal

abbrev pub invariant-loop-i : goal.invariant-loop-i
invariant-loop-i l = (length l.b ≡ 32) × (take l.i l.b ≡ longs l.block l.at l.i)
