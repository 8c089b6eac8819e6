-- `lowest_broken` meets its contract. The loop's invariant: the limit is the lowest rule that was broken so far.
use Prim.Native.Nat.{◌-◌}
use lib.ListN.{length}
use Rattle.processor.specs.Processor.{gpu}
use Rattle.passes.proofs.Least.{Least}
use Rattle.passes.proofs.broken.lowest_broken.Given as goal

abbrev pub invariant-loop-i : goal.invariant-loop-i
invariant-loop-i l = Least gpu l.marked.code.now l.i l.p l.lowest

abbrev pub decreases-loop-i : goal.decreases-loop-i
decreases-loop-i l = length l.marked.code.now - l.i
