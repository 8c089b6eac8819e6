-- `first_broken` meets its contract. The loop's invariant: the pass came to this offset, and carries the item before.
use Rattle.std.proofs.Common.{Option, None}
use Prim.Native.Nat.{◌-◌}
use lib.ListN.{length}
use Rattle.processor.specs.Processor.{gpu}
use Rattle.items.specs.declared.Item.{Item}
use Rattle.rules.specs.Reading.{before}
use Rattle.passes.specs.Passes.{test_of}
use Rattle.reading.proofs.Pass.{PassAt}
use Rattle.passes.proofs.broken.first_broken.Given as goal

abbrev pub invariant-loop-i : goal.invariant-loop-i
invariant-loop-i l = PassAt gpu l.marked.code.now (Option Item) None (before gpu l.marked.code.now) (test_of gpu l.marked.code.now l.rule) l.i l.p

abbrev pub decreases-loop-i : goal.decreases-loop-i
decreases-loop-i l = length l.marked.code.now - l.i
