-- The loop's invariant: the pass came to this offset, and carries what is known there.
use mathlib.Core.List.{List}
use Prim.Native.Nat.{◌-◌}
use lib.ListN.{length}
use Rattle.processor.specs.Processor.{gpu}
use Rattle.ranges.specs.declared.Range.{Range}
use Rattle.ranges.specs.Ranges.{unknown}
use Rattle.rules.specs.Check.{learn, ok6}
use Rattle.reading.proofs.Pass.{PassAt}
use Rattle.accesses.proofs.first_access.Given as goal

abbrev pub invariant-loop-i : goal.invariant-loop-i
invariant-loop-i l = PassAt gpu l.marked.code.now (List Range) unknown (learn gpu l.marked.code.now) (ok6 gpu l.marked.code.now) l.i l.known

abbrev pub decreases-loop-i : goal.decreases-loop-i
decreases-loop-i l = length l.marked.code.now - l.i
