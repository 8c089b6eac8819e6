-- `mark_code` meets its contract: what is marked and what is left to read make up the starts, and the targets.
use Rattle.std.proofs.Common.{Option, None}
use Prim.Native.Nat.{◌+◌, ◌-◌, ◌≤◌}
use mathlib.Core.Path.{◌≡◌}
use lib.Dec.{eqb}
use lib.ListN.{length}
use Rattle.processor.specs.Processor.{gpu}
use Rattle.items.specs.declared.Item.{Item}
use Rattle.items.specs.Items.{shape_of}
use Rattle.rules.specs.Reading.{shape_at, before}
use Rattle.rules.specs.Check.{leads}
use Rattle.reading.specs.Marks.{mark_count, Near}
use Rattle.reading.proofs.Marking.{Marked}
use Rattle.reading.proofs.mark_code.Given as goal

abbrev pub invariant-loop-i : goal.invariant-loop-i
invariant-loop-i l =
    (l.i ≤ length l.code + 5)
    × (length l.starts ≡ mark_count gpu)
    × (length l.targets ≡ mark_count gpu)
    × Marked gpu l.code (Option Item) None (before gpu l.code) (λ t a y. eqb a t) (λ t. Unit) l.i l.p l.starts
    × Marked gpu l.code (Option Item) None (before gpu l.code) (λ t a y. leads a (shape_of y) (shape_at gpu l.code a) t) (Near gpu) l.i l.p l.targets

abbrev pub decreases-loop-i : goal.decreases-loop-i
decreases-loop-i l = length l.code + 6 - l.i
