-- `is_marked` meets its contract: the tests are those of the definition.
use borrow.Author.Tests.{lt-ltb, le-ltb}
use Rattle.reading.specs.Marks.{mark_at}
use Rattle.reading.proofs.is_marked.Goals as goal

pub returns-then-t-lt-BASE : goal.returns-then-t-lt-BASE
unfolding mark_at
returns-then-t-lt-BASE c = simp (lt-ltb _ _ c.if-t-lt-BASE.true)

pub returns-then-i-lt-MARKS : goal.returns-then-i-lt-MARKS
unfolding mark_at
returns-then-i-lt-MARKS c = simp (le-ltb _ _ c.if-t-lt-BASE.false, lt-ltb _ _ c.if-i-lt-MARKS.true)

pub returns-else-i-lt-MARKS : goal.returns-else-i-lt-MARKS
unfolding mark_at
returns-else-i-lt-MARKS c = simp (le-ltb _ _ c.if-t-lt-BASE.false, le-ltb _ _ c.if-i-lt-MARKS.false)
