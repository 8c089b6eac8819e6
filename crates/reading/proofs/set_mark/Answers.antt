-- `set_mark` meets its contract: the tests are those of the definition.
use borrow.Author.Tests.{lt-ltb, le-ltb}
use Rattle.reading.specs.Marks.{mark}
use Rattle.reading.proofs.set_mark.Goals as goal

pub returns-then-i-lt-MARKS : goal.returns-then-i-lt-MARKS
unfolding mark
returns-then-i-lt-MARKS c = simp (le-ltb _ _ c.if-t-ge-BASE.true, lt-ltb _ _ c.if-i-lt-MARKS.true)

pub returns-else-i-lt-MARKS : goal.returns-else-i-lt-MARKS
unfolding mark
returns-else-i-lt-MARKS c = simp (le-ltb _ _ c.if-t-ge-BASE.true, le-ltb _ _ c.if-i-lt-MARKS.false)

pub returns-else-t-ge-BASE : goal.returns-else-t-ge-BASE
unfolding mark
returns-else-t-ge-BASE c = simp (lt-ltb _ _ c.if-t-ge-BASE.false)
