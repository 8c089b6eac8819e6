-- `read` meets its contract: by the lines that were found.
use Rattle.std.proofs.Common.{rules}
use Rattle.scanner.proofs.Places.{read_line, told_line}
use Rattle.text.specs.Bytes.{bytes}
use Rattle.parser.specs.Readings.{reading_of}
use Rattle.parser.proofs.read.Goals as goal

pub returns-in_err-answer : goal.returns-in_err-answer
unfolding reading_of bytes
returns-in_err-answer c = rw (read_line _ _ 0 _ _ _ c.decimal_line.ensures c.ok_or.ensures.ok_part, c.in_err-answer.was) (search rules)

pub returns-in-Some : goal.returns-in-Some
unfolding reading_of bytes
returns-in-Some c =
    rw (c.rest_of_card.ensures, read_line _ _ 0 _ _ _ c.decimal_line.ensures c.ok_or.ensures.ok_part, c.in_ok-answer.was, ← told_line _ _ _ _ _ c.decimal_line-2.ensures, c.in-Some.is)

pub returns-in-None : goal.returns-in-None
unfolding reading_of bytes
returns-in-None c =
    rw (c.rest_of_check.ensures, read_line _ _ 0 _ _ _ c.decimal_line.ensures c.ok_or.ensures.ok_part, c.in_ok-answer.was, ← told_line _ _ _ _ _ c.decimal_line-2.ensures, c.in-None.is)
