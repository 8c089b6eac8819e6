-- `rest_of_card` meets its contract: by the lines that were found, the one that was not, and the end of the text.
use Rattle.std.proofs.Common.{ℕ, rules, drop-cons}
use lib.ListN.{drop_of_length-le}
use Rattle.scanner.proofs.Places.{read_line, told_line}
use Rattle.text.specs.Bytes.{bytes}
use Rattle.parser.specs.Readings.{card_reading}
use Rattle.parser.proofs.rest_of_card.Goals as goal

pub returns-in_err-pc : goal.returns-in_err-pc
unfolding card_reading bytes
returns-in_err-pc c = rw (read_line _ _ _ _ _ _ c.hex_line.ensures c.ok_or.ensures.ok_part, c.in_err-pc.was) (search rules)

pub returns-in_err-fifth : goal.returns-in_err-fifth
unfolding card_reading bytes
returns-in_err-fifth c = rw (read_line _ _ _ _ _ _ c.hex_line.ensures c.ok_or.ensures.ok_part, c.in_ok-pc.was, read_line _ _ _ _ _ _ c.hex_line-2.ensures c.ok_or-2.ensures.ok_part, c.in_err-fifth.was) (search rules)

pub returns-in_err-sixth : goal.returns-in_err-sixth
unfolding card_reading bytes
returns-in_err-sixth c = rw (read_line _ _ _ _ _ _ c.hex_line.ensures c.ok_or.ensures.ok_part, c.in_ok-pc.was, read_line _ _ _ _ _ _ c.hex_line-2.ensures c.ok_or-2.ensures.ok_part, c.in_ok-fifth.was, read_line _ _ _ _ _ _ c.hex_line-3.ensures c.ok_or-3.ensures.ok_part, c.in_err-sixth.was) (search rules)

pub returns-in-None : goal.returns-in-None
unfolding card_reading bytes
returns-in-None c = rw (read_line _ _ _ _ _ _ c.hex_line.ensures c.ok_or.ensures.ok_part, c.in_ok-pc.was, read_line _ _ _ _ _ _ c.hex_line-2.ensures c.ok_or-2.ensures.ok_part, c.in_ok-fifth.was, read_line _ _ _ _ _ _ c.hex_line-3.ensures c.ok_or-3.ensures.ok_part, c.in_ok-sixth.was, ← told_line _ _ _ _ _ c.hex_line-4.ensures, c.in-None.is) (search rules)

pub returns-in-Some : goal.returns-in-Some
unfolding card_reading bytes
returns-in-Some c = rw (read_line _ _ _ _ _ _ c.hex_line.ensures c.ok_or.ensures.ok_part, c.in_ok-pc.was, read_line _ _ _ _ _ _ c.hex_line-2.ensures c.ok_or-2.ensures.ok_part, c.in_ok-fifth.was, read_line _ _ _ _ _ _ c.hex_line-3.ensures c.ok_or-3.ensures.ok_part, c.in_ok-sixth.was, ← told_line _ _ _ _ _ c.hex_line-4.ensures, c.in-Some.is, drop-cons {A = ℕ} _ _ 0 c.if-end-s.true)

pub returns-in-Some-2 : goal.returns-in-Some-2
unfolding card_reading bytes
returns-in-Some-2 c = rw (read_line _ _ _ _ _ _ c.hex_line.ensures c.ok_or.ensures.ok_part, c.in_ok-pc.was, read_line _ _ _ _ _ _ c.hex_line-2.ensures c.ok_or-2.ensures.ok_part, c.in_ok-fifth.was, read_line _ _ _ _ _ _ c.hex_line-3.ensures c.ok_or-3.ensures.ok_part, c.in_ok-sixth.was, ← told_line _ _ _ _ _ c.hex_line-4.ensures, c.in-Some.is, drop_of_length-le _ c.if-end-s.false)
