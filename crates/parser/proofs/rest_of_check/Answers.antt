-- `rest_of_check` meets its contract: by the line that was found or not, and by the end of the text.
use Rattle.std.proofs.Common.{ℕ, rules, drop-cons}
use lib.ListN.{drop_of_length-le}
use Rattle.scanner.proofs.Places.{read_line}
use Rattle.text.specs.Bytes.{bytes}
use Rattle.parser.specs.Readings.{check_reading}
use Rattle.parser.proofs.rest_of_check.Goals as goal

pub returns-in_err-address : goal.returns-in_err-address
unfolding check_reading bytes
returns-in_err-address c = rw (read_line _ _ _ _ _ _ c.hex_line.ensures c.ok_or.ensures.ok_part, c.in_err-address.was) (search rules)

pub returns-then-end-s : goal.returns-then-end-s
unfolding check_reading bytes
returns-then-end-s c =
    rw (read_line _ _ _ _ _ _ c.hex_line.ensures c.ok_or.ensures.ok_part, c.in_ok-address.was, drop-cons {A = ℕ} _ _ 0 c.if-end-s.true)

pub returns : goal.returns
unfolding check_reading bytes
returns c =
    rw (read_line _ _ _ _ _ _ c.hex_line.ensures c.ok_or.ensures.ok_part, c.in_ok-address.was, drop_of_length-le _ c.if-end-s.false)
