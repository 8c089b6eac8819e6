-- Each arm of the match is a row of the table.
use Rattle.text.specs.Bytes.{bytes}
use Rattle.sentences.specs.Table.{check_rows, text_in, check_text}
use Rattle.sentences.proofs.text_of_check.Goals as goal

pub returns-in-0 : goal.returns-in-0
unfolding check_rows text_in check_text bytes
returns-in-0 c = rw c.in-0.is

pub returns-in-21 : goal.returns-in-21
unfolding check_rows text_in check_text bytes
returns-in-21 c = rw c.in-21.is

pub returns-in-22 : goal.returns-in-22
unfolding check_rows text_in check_text bytes
returns-in-22 c = rw c.in-22.is

pub returns-in-23 : goal.returns-in-23
unfolding check_rows text_in check_text bytes
returns-in-23 c = rw c.in-23.is

pub returns-in-24 : goal.returns-in-24
unfolding check_rows text_in check_text bytes
returns-in-24 c = rw c.in-24.is

pub returns-in-25 : goal.returns-in-25
unfolding check_rows text_in check_text bytes
returns-in-25 c = rw c.in-25.is

pub returns-in-26 : goal.returns-in-26
unfolding check_rows text_in check_text bytes
returns-in-26 c = rw c.in-26.is
