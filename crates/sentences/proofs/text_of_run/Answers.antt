-- Each arm of the match is a row of the table.
use Rattle.text.specs.Bytes.{bytes}
use Rattle.sentences.specs.Table.{run_rows, text_in, run_text}
use Rattle.sentences.proofs.text_of_run.Goals as goal

pub returns-in-0 : goal.returns-in-0
unfolding run_rows text_in run_text bytes
returns-in-0 c = rw c.in-0.is

pub returns-in-1 : goal.returns-in-1
unfolding run_rows text_in run_text bytes
returns-in-1 c = rw c.in-1.is

pub returns-in-11 : goal.returns-in-11
unfolding run_rows text_in run_text bytes
returns-in-11 c = rw c.in-11.is

pub returns-in-12 : goal.returns-in-12
unfolding run_rows text_in run_text bytes
returns-in-12 c = rw c.in-12.is

pub returns-in-13 : goal.returns-in-13
unfolding run_rows text_in run_text bytes
returns-in-13 c = rw c.in-13.is

pub returns-in-14 : goal.returns-in-14
unfolding run_rows text_in run_text bytes
returns-in-14 c = rw c.in-14.is

pub returns-in-15 : goal.returns-in-15
unfolding run_rows text_in run_text bytes
returns-in-15 c = rw c.in-15.is
