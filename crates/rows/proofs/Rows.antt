-- The rows of paper 01 that are marked p hold: both sides compute to the same table.
-- Assumes nothing.
use mathlib.Core.Path.{refl}
use lib.Count.{count_leading_zeros}
use Rattle.isa.specs.Words.{decoded_at, instruction_at}
use Rattle.rows.specs.Rows.{RowsHold}

pub rows_hold : RowsHold
unfolding RowsHold decoded_at instruction_at count_leading_zeros
rows_hold z n c acc = refl
