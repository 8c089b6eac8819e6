-- The rows of "Known" hold, computed.
-- Assumes nothing.
use mathlib.Core.Path.{refl}
use Rattle.isa.specs.Words.{instruction_at, decoded_at}
use Rattle.items.specs.Items.{item_of}
use Rattle.rules.specs.Reading.{item_at}
use Rattle.rules.specs.Scan.{scan, first_bad}
use Rattle.rules.specs.Known.{transfer_of}
use Rattle.rules.specs.Check.{is_start, is_target, learn, ok1, ok2, ok3, ok4, ok5, ok6, broken_in, rules_of}
use Rattle.known.specs.KnownRows.{code_of, answer_to, rows, KnownRows}

pub known_rows : KnownRows
unfolding code_of answer_to rows rules_of broken_in first_bad scan item_at item_of transfer_of is_start is_target learn ok1 ok2 ok3 ok4 ok5 ok6 decoded_at instruction_at
known_rows = record { rows_hold = refl }
