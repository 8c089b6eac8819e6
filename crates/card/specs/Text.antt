-- The text of the run card, as a list of ASCII codes.
use Rattle.std.specs.Prelude.{ℕ, List, ◌++◌}
use Rattle.card.specs.declared.Card.{Card}
use Rattle.text.specs.Bytes.{bytes}
use Rattle.text.specs.Digits.{hex_digits, decimal_of}
use Rattle.lines.specs.Lines.{line_of}

-- The keys, each with its '='.
abbrev pub answer_key : List ℕ
answer_key = bytes "answer="

abbrev pub steps_key : List ℕ
steps_key = bytes "steps="

abbrev pub pc_key : List ℕ
pc_key = bytes "pc="

abbrev pub flags_key : List ℕ
flags_key = bytes "flags="

abbrev pub remain_key : List ℕ
remain_key = bytes "remain="

abbrev pub acc_key : List ℕ
acc_key = bytes "acc="

-- It "prints six key=value lines in this order: answer and steps in decimal; counter, F02100h value,
-- remainder and accumulator as eight hex digits."
unfoldable pub card_text : Card → List ℕ
card_text card =
    line_of answer_key (decimal_of card.answer)
    ++ (line_of steps_key (decimal_of card.steps)
    ++ (line_of pc_key (hex_digits 8 card.pc)
    ++ (line_of flags_key (hex_digits 8 card.flags)
    ++ (line_of remain_key (hex_digits 8 card.remainder)
    ++ line_of acc_key (hex_digits 8 card.accumulator)))))
