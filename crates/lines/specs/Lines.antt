-- The lines of a card, and the text of the loading check's answer, as lists of ASCII codes.
use Rattle.std.specs.Prelude.{ℕ, List, [], ◌∷◌, ◌++◌}
use Rattle.text.specs.Bytes.{bytes}
use Rattle.text.specs.Digits.{hex_digits, decimal_of}

-- A line: a key, a value, and a line feed, as paper 01 shows the card.
unfoldable pub line_of : List ℕ → List ℕ → List ℕ
line_of key value = key ++ (value ++ (10 ∷ []))

-- What the check answers: its number in decimal, and the address it tells as eight hex digits.
unfoldable pub check_lines : ℕ → ℕ → List ℕ
check_lines answer address = line_of (bytes "answer=") (decimal_of answer) ++ line_of (bytes "address=") (hex_digits 8 address)
