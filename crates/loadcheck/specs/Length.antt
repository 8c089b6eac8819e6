-- The length of the code, as the program reads it behind the image.
use Rattle.std.specs.Prelude.{ℕ, Some, None, List}
use Rattle.scanner.specs.Lines.{Line, decimal, number_in}

-- "code length not 4 to 4,096 […]" is refused: what is no number counts as 0, which no code can have.
abbrev pub length_in : Line → ℕ
length_in (Some (n, rest)) = n
length_in None = 0

-- Decimal digits up to a line feed.
abbrev pub length_of : List ℕ → ℕ
length_of text = length_in (number_in decimal 0 0 text)
