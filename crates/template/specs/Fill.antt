-- A text of the table with its address and its count filled in.
use Rattle.std.specs.Prelude.{ℕ, ◌+◌, cond, List, [], ◌∷◌, ◌++◌, eqb}
use Rattle.text.specs.Digits.{hex_digits, decimal_of}

-- What is written for a byte: for '@' the address as a card has it, for '#' the count, for any other byte itself.
abbrev pub substituted : ℕ → ℕ → ℕ → List ℕ
substituted c address count = cond (eqb c 64) (hex_digits 8 address) (cond (eqb c 35) (decimal_of count) (c ∷ []))

unfoldable pub filled : List ℕ → ℕ → ℕ → List ℕ
filled [] address count = []
filled (c ∷ cs) address count = substituted c address count ++ filled cs address count

-- The most bytes that are written for a byte, and for a text. A number of 32 bits has at most ten decimal digits.
abbrev pub width_of : ℕ → ℕ
width_of c = cond (eqb c 64) 8 (cond (eqb c 35) 10 1)

unfoldable pub room_of : List ℕ → ℕ
room_of [] = 0
room_of (c ∷ cs) = width_of c + room_of cs
