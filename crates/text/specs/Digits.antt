-- Numbers as digits, the most significant first. A digit is its ASCII code.
use Rattle.std.specs.Prelude.{ℕ, zero, suc, ◌+◌, ◌/◌, ◌%◌, cond, List, [], ◌∷◌, ◌++◌, ltb}

-- '0' to '9', then 'A' to 'F': capitals, as in paper 01's card.
abbrev pub digit_of : ℕ → ℕ
digit_of d = cond (ltb d 10) (48 + d) (55 + d)

-- The last k hexadecimal digits of n.
unfoldable pub hex_digits : ℕ → ℕ → List ℕ
hex_digits zero n = []
hex_digits (suc k) n = hex_digits k (n / 16) ++ (digit_of (n % 16) ∷ [])

-- The decimal digits of n with no leading zeros, for an n of at most k digits.
unfoldable pub decimal_digits : ℕ → ℕ → List ℕ
decimal_digits zero n = []
decimal_digits (suc k) n = cond (ltb n 10) (digit_of n ∷ []) (decimal_digits k (n / 10) ++ (digit_of (n % 10) ∷ []))

-- A number of 32 bits has at most ten.
unfoldable pub decimal_of : ℕ → List ℕ
decimal_of n = decimal_digits 10 n
