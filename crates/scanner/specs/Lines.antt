-- A line of a card: a key, a number, and a line feed. It is read off the front of a text, which is a list of ASCII codes.
use Rattle.std.specs.Prelude.{ℕ, suc, ◌+◌, ◌-◌, ◌*◌, cond, Option, Some, None, List, [], ◌∷◌, eqb, ltb, leb}
use Prim.Native.String.{String}
use Rattle.text.specs.Bytes.{bytes}

-- What a text begins with: a line with this number, and the text behind the line; or no such line.
abbrev pub Line : Type 0
Line = Option (ℕ × List ℕ)

-- How a number is written: its base, and the least and the largest count of its digits.
pub record Digits : Type 0 where
  pub base : ℕ
  pub least : ℕ
  pub most : ℕ

abbrev pub digits : ℕ → ℕ → ℕ → Digits
digits base least most = record { base = base; least = least; most = most }

-- "answer and steps in decimal": a number of 32 bits has at most ten digits.
abbrev pub decimal : Digits
decimal = digits 10 1 10

-- "as eight hex digits"
abbrev pub hexadecimal : Digits
hexadecimal = digits 16 8 8

-- What a digit counts, '0' to '9' and 'A' to 'F'. Any other byte counts 16, which is no digit in either base.
abbrev pub digit_value : ℕ → ℕ
digit_value c = cond (ltb c 48) 16 (cond (ltb c 58) (c - 48) (cond (ltb c 65) 16 (cond (ltb c 71) (c - 55) 16)))

-- The rest of a number and its line feed, where k digits have given n so far. A number of more than 32 bits is none.
unfoldable pub number_in : Digits → ℕ → ℕ → List ℕ → Line
number_in f n k [] = None
number_in f n k (c ∷ cs) =
    cond (eqb c 10)
    (cond (ltb k f.least) None (Some (n, cs)))
    (cond (leb f.base (digit_value c))
    None
    (cond (leb f.most k)
    None
    (cond (ltb 4294967295 (n * f.base + digit_value c)) None (number_in f (n * f.base + digit_value c) (suc k) cs))))

-- A key in front of such a number.
unfoldable pub keyed_in : Digits → List ℕ → List ℕ → Line
keyed_in f [] t = number_in f 0 0 t
keyed_in f (k ∷ ks) [] = None
keyed_in f (k ∷ ks) (c ∷ cs) = cond (eqb c k) (keyed_in f ks cs) None

abbrev pub line_in : Digits → String → List ℕ → Line
line_in f key t = keyed_in f (bytes key) t
