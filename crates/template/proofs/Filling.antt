-- What is written for a byte is no longer than its width, and a text is filled byte by byte.
-- Assumes nothing.
use Rattle.std.proofs.Common.{◌≡◌, ℕ, ◌+◌, ◌<◌, ◌≤◌, Bool, true, false, cond, List, [], ◌∷◌, ◌++◌, arith, add-one, drop, drop-cons, get_or, length}
use lib.Dec.{eqb}
use Rattle.text.specs.Digits.{hex_digits, decimal_of}
use Rattle.text.proofs.Digits.{hex_length, at_most_ten}
use Rattle.template.specs.Fill.{substituted, filled, width_of, room_of}

pub width : (c a n : ℕ) → length (substituted c a n) ≤ width_of c
width c a n = go (eqb c 64) (eqb c 35) where
  go : (s t : Bool) → length (cond s (hex_digits 8 a) (cond t (decimal_of n) (c ∷ []))) ≤ cond s 8 (cond t 10 1)
  go true t = omega (arith, hex_length 8 a)
  go false true = at_most_ten n
  go false false = omega arith

pub room : (t : List ℕ) (i : ℕ) → i < length t → room_of (drop i t) ≡ width_of (get_or t i 0) + room_of (drop (i + 1) t)
unfolding room_of
room t i h = rw (drop-cons t i 0 h, add-one i)

pub one_more : (t : List ℕ) (i a n : ℕ) → i < length t → filled (drop i t) a n ≡ substituted (get_or t i 0) a n ++ filled (drop (i + 1) t) a n
unfolding filled
one_more t i a n h = rw (drop-cons t i 0 h, add-one i)
