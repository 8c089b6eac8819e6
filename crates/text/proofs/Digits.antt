-- The digits of a number, one step at a time, and how many they are: by induction on the number of digits.
-- Assumes nothing.
use Prim.Native.Nat.{ℕ, zero, suc, ◌+◌, ◌-◌, ◌/◌, ◌%◌, ◌^◌, ◌<◌, ◌≤◌}
use mathlib.Core.Path.{◌≡◌, refl, ap}
use mathlib.Core.Bool.{Bool, true, false, cond}
use mathlib.Core.List.{List, [], ◌∷◌, ◌++◌, reverse, append_assoc}
use Rattle.std.proofs.lemmas.List.{reverse-append}
use native.Mathlib.Nat.{pow-suc}
use native.Mathlib.Numerals.{sub-one}
use native.Mathlib.Omega.{arith}
use borrow.Author.Tests.{lt-ltb, le-ltb}
use lib.Dec.{ltb}
use lib.ListN.{length, length-append}
use Rattle.text.specs.Digits.{digit_of, hex_digits, decimal_digits, decimal_of}

pub hex_length : (k n : ℕ) → length (hex_digits k n) ≡ k
unfolding hex_digits
hex_length zero n = refl
hex_length (suc k) n = omega (arith, length-append (hex_digits k (n / 16)) (digit_of (n % 16) ∷ []), hex_length k (n / 16))

pub hex_step : (k n : ℕ) → 0 < k → hex_digits k n ≡ hex_digits (k - 1) (n / 16) ++ (digit_of (n % 16) ∷ [])
unfolding hex_digits
hex_step zero n h = elim h [ ]
hex_step (suc k) n h = rw sub-one

pub decimal_length : (k n : ℕ) → length (decimal_digits k n) ≤ k
unfolding decimal_digits
decimal_length zero n = omega arith
decimal_length (suc k) n = go (ltb n 10) (decimal_length k (n / 10)) where
  go : (t : Bool) → length (decimal_digits k (n / 10)) ≤ k → length (cond t (digit_of n ∷ []) (decimal_digits k (n / 10) ++ (digit_of (n % 10) ∷ []))) ≤ suc k
  go true h = omega arith
  go false h = omega (arith, length-append (decimal_digits k (n / 10)) (digit_of (n % 10) ∷ []))

-- One place more than a number needs adds nothing.
more : (k n : ℕ) → n < 10 ^ suc k → decimal_digits (suc k) n ≡ decimal_digits (suc (suc k)) n
unfolding decimal_digits
more zero n h = simp (lt-ltb n 10 (omega arith))
more (suc k) n h =
    ap (λ ds. cond (ltb n 10) (digit_of n ∷ []) (ds ++ (digit_of (n % 10) ∷ [])))
    (more k (n / 10) (omega (arith, pow-suc 10 (suc k))))

pub one : (n : ℕ) → n < 10 → decimal_of n ≡ digit_of n ∷ []
unfolding decimal_of decimal_digits
one n h = simp (lt-ltb n 10 h)

pub ten : (n : ℕ) → 10 ≤ n → n < 2 ^ 32 → decimal_of n ≡ decimal_of (n / 10) ++ (digit_of (n % 10) ∷ [])
unfolding decimal_of decimal_digits
ten n h f = simp (le-ltb n 10 h) (ap (λ ds. ds ++ (digit_of (n % 10) ∷ [])) (more 8 (n / 10) (omega arith)))

pub ten_length : (n : ℕ) → 10 ≤ n → n < 2 ^ 32 → length (decimal_of n) ≡ length (decimal_of (n / 10)) + 1
ten_length n h f = omega (arith, ap length (ten n h f), length-append (decimal_of (n / 10)) (digit_of (n % 10) ∷ []))

pub at_most_ten : (n : ℕ) → length (decimal_of n) ≤ 10
unfolding decimal_of
at_most_ten n = decimal_length 10 n

-- The last digit is taken off, and put in front of those that were.
pub taken_off : (n : ℕ) (ds : List ℕ) → 10 ≤ n → n < 2 ^ 32 → decimal_of (n / 10) ++ reverse (ds ++ (digit_of (n % 10) ∷ [])) ≡ decimal_of n ++ reverse ds
taken_off n ds h f = rw (reverse-append ds (digit_of (n % 10) ∷ []), ten n h f, append_assoc)

pub hex_taken_off : (k i n : ℕ) (ds : List ℕ) → i < k → hex_digits (k - (i + 1)) (n / 16) ++ reverse (ds ++ (digit_of (n % 16) ∷ [])) ≡ hex_digits (k - i) n ++ reverse ds
hex_taken_off k i n ds h =
    let p : 0 < k - i = omega arith in
    let e : k - i - 1 ≡ k - (i + 1) = omega arith in
    rw (reverse-append ds (digit_of (n % 16) ∷ []), hex_step (k - i) n p, e, append_assoc)
