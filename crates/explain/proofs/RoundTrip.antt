-- What the run program prints is read back as the run's answer, its steps and its counter, and what the loading check prints
-- as its answer and its address: digit by digit, line by line.
-- Assumes nothing.
use Prim.Native.Nat.{ℕ, zero, suc, ◌+◌, ◌*◌, ◌/◌, ◌%◌, ◌^◌, ◌<◌, ◌≤◌}
use mathlib.Core.Path.{◌≡◌, refl, ap, ◌∙◌}
use mathlib.Core.Bool.{Bool, true, false, cond}
use mathlib.Core.List.{List, [], ◌∷◌, ◌++◌, append_assoc, append-nil}
use native.Mathlib.Nat.{pow-suc}
use native.Mathlib.Omega.{arith}
use borrow.Author.Tests.{lt-ltb, le-ltb, lt-leb, eq-eqb, ne_eqb, ltb-true, ltb-false}
use Rattle.std.proofs.Common.{Some, None, Ok}
use lib.Dec.{ltb}
use lib.ListN.{length, length-append}
use Rattle.text.specs.Bytes.{bytes}
use Rattle.lines.specs.Lines.{line_of, check_lines}
use Rattle.text.specs.Digits.{digit_of, hex_digits, decimal_digits, decimal_of}
use Rattle.text.proofs.Digits.{decimal_length}
use Rattle.card.specs.declared.Card.{Card}
use Rattle.card.specs.Text.{answer_key, steps_key, pc_key, flags_key, remain_key, acc_key, card_text}
use Rattle.advice.specs.Explanation.{said, explanation_of}
use Rattle.explain.specs.ReadsBack.{Fits, ReadsBack}
use Rattle.parser.specs.declared.Reading.TheVariants.{Card as Read, Check}
use Rattle.scanner.specs.Lines.{Digits, decimal, hexadecimal, digit_value, number_in, keyed_in}
use Rattle.parser.specs.Readings.{check_reading, card_reading, reading_of}

-- A digit counts what it was written for.
value : (x : ℕ) → x < 16 → digit_value (digit_of x) ≡ x
value x h = go (ltb x 10) refl where
  go : (t : Bool) → ltb x 10 ≡ t → digit_value (cond t (48 + x) (55 + x)) ≡ x
  go true e =
      let l = ltb-true x 10 e in
      simp (le-ltb (48 + x) 48 (omega arith), lt-ltb (48 + x) 58 (omega arith)) (omega arith)
  go false e =
      let l = ltb-false x 10 e in
      simp (le-ltb (55 + x) 48 (omega arith), le-ltb (55 + x) 58 (omega arith), le-ltb (55 + x) 65 (omega arith), lt-ltb (55 + x) 71 (omega arith)) (omega arith)

no_feed : (x : ℕ) → digit_of x ≡ 10 → ⊥
no_feed x e = go (ltb x 10) e where
  go : (t : Bool) → cond t (48 + x) (55 + x) ≡ 10 → ⊥
  go true h = omega arith
  go false h = omega arith

digit : (f : Digits) (n k x : ℕ) (t : List ℕ) → x < 16 → x < f.base → k < f.most → n * f.base + x ≤ 4294967295 → number_in f n k (digit_of x ∷ t) ≡ number_in f (n * f.base + x) (suc k) t
unfolding number_in
digit f n k x t h b m s =
    rw (ne_eqb (digit_of x) 10 (no_feed x), value x h, lt-leb f.base x b, lt-leb f.most k m, le-ltb 4294967295 (n * f.base + x) s)

hex_read : (k n : ℕ) (t : List ℕ) → k ≤ 8 → n < 16 ^ k → n ≤ 4294967295 → number_in hexadecimal 0 0 (hex_digits k n ++ t) ≡ number_in hexadecimal n k t
unfolding hex_digits
hex_read zero n t h f s = ap (λ m. number_in hexadecimal m 0 t) (omega arith)
hex_read (suc k) n t h f s =
    ap (number_in hexadecimal 0 0) (append_assoc (hex_digits k (n / 16)) (digit_of (n % 16) ∷ []) t)
    ∙ hex_read k (n / 16) (digit_of (n % 16) ∷ t) (omega arith) (omega (arith, pow-suc 16 k)) (omega arith)
    ∙ digit hexadecimal (n / 16) k (n % 16) t (omega arith) (omega arith) (omega arith) (omega arith)
    ∙ ap (λ m. number_in hexadecimal m (suc k) t) (omega arith)

one_digit : (n : ℕ) (t : List ℕ) → n < 10 → number_in decimal 0 0 (digit_of n ∷ t) ≡ number_in decimal n 1 t
one_digit n t h = digit decimal 0 0 n t (omega arith) h (omega arith) (omega arith) ∙ ap (λ m. number_in decimal m 1 t) (omega arith)

decimal_read : (k n : ℕ) (t : List ℕ)
    → k ≤ 9
    → n < 10 ^ suc k
    → n ≤ 4294967295
    → number_in decimal 0 0 (decimal_digits (suc k) n ++ t) ≡ number_in decimal n (length (decimal_digits (suc k) n)) t
unfolding decimal_digits
decimal_read zero n t h f s =
    let small = lt-ltb n 10 (omega arith) in
    rw small (rw small at (one_digit n t (omega arith)))
decimal_read (suc k) n t h f s =
    go (ltb n 10) refl (decimal_read k (n / 10) (digit_of (n % 10) ∷ t) (omega arith) (omega (arith, pow-suc 10 (suc k))) (omega arith)) where
      go : (b : Bool)
          → ltb n 10 ≡ b
          → number_in decimal 0 0 (decimal_digits (suc k) (n / 10) ++ (digit_of (n % 10) ∷ t)) ≡ number_in decimal (n / 10) (length (decimal_digits (suc k) (n / 10))) (digit_of (n % 10) ∷ t)
          → number_in decimal 0 0 (cond b (digit_of n ∷ []) (decimal_digits (suc k) (n / 10) ++ (digit_of (n % 10) ∷ [])) ++ t) ≡ number_in decimal n (length (cond b (digit_of n ∷ []) (decimal_digits (suc k) (n / 10) ++ (digit_of (n % 10) ∷ [])))) t
      go true e before = one_digit n t (ltb-true n 10 e)
      go false e before =
          let front = decimal_digits (suc k) (n / 10) in
          ap (number_in decimal 0 0) (append_assoc front (digit_of (n % 10) ∷ []) t)
          ∙ before
          ∙ digit decimal (n / 10) (length front) (n % 10) t (omega arith) (omega arith) (omega (arith, decimal_length (suc k) (n / 10))) (omega arith)
          ∙ ap (λ m. number_in decimal m (suc (length front)) t) (omega arith)
          ∙ ap (λ m. number_in decimal n m t) (omega (arith, length-append front (digit_of (n % 10) ∷ [])))

some_digit : (k n : ℕ) → 1 ≤ length (decimal_digits (suc k) n)
unfolding decimal_digits
some_digit k n = go (ltb n 10) where
  go : (b : Bool) → 1 ≤ length (cond b (digit_of n ∷ []) (decimal_digits k (n / 10) ++ (digit_of (n % 10) ∷ [])))
  go true = omega arith
  go false = omega (arith, length-append (decimal_digits k (n / 10)) (digit_of (n % 10) ∷ []))

feed : (f : Digits) (n k : ℕ) (t : List ℕ) → f.least ≤ k → number_in f n k (10 ∷ t) ≡ Some (n, t)
unfolding number_in
feed f n k t h = rw (le-ltb k f.least h)

key_read : (f : Digits) (key t : List ℕ) → keyed_in f key (key ++ t) ≡ number_in f 0 0 t
unfolding keyed_in
key_read f [] t = refl
key_read f (c ∷ key) t = rw (eq-eqb c c refl) (key_read f key t)

-- A line, and whatever comes behind it.
line_read : (f : Digits) (key digits t : List ℕ) (n : ℕ) → number_in f 0 0 (digits ++ (10 ∷ t)) ≡ Some (n, t) → keyed_in f key (line_of key digits ++ t) ≡ Some (n, t)
unfolding line_of
line_read f key digits t n h =
    ap (keyed_in f key) (append_assoc key (digits ++ (10 ∷ [])) t ∙ ap (λ r. key ++ r) (append_assoc digits (10 ∷ []) t))
    ∙ key_read f key (digits ++ (10 ∷ t))
    ∙ h

decimal_line : (key : List ℕ) (n : ℕ) (t : List ℕ) → n < 2 ^ 32 → keyed_in decimal key (line_of key (decimal_of n) ++ t) ≡ Some (n, t)
unfolding decimal_of
decimal_line key n t h =
    line_read decimal key (decimal_digits 10 n) t n
    (decimal_read 9 n (10 ∷ t) (omega arith) (omega arith) (omega arith) ∙ feed decimal n (length (decimal_digits 10 n)) t (some_digit 9 n))

hex_line : (key : List ℕ) (n : ℕ) (t : List ℕ) → n < 2 ^ 32 → keyed_in hexadecimal key (line_of key (hex_digits 8 n) ++ t) ≡ Some (n, t)
hex_line key n t h =
    line_read hexadecimal key (hex_digits 8 n) t n
    (hex_read 8 n (10 ∷ t) (omega arith) (omega arith) (omega arith) ∙ feed hexadecimal n 8 t (omega arith))

round_trip : (card : Card) → Fits card → reading_of (card_text card) ≡ Ok (Read card.answer card.steps card.pc)
unfolding reading_of card_reading card_text bytes
round_trip card fits =
    rw (decimal_line answer_key card.answer _ fits.answer, decimal_line steps_key card.steps _ fits.steps, hex_line pc_key card.pc _ fits.pc, hex_line flags_key card.flags _ fits.flags, hex_line remain_key card.remainder _ fits.remainder, ← append-nil (line_of acc_key (hex_digits 8 card.accumulator)), hex_line acc_key card.accumulator [] fits.accumulator)

no_steps : (digits : List ℕ) → keyed_in decimal steps_key (line_of (bytes "address=") digits) ≡ None
unfolding keyed_in line_of bytes
no_steps digits = refl

check_round_trip : (answer address : ℕ) → answer < 2 ^ 32 → address < 2 ^ 32 → reading_of (check_lines answer address) ≡ Ok (Check answer address)
unfolding reading_of check_reading check_lines bytes
check_round_trip answer address a b =
    rw (decimal_line answer_key answer _ a, no_steps (hex_digits 8 address), ← append-nil (line_of (bytes "address=") (hex_digits 8 address)), hex_line (bytes "address=") address [] b)

pub reads_back : ReadsBack
unfolding explanation_of
reads_back =
    record {
      cards = λ card fits. ap said (round_trip card fits);
      checks = λ answer address a b. ap said (check_round_trip answer address a b);
    }
