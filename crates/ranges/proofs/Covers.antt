-- What is known of the registers is sound: each operation on ranges covers the operation on numbers.
-- Assumes nothing.
use Prim.Native.Nat.{ℕ, zero, suc, ◌+◌, ◌*◌, ◌-◌, ◌%◌, ◌≤◌, ◌<◌, ◌^◌}
use mathlib.Core.Path.{◌≡◌, refl, ◌∙◌, ap}
use mathlib.Core.Bool.{Bool, true, false, ◌&&◌, cond}
use mathlib.Core.List.{List, [], ◌∷◌}
use native.Mathlib.Nat.{suc_inj}
use native.Mathlib.Omega.{arith}
use lib.Dec.{ltb, leb, eqb}
use lib.ListN.{length, get_or, set, replicate, length-set}
use lib.Bits.{bit_and, and_le_l, and_le_r, and_mod, and_zero_l, and_zero_r}
use borrow.Author.Tests.{ltb-false, leb-true, eqb-true}
use Rattle.shifter.specs.Shift.{left_of}
use Rattle.ranges.specs.declared.Range.{Range}
use Rattle.ranges.specs.Ranges.{most, full, unknown, range_at, exact_range, and_range, sum_range, less_range, shifted_range}
use Rattle.values.proofs.Booleans.{no_way, and_l, and_r, or_cases}

pub record In (x : Range) (v : ℕ) : Type 0 where
  pub low : x.low ≤ v
  pub high : v ≤ x.high
  pub multiple : x.aligned ≡ true → v % 4 ≡ 0

-- a bank whose registers lie in their ranges
pub data Fits : List Range → List ℕ → Type 0 where
  none : Fits [] []
  one : {x : Range} {v : ℕ} {k : List Range} {l : List ℕ} → In x v → Fits k l → Fits (x ∷ k) (v ∷ l)

in_full : {v : ℕ} → v < 2 ^ 32 → In full v
in_full h = record { low = omega arith; high = omega arith; multiple = λ e. no_way e }

pub in_exactly : (v : ℕ) → In (exact_range v) v
in_exactly v = record { low = omega arith; high = omega arith; multiple = λ e. eqb-true (v % 4) 0 e }

pub fits_at : {k : List Range} {l : List ℕ} → Fits k l → (r : ℕ) → In (range_at k r) (get_or l r 0)
fits_at none r = in_full (omega arith)
fits_at (one h f) zero = h
fits_at (one h f) (suc r) = fits_at f r

pub fits_set : {k : List Range} {l : List ℕ} → Fits k l → (d : ℕ) {x : Range} {v : ℕ} → In x v → Fits (set k d x) (set l d v)
fits_set none d i = none
fits_set (one h f) zero i = one i f
fits_set (one h f) (suc d) i = one h (fits_set f d i)

fits_length : {k : List Range} {l : List ℕ} → Fits k l → length k ≡ length l
fits_length none = refl
fits_length (one h f) = ap suc (fits_length f)

-- a register that gets a value of which nothing is known
fits_write_all : (n : ℕ) {k : List Range} {l : List ℕ} → Fits k l → (d v : ℕ) → Fits (replicate n full) (set l d v) → Fits (set k d full) (set l d v)
fits_write_all n none d v w = none
fits_write_all zero (one {v = x} {l = l} h f) d v w = let e = fits_length w ∙ length-set (x ∷ l) d v in absurd (omega arith)
fits_write_all (suc n) (one h f) zero v (one i w) = one i f
fits_write_all (suc n) (one h f) (suc d) v (one i w) = one h (fits_write_all n f d v w)

pub fits_write : {k : List Range} {l : List ℕ} → Fits k l → (d v : ℕ) → Fits unknown (set l d v) → Fits (set k d full) (set l d v)
fits_write = fits_write_all 32

wide_all : (n : ℕ) (l : List ℕ) → length l ≡ n → ((i : ℕ) → get_or l i 0 < 2 ^ 32) → Fits (replicate n full) l
wide_all zero [] e h = none
wide_all zero (v ∷ l) e h = absurd (omega arith)
wide_all (suc n) [] e h = absurd (omega arith)
wide_all (suc n) (v ∷ l) e h = one (in_full (h 0)) (wide_all n l (suc_inj e) (λ i. h (suc i)))

pub wide : (l : List ℕ) → length l ≡ 32 → ((i : ℕ) → get_or l i 0 < 2 ^ 32) → Fits unknown l
wide l e h = wide_all 32 l e h

pub in_sum : {x y : Range} {v w : ℕ} → In x v → In y w → In (sum_range x y) ((v + w) % 2 ^ 32)
in_sum {x} {y} {v} {w} i j = go (ltb most (x.high + y.high)) refl
  where
    four : x.aligned && y.aligned ≡ true → (v + w) % 2 ^ 32 % 4 ≡ 0
    four e =
        let a = i.multiple (and_l x.aligned y.aligned e) in
        let b = j.multiple (and_r x.aligned y.aligned e) in
        omega arith

    go : (t : Bool) → ltb most (x.high + y.high) ≡ t → In (record { low = cond t 0 (x.low + y.low); high = cond t most (x.high + y.high); aligned = x.aligned && y.aligned }) ((v + w) % 2 ^ 32)
    go true e = record { low = omega arith; high = omega arith; multiple = four }
    go false e =
        let h = ltb-false most (x.high + y.high) e in
        record { low = omega (arith, i.low, i.high, j.low, j.high); high = omega (arith, i.low, i.high, j.low, j.high); multiple = four }

pub in_and : {x y : Range} {v w : ℕ} → In x v → In y w → In (and_range x y) (bit_and v w)
in_and {x} {y} {v} {w} i j =
    record {
      low = omega arith;
      high = omega (arith, and_le_l v w, and_le_r v w, i.high, j.high);
      multiple = λ e. or_cases x.aligned y.aligned e
          (λ h. and_mod v w 2 ∙ ap (λ n. bit_and n (w % 4)) (i.multiple h) ∙ and_zero_l (w % 4))
          (λ h. and_mod v w 2 ∙ ap (λ n. bit_and (v % 4) n) (j.multiple h) ∙ and_zero_r (v % 4));
    }

pub in_less : {x : Range} {v : ℕ} (n : ℕ) → In x v → v < 2 ^ 32 → n ≤ 32 → In (less_range x n) ((v + 2 ^ 32 - n) % 2 ^ 32)
in_less {x} {v} n i h l = go (leb n x.low) refl
  where
    four : x.aligned && eqb (n % 4) 0 ≡ true → (v + 2 ^ 32 - n) % 2 ^ 32 % 4 ≡ 0
    four e =
        let a = i.multiple (and_l x.aligned (eqb (n % 4) 0) e) in
        let b = eqb-true (n % 4) 0 (and_r x.aligned (eqb (n % 4) 0) e) in
        omega arith

    go : (t : Bool) → leb n x.low ≡ t → In (record { low = cond t (x.low - n) 0; high = cond t (x.high - n) most; aligned = x.aligned && eqb (n % 4) 0 }) ((v + 2 ^ 32 - n) % 2 ^ 32)
    go true e =
        let b = leb-true n x.low e in
        record { low = omega (arith, i.low, i.high); high = omega (arith, i.low, i.high); multiple = four }
    go false e = record { low = omega arith; high = omega arith; multiple = four }

shifted_four : (v n : ℕ) → 2 ≤ n → v * 2 ^ n % 2 ^ 32 % 4 ≡ 0
shifted_four v zero h = absurd (omega arith)
shifted_four v (suc zero) h = absurd (omega arith)
shifted_four v (suc (suc n)) h =
    let p : 2 ^ suc (suc n) ≡ 4 * 2 ^ n = omega arith in
    let e : v * (4 * 2 ^ n) ≡ 4 * (v * 2 ^ n) = omega arith in
    rw (p, e) (omega arith)

pub in_shifted : (v n : ℕ) → In (shifted_range n) (left_of v n).value
in_shifted v n = go (ltb n 32)
  where
    go : (t : Bool) → In (shifted_range n) (cond t (v * 2 ^ n % 2 ^ 32) 0)
    go true = record { low = omega arith; high = omega arith; multiple = λ e. shifted_four v n (leb-true 2 n e) }
    go false = record { low = omega arith; high = omega arith; multiple = λ e. refl }
