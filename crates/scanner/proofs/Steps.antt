-- One step of the definitions of a line, at the byte that stands at a place: by their own tests.
-- Assumes nothing.
use Prim.Native.Nat.{ℕ, suc, ◌+◌, ◌*◌, ◌<◌, ◌≤◌}
use mathlib.Core.Path.{◌≡◌, refl}
use mathlib.Core.Bool.{Bool, true, false, cond, ◌&&◌}
use mathlib.Core.List.{List, [], ◌∷◌}
use Rattle.std.proofs.Common.{Some, None, nat_eq, slice_range}
use Rattle.std.specs.Cmp.Lexicographic.{pointwise}
use borrow.Author.Tests.{lt-ltb, le-ltb, le-leb, lt-leb, eq-eqb, ne_eqb}
use lib.ListN.{length, drop, take, get_or, length-drop, drop_of_length-le}
use lib.Seq.{drop-cons, take-length}
use Rattle.scanner.specs.Lines.{Digits, digit_value, number_in, keyed_in}

module _ (f : Digits) (n k : ℕ) (s : List ℕ) (i : ℕ) (inside : i < length s) where
  pub too_few : get_or s i 0 ≡ 10 → k < f.least → number_in f n k (drop i s) ≡ None
  unfolding number_in
  too_few e h = rw (drop-cons s i 0 inside) (simp (eq-eqb _ _ e, lt-ltb _ _ h))

  pub whole : get_or s i 0 ≡ 10 → f.least ≤ k → number_in f n k (drop i s) ≡ Some (n, drop (suc i) s)
  unfolding number_in
  whole e h = rw (drop-cons s i 0 inside) (simp (eq-eqb _ _ e, le-ltb _ _ h))

  module _ (other : get_or s i 0 ≡ 10 → ⊥) where
    pub no_digit : f.base ≤ digit_value (get_or s i 0) → number_in f n k (drop i s) ≡ None
    unfolding number_in
    no_digit h = rw (drop-cons s i 0 inside) (simp (ne_eqb _ _ other, le-leb _ _ h))

    module _ (digit : digit_value (get_or s i 0) < f.base) where
      pub too_many : f.most ≤ k → number_in f n k (drop i s) ≡ None
      unfolding number_in
      too_many h = rw (drop-cons s i 0 inside) (simp (ne_eqb _ _ other, lt-leb _ _ digit, le-leb _ _ h))

      module _ (few : k < f.most) where
        pub too_large : 4294967295 < n * f.base + digit_value (get_or s i 0) → number_in f n k (drop i s) ≡ None
        unfolding number_in
        too_large h = rw (drop-cons s i 0 inside) (simp (ne_eqb _ _ other, lt-leb _ _ digit, lt-leb _ _ few, lt-ltb _ _ h))

        pub next : n * f.base + digit_value (get_or s i 0) ≤ 4294967295 → number_in f n k (drop i s) ≡ number_in f (n * f.base + digit_value (get_or s i 0)) (suc k) (drop (suc i) s)
        unfolding number_in
        next h = rw (drop-cons s i 0 inside) (simp (ne_eqb _ _ other, lt-leb _ _ digit, lt-leb _ _ few, le-ltb _ _ h))

-- No number is at the end of a text or beyond it.
pub no_number : (f : Digits) (n k : ℕ) (s : List ℕ) (i : ℕ) → length s ≤ i → number_in f n k (drop i s) ≡ None
unfolding number_in
no_number f n k s i h = rw (drop_of_length-le s h)

-- A key, which the text begins with or not.
module _ (f : Digits) where
  pub key_same : (key t : List ℕ) → pointwise nat_eq (take (length key) t) key ≡ true → keyed_in f key t ≡ number_in f 0 0 (drop (length key) t)
  unfolding keyed_in
  key_same [] t e = refl
  key_same (k ∷ ks) [] e = cc
  key_same (k ∷ ks) (c ∷ cs) e = go (nat_eq c k) (key_same ks cs) e where
    go : (b : Bool) → (pointwise nat_eq (take (length ks) cs) ks ≡ true → keyed_in f ks cs ≡ number_in f 0 0 (drop (length ks) cs)) → (b && pointwise nat_eq (take (length ks) cs) ks) ≡ true → cond b (keyed_in f ks cs) None ≡ number_in f 0 0 (drop (length ks) cs)
    go true more e = more e
    go false more e = cc

  pub key_other : (key t : List ℕ) → pointwise nat_eq (take (length key) t) key ≡ false → keyed_in f key t ≡ None
  unfolding keyed_in
  key_other [] t e = cc
  key_other (k ∷ ks) [] e = refl
  key_other (k ∷ ks) (c ∷ cs) e = go (nat_eq c k) (key_other ks cs) e where
    go : (b : Bool) → (pointwise nat_eq (take (length ks) cs) ks ≡ false → keyed_in f ks cs ≡ None) → (b && pointwise nat_eq (take (length ks) cs) ks) ≡ false → cond b (keyed_in f ks cs) None ≡ None
    go true more e = more e
    go false more e = refl

  pub no_key : (key s : List ℕ) (at : ℕ) → length s ≤ at → keyed_in f key (drop at s) ≡ None
  unfolding keyed_in number_in
  no_key [] s at h = rw (drop_of_length-le s h)
  no_key (k ∷ ks) s at h = rw (drop_of_length-le s h)

-- What is behind a place, as a slice.
pub slice_behind : (s : List ℕ) (at : ℕ) → slice_range s at (length s) ≡ drop at s
slice_behind s at = rw (← length-drop at s) (take-length (drop at s))

-- What `number` and `line` go by.
pub ruleset steps = (too_few, whole, no_digit, too_many, too_large, next, no_number, key_same, key_other, no_key, slice_behind)
