-- A law over a table: two functions of a number agree below n if the lists of their values do, which antt computes.
-- Assumes nothing.
use Prim.Native.Nat.{ℕ, zero, suc, ◌+◌, ◌<◌}
use mathlib.Core.Path.{◌≡◌, subst}
use mathlib.Core.List.{List, [], ◌∷◌}
use native.Mathlib.Omega.{arith}
use native.Mathlib.Nat.{not-suc-le-zero}

-- the n values of f from i on
abbrev pub table : {A : Type 0} → (ℕ → A) → ℕ → ℕ → List A
table f i zero = []
table f i (suc n) = f i ∷ table f (suc i) n

module _ {A : Type 0} (f g : ℕ → A) where
  from : (i n : ℕ) → table f i n ≡ table g i n → (k : ℕ) → k < n → f (i + k) ≡ g (i + k)
  from i zero e k h = absurd (not-suc-le-zero h)
  from i (suc n) e zero h =
      let first : f i ≡ g i = cc in subst (λ j. f j ≡ g j) (omega arith) first
  from i (suc n) e (suc k) h =
      let rest : table f (suc i) n ≡ table g (suc i) n = cc in
      subst (λ j. f j ≡ g j) (omega arith) (from (suc i) n rest k (omega arith))

  pub each : (n : ℕ) → table f 0 n ≡ table g 0 n → (k : ℕ) → k < n → f k ≡ g k
  each n e k h = subst (λ j. f j ≡ g j) (omega arith) (from 0 n e k h)
