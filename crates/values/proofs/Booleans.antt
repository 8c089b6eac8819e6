-- Tests that are true or false, taken apart and put together.
-- Assumes nothing.
use Prim.Native.Nat.{ℕ}
use mathlib.Core.Path.{◌≡◌, refl}
use mathlib.Core.Bool.{Bool, true, false, not, ◌&&◌, ◌||◌}
use native.Mathlib.Omega.{arith}

pub no_way : {A : Type 0} → false ≡ true → A
no_way e = let z : ◌≡◌ {A = ℕ} 0 1 = cc in absurd (zero_one z)
  where
    zero_one : ◌≡◌ {A = ℕ} 0 1 → ⊥
    zero_one z = omega arith

-- by whether a test passes
pub by : {A : Type 0} (a : Bool) → (a ≡ true → A) → (a ≡ false → A) → A
by true f g = f refl
by false f g = g refl

pub and_l : (a b : Bool) → (a && b) ≡ true → a ≡ true
and_l true b e = refl
and_l false b e = e

pub and_r : (a b : Bool) → (a && b) ≡ true → b ≡ true
and_r true b e = e
and_r false b e = no_way e

pub and_i : {a b : Bool} → a ≡ true → b ≡ true → (a && b) ≡ true
and_i {a} {b} e f = rw (e, f)

pub or_cases : {A : Type 0} (a b : Bool) → (a || b) ≡ true → (a ≡ true → A) → (b ≡ true → A) → A
or_cases true b e f g = f refl
or_cases false b e f g = g e

pub or_l : {a : Bool} (b : Bool) → a ≡ true → (a || b) ≡ true
or_l {a} b e = rw e

pub or_r : (a : Bool) {b : Bool} → b ≡ true → (a || b) ≡ true
or_r true e = refl
or_r false e = e

pub not_i : {a : Bool} → a ≡ false → not a ≡ true
not_i {a} e = rw e

pub not_of : (a : Bool) → not a ≡ true → a ≡ false
not_of true e = no_way e
not_of false e = refl
