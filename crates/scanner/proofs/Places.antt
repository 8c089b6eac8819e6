-- The place behind a line, and the text that stands there. What stands behind a line is the end of the whole text, so that its
-- length tells its place, and its place tells it again.
-- Assumes nothing.
use Prim.Native.Nat.{ℕ, suc, ◌+◌, ◌*◌, ◌-◌, ◌<◌}
use mathlib.Core.Path.{◌≡◌, refl, sym, ap, ◌∙◌}
use mathlib.Core.Bool.{Bool, true, false, cond}
use mathlib.Core.List.{List, [], ◌∷◌}
use native.Mathlib.Omega.{arith}
use lib.Dec.{eqb, ltb, leb}
use lib.ListN.{length, drop, length-drop}
use lib.Seq.{drop-cons}
use Rattle.std.proofs.Common.{Option, Some, None, Result}
use Rattle.std.specs.Result.{result_ok}
use Rattle.scanner.specs.Lines.{Line, Digits, digit_value, number_in, keyed_in}
use Rattle.scanner.specs.Places.{placed_in}

-- The line that a place tells of.
abbrev pub line_at : List ℕ → Option (ℕ × ℕ) → Line
line_at s (Some (n, next)) = Some (n, drop next s)
line_at s None = None

-- The line l of the text s is told by its place.
record Told (s : List ℕ) (l : Line) : Type 0 where
  told : line_at s (placed_in s l) ≡ l

module _ (s : List ℕ) where
  nothing : Told s None
  nothing = record { told = refl }

  either : (b : Bool) {x y : Line} → Told s x → Told s y → Told s (cond b x y)
  either true p q = p
  either false p q = q

  none_or : (b : Bool) {l : Line} → Told s l → Told s (cond b None l)
  none_or b p = either b nothing p

  -- At the place j stands the byte c, and behind it cs.
  module _ (j c : ℕ) (cs : List ℕ) (here : drop j s ≡ c ∷ cs) where
    inside : j < length s
    inside = omega (arith, ap length here, length-drop j s)

    behind : drop (suc j) s ≡ cs
    behind = cc (drop-cons s j 0 inside)

    whole : (n : ℕ) → Told s (Some (n, cs))
    whole n =
        let place : length s - length cs ≡ suc j = omega (arith, ap length here, length-drop j s) in
        record { told = ap (λ t. Some (n, t)) (ap (λ i. drop i s) place ∙ behind) }

  number_told : (f : Digits) (n k j : ℕ) (t : List ℕ) → drop j s ≡ t → Told s (number_in f n k t)
  unfolding number_in
  number_told f n k j [] e = nothing
  number_told f n k j (c ∷ cs) e =
      either (eqb c 10) (none_or (ltb k f.least) (whole j c cs e n))
      (none_or (leb f.base (digit_value c))
      (none_or (leb f.most k)
      (none_or (ltb 4294967295 (n * f.base + digit_value c)) (number_told f (n * f.base + digit_value c) (suc k) (suc j) cs (behind j c cs e)))))

  keyed_told : (f : Digits) (key : List ℕ) (j : ℕ) (t : List ℕ) → drop j s ≡ t → Told s (keyed_in f key t)
  unfolding keyed_in
  keyed_told f [] j t e = number_told f 0 0 j t e
  keyed_told f (k ∷ ks) j [] e = nothing
  keyed_told f (k ∷ ks) j (c ∷ cs) e = either (eqb c k) (keyed_told f ks (suc j) cs (behind j c cs e)) nothing

-- So what the functions hand back, a line that was found or none, tells the line that there is.
pub told_number : (s : List ℕ) (f : Digits) (r : Option (ℕ × ℕ)) → r ≡ placed_in s (number_in f 0 0 s) → line_at s r ≡ number_in f 0 0 s
told_number s f r e = ap (line_at s) e ∙ (number_told s f 0 0 0 s refl).told

pub told_line : (s key : List ℕ) (at : ℕ) (f : Digits) (r : Option (ℕ × ℕ)) → r ≡ placed_in s (keyed_in f key (drop at s)) → line_at s r ≡ keyed_in f key (drop at s)
told_line s key at f r e = ap (line_at s) e ∙ (keyed_told s f key at _ refl).told

-- The same of a caller that goes on with a line which was found, and hands back an error where there is none.
pub read_line : (s key : List ℕ) (at : ℕ) (f : Digits) {E : Type 0} (r : Option (ℕ × ℕ)) (o : Result (ℕ × ℕ) E)
    → r ≡ placed_in s (keyed_in f key (drop at s))
    → r ≡ result_ok o
    → keyed_in f key (drop at s) ≡ line_at s (result_ok o)
read_line s key at f r o e h = sym (told_line s key at f r e) ∙ ap (line_at s) h
