-- A pass that marks addresses: the marks and the scan of what is left make up the scan of the whole.
-- Assumes nothing.
use Rattle.std.proofs.Common.{Option}
use Prim.Native.Nat.{ℕ, zero, suc, ◌+◌, ◌-◌, ◌≤◌, ◌<◌}
use mathlib.Core.Path.{◌≡◌, refl, sym, subst, ◌∙◌, ap}
use mathlib.Core.Bool.{Bool, true, false, not, ◌||◌}
use mathlib.Core.List.{List}
use mathlib.Core.Logic.{◌⊎◌, inl, inr}
use native.Mathlib.Nat.{add-zero}
use native.Mathlib.Omega.{arith}
use lib.Dec.{ltb, eqb}
use lib.ListN.{length, get_or, replicate, length-set}
use lib.Seq.{get_or-set_same, get_or-set_other}
use borrow.Author.Tests.{lt-ltb, le-ltb, ltb-false, eqb-true, eqb-false}
use Rattle.std.proofs.Common.{is_some}
use Rattle.processor.specs.Processor.{Processor}
use Rattle.items.specs.declared.Item.{Item}
use Rattle.items.specs.Items.{item_of, shape_of, bytes_of}
use Rattle.rules.specs.Scan.{first_bad}
use Rattle.values.proofs.Booleans.{by}
use Rattle.reading.specs.Marks.{mark_count, mark_at, mark, Near}
use Rattle.reading.proofs.From.{from_there, from_first, from_past, from_on, from_hit}
use Rattle.reading.proofs.Offsets.{after_at}

or_true : (a : Bool) → (a || true) ≡ true
or_true true = refl
or_true false = refl

pub or_false : (a : Bool) → (a || false) ≡ a
or_false true = refl
or_false false = refl

get_or_none : (n i : ℕ) → get_or (replicate n false) i false ≡ false
get_or_none zero i = refl
get_or_none (suc n) zero = refl
get_or_none (suc n) (suc i) = get_or_none n i

module _ (P : Processor) where
  pub none_marked : (n t : ℕ) → mark_at P (replicate n false) t ≡ false
  unfolding mark_at
  none_marked n t =
      by (ltb t P.base)
      (λ e. rw e)
      (λ e. rw e (by (ltb (t - P.base) (mark_count P)) (λ d. rw (d, get_or_none)) (λ d. rw d)))

  pub length_mark : (m : List Bool) (t : ℕ) → length (mark P m t) ≡ length m
  unfolding mark
  length_mark m t =
      by (ltb t P.base)
      (λ e. rw e)
      (λ e. rw e (by (ltb (t - P.base) (mark_count P)) (λ d. rw (d, length-set)) (λ d. rw d)))

  pub mark_at_lem : (m : List Bool) (u t : ℕ) → length m ≡ mark_count P → Near P u ⊎ Near P t → mark_at P (mark P m u) t ≡ (mark_at P m t || eqb u t)
  unfolding mark_at mark
  mark_at_lem m u t l n =
      by (eqb u t)
      (λ e. same (eqb-true u t e) n e)
      (λ e. other (eqb-false u t e) e)
    where
      hits : u ≡ t → Near P u → eqb u t ≡ true → mark_at P (mark P m u) t ≡ (mark_at P m t || eqb u t)
      hits q h e =
          rw (
            e,
            or_true,
            ← q,
            le-ltb u P.base h.low,
            lt-ltb (u - P.base) (mark_count P) (omega (arith, h.high)),
          )
          (get_or-set_same m (u - P.base) true false (omega (arith, h.high)))

      same : u ≡ t → Near P u ⊎ Near P t → eqb u t ≡ true → mark_at P (mark P m u) t ≡ (mark_at P m t || eqb u t)
      same q (inl h) e = hits q h e
      same q (inr h) e = hits q (subst (Near P) (sym q) h) e

      other : (u ≡ t → ⊥) → eqb u t ≡ false → mark_at P (mark P m u) t ≡ (mark_at P m t || eqb u t)
      other q e =
          rw (e, or_false)
          (by (ltb u P.base)
          (λ d. rw d)
          (λ d.
          rw d
          (by (ltb (u - P.base) (mark_count P))
          (λ f.
          rw f
          (by (ltb t P.base)
          (λ b. rw b)
          (λ b. rw (b, get_or-set_other m (u - P.base) (t - P.base) true false (λ z. q (omega (arith, ltb-false t P.base b, ltb-false u P.base d)))))))
          (λ f. rw f))))

module _ (P : Processor) (code : List ℕ) (X : Type 0) (x₀ : X) (flow : ℕ → X → X) (goes : ℕ → ℕ → X → Bool) (S : ℕ → Type 0) where
  -- the pass came to the offset i, carries x, and marked m: of the addresses in S
  unfoldable pub Marked : ℕ → X → List Bool → Type 0
  Marked i x m =
      (t : ℕ) → S t
      → is_some (first_bad P code X x₀ flow (λ a y. not (goes t a y)))
      ≡ (mark_at P m t || is_some (from_there P code X x₀ flow (λ a y. not (goes t a y)) (P.base + i) x))

  pub marked_first : (n : ℕ) → Marked 0 x₀ (replicate n false)
  unfolding Marked
  marked_first n t s = rw (none_marked P, add-zero) (ap is_some (from_first P code X x₀ flow (λ a y. not (goes t a y))))

  pub marked_on : (i : ℕ) (x : X) (m m' : List Bool) (w : Option Item) → Marked i x m → i < length code → w ≡ item_of P code i → (n : ℕ) → n ≡ bytes_of (shape_of w)
      → ((t : ℕ) → S t → mark_at P m' t ≡ (mark_at P m t || goes t (P.base + i) x))
      → Marked (i + n) (flow (P.base + i) x) m'
  unfolding Marked
  marked_on i x m m' w e h g n z f t s = e t s ∙ go (goes t (P.base + i) x) refl
    where
      go : (b : Bool) → goes t (P.base + i) x ≡ b
          → (mark_at P m t || is_some (from_there P code X x₀ flow (λ a y. not (goes t a y)) (P.base + i) x))
          ≡ (mark_at P m' t || is_some (from_there P code X x₀ flow (λ a y. not (goes t a y)) (P.base + (i + n)) (flow (P.base + i) x)))
      go true q =
          rw (f t s, q, or_true, from_hit P code X x₀ flow (λ a y. not (goes t a y)) (P.base + i) x (omega arith) (ap not q), or_true)
      go false q =
          rw (
            f t s,
            q,
            or_false,
            from_on P code X x₀ flow (λ a y. not (goes t a y)) (P.base + i) x (omega arith) (ap not q),
            after_at P code i w g,
            ← z,
          )

  pub marked_carry : (i : ℕ) {x y : X} (m : List Bool) → x ≡ y → Marked i x m → Marked i y m
  marked_carry i m e h = subst (λ z. Marked i z m) e h

  pub marked_past : (i : ℕ) (x : X) (m : List Bool) → Marked i x m → length code ≤ i
      → (t : ℕ) → S t → mark_at P m t ≡ is_some (first_bad P code X x₀ flow (λ a y. not (goes t a y)))
  unfolding Marked
  marked_past i x m e h t s =
      sym (e t s ∙ rw (from_past P code X x₀ flow (λ a y. not (goes t a y)) (P.base + i) x (omega arith), or_false))
