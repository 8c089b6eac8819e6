-- The lowest of the rules 1 to 5 of which a test fails, told by what holds of it.
-- Assumes nothing.
use Rattle.std.proofs.Common.{◌≡◌, ℕ, ◌+◌, ◌<◌, ◌≤◌, Bool, true, false, cond, ltb, List, [], ◌∷◌, Option, Some, None, refl, sym, ap, ◌∙◌, subst, arith, ltb-true, ltb-false}
use Rattle.verdicts.specs.declared.Rule.{Rule}
use Rattle.verdicts.specs.declared.Rule.TheVariants.{AllBuilt, JrTarget, JumpTarget, DelaySlot, Ending, Access}
use Rattle.verdicts.specs.Verdicts.{rule_number, rule_of}
use Rattle.values.proofs.Booleans.{by}
use Rattle.rules.proofs.Exact.{rule_of_lem, from_1_to_6}
use Rattle.passes.specs.Passes.{first_five, lowest_in, lowest_of}

-- the number below which the rules are kept
abbrev pub limit_of : Option Rule → ℕ
limit_of None = 6
limit_of (Some r) = rule_number r

pub limit_least : (w : Option Rule) → 1 ≤ limit_of w
limit_least None = omega arith
limit_least (Some r) = (from_1_to_6 r).0

-- a rule is known by its number
pub same_rule : (q r : Rule) → rule_number q ≡ rule_number r → q ≡ r
same_rule q r e = sym (rule_of_lem q) ∙ ap rule_of e ∙ rule_of_lem r

-- w is the lowest of the rules 1 to 5 from a number on of which the test fails, or none is
pub record LowestFrom (test : Rule → Bool) (from : ℕ) (w : Option Rule) : Type 0 where
  pub least : from ≤ limit_of w
  pub kept : (r : Rule) → from ≤ rule_number r → rule_number r < limit_of w → test r ≡ true
  pub fails : (r : Rule) → w ≡ Some r → test r ≡ false
  pub among : (r : Rule) → w ≡ Some r → rule_number r < 6

-- the rules 1 to 5 from number n on
abbrev Numbered : ℕ → List Rule → Type 0
Numbered n [] = n ≡ 6
Numbered n (r ∷ rs) = (rule_number r ≡ n) × Numbered (n + 1) rs

numbered_most : (n : ℕ) (rs : List Rule) → Numbered n rs → n ≤ 6
numbered_most n [] e = omega arith
numbered_most n (r ∷ rs) e = omega (arith, numbered_most (n + 1) rs e.1)

module _ (test : Rule → Bool) where
  lowest_in_lem : (n : ℕ) (rs : List Rule) → Numbered n rs → LowestFrom test n (lowest_in test rs)
  lowest_in_lem n [] e =
      record {
        least = omega arith;
        kept = λ r a b. absurd (omega (arith, e, a, b));
        fails = λ r q. cc;
        among = λ r q. cc;
      }
  lowest_in_lem n (r ∷ rs) e = go (test r) refl (lowest_in_lem (n + 1) rs e.1)
    where
      go : (t : Bool) → test r ≡ t → LowestFrom test (n + 1) (lowest_in test rs) → LowestFrom test n (cond t (lowest_in test rs) (Some r))
      go true h l =
          record {
            least = omega (arith, l.least);
            kept =
                λ q a b. by (ltb n (rule_number q))
                (λ t. l.kept q (omega (arith, ltb-true n (rule_number q) t)) b)
                (λ t. subst (λ s. test s ≡ true) (same_rule r q (omega (arith, e.0, a, ltb-false n (rule_number q) t))) h);
            fails = l.fails;
            among = l.among;
          }
      go false h l =
          record {
            least = omega (arith, e.0);
            kept = λ q a b. absurd (omega (arith, e.0, a, b));
            fails = λ q z. let s : r ≡ q = cc in subst (λ k. test k ≡ false) s h;
            among = λ q z. let s : r ≡ q = cc in subst (λ k. rule_number k < 6) s (omega (arith, e.0, numbered_most (n + 1) rs e.1));
          }

  -- from the definition, and back
  pub lowest_of_lem : LowestFrom test 1 (lowest_of test)
  lowest_of_lem = lowest_in_lem 1 first_five (refl, (refl, (refl, (refl, (refl, refl)))))

  pub lowest_is : (w : Option Rule) → LowestFrom test 1 w → w ≡ lowest_of test
  lowest_is None l =
      rw (
        l.kept AllBuilt (omega arith) (omega arith),
        l.kept JrTarget (omega arith) (omega arith),
        l.kept JumpTarget (omega arith) (omega arith),
        l.kept DelaySlot (omega arith) (omega arith),
        l.kept Ending (omega arith) (omega arith),
      )
  lowest_is (Some AllBuilt) l = rw (l.fails AllBuilt refl)
  lowest_is (Some JrTarget) l = rw (l.kept AllBuilt (omega arith) (omega arith), l.fails JrTarget refl)
  lowest_is (Some JumpTarget) l =
      rw (l.kept AllBuilt (omega arith) (omega arith), l.kept JrTarget (omega arith) (omega arith), l.fails JumpTarget refl)
  lowest_is (Some DelaySlot) l =
      rw (
        l.kept AllBuilt (omega arith) (omega arith),
        l.kept JrTarget (omega arith) (omega arith),
        l.kept JumpTarget (omega arith) (omega arith),
        l.fails DelaySlot refl,
      )
  lowest_is (Some Ending) l =
      rw (
        l.kept AllBuilt (omega arith) (omega arith),
        l.kept JrTarget (omega arith) (omega arith),
        l.kept JumpTarget (omega arith) (omega arith),
        l.kept DelaySlot (omega arith) (omega arith),
        l.fails Ending refl,
      )
  lowest_is (Some Access) l = absurd (omega (arith, l.among Access refl))
