-- A pass that keeps the lowest broken rule: the rules below it are kept as far as the pass came, and it is broken.
-- Assumes nothing.
use Rattle.std.proofs.Common.{◌≡◌, ℕ, ◌+◌, ◌<◌, ◌≤◌, Bool, true, false, not, ◌&&◌, ltb, eqb, List, length, Option, Some, None, is_some, refl, sym, ap, ◌∙◌, subst, arith, ltb-true, ltb-false, eq-eqb, eqb-true}
use borrow.Author.Tests.{eqb-false}
use Rattle.processor.specs.Processor.{Processor}
use Rattle.verdicts.specs.declared.Rule.{Rule}
use Rattle.verdicts.specs.Verdicts.{rule_number}
use Rattle.items.specs.declared.Item.{Item}
use Rattle.items.specs.Items.{item_of, shape_of, bytes_of}
use Rattle.rules.specs.Reading.{before}
use Rattle.rules.specs.Check.{first_failing}
use Rattle.rules.proofs.Exact.{from_1_to_6}
use Rattle.values.proofs.Booleans.{by, no_way, and_l, and_r}
use Rattle.reading.proofs.Offsets.{item_at_lem}
use Rattle.passes.specs.Passes.{is_rule, test_of}
use Rattle.passes.proofs.Lowest.{limit_of, limit_least, same_rule, LowestFrom}
use Rattle.reading.proofs.Pass.{PassAt, pass_first, pass_on, pass_hit, pass_past}

-- the rule that was found is it
found_is : (w : Option Rule) (r : Rule) → is_rule w r ≡ true → w ≡ Some r
found_is None r e = no_way e
found_is (Some q) r e = ap Some (same_rule q r (eqb-true (rule_number q) (rule_number r) e))

not_false : (b : Bool) → not b ≡ true → b ≡ false
not_false true e = no_way e
not_false false e = refl

-- the test of a rule that is not the one found before
abbrev pub Still : Option Rule → (Rule → Bool) → Rule → Bool
Still w test r = not (is_rule w r) && test r

-- where such a rule is reached, it is below the one found before
below : (test : Rule → Bool) (w v : Option Rule) → LowestFrom (Still w test) 1 v → (r : Rule) → rule_number r ≤ limit_of v → rule_number r < 6 → is_rule w r ≡ false → rule_number r < limit_of w
below test None v l r a b e = b
below test (Some q) v l r a b e =
    by (ltb (rule_number r) (rule_number q))
    (λ t. ltb-true (rule_number r) (rule_number q) t)
    (λ t.
    by (eqb (rule_number q) (rule_number r))
    (λ u. no_way (sym e ∙ u))
    (λ u.
    let less : rule_number q < rule_number r = omega (arith, ltb-false (rule_number r) (rule_number q) t, eqb-false (rule_number q) (rule_number r) u) in
    let kept = l.kept q (from_1_to_6 q).0 (omega (arith, less, a)) in
    no_way (sym (not_false (is_rule (Some q) q) (and_l (not (is_rule (Some q) q)) (test q) kept)) ∙ eq-eqb (rule_number q) (rule_number q) refl)))

module _ (P : Processor) (code : List ℕ) where
  -- the pass came to the offset i, after the item p, and found w to be the lowest broken rule
  pub record Least (i : ℕ) (p : Option Item) (w : Option Rule) : Type 0 where
    pub came : (r : Rule) → rule_number r < limit_of w → PassAt P code (Option Item) None (before P code) (test_of P code r) i p
    pub broken : (r : Rule) → w ≡ Some r → is_some (first_failing P code (test_of P code r)) ≡ true
    pub among : (r : Rule) → w ≡ Some r → rule_number r < 6

  pub least_first : Least 0 None None
  least_first =
      record {
        came = λ r b. pass_first P code (Option Item) None (before P code) (test_of P code r);
        broken = λ r e. cc;
        among = λ r e. cc;
      }

  limit_most : {w : Option Rule} → ((r : Rule) → w ≡ Some r → rule_number r < 6) → limit_of w ≤ 6
  limit_most {w = None} h = omega arith
  limit_most {w = Some r} h = omega (arith, h r refl)

  pub least_on : {i : ℕ} {p : Option Item} {w v : Option Rule} (t : Option Item) → Least i p w → LowestFrom (Still w (λ r. test_of P code r (P.base + i) p)) 1 v → i < length code → t ≡ item_of P code i
      → (n : ℕ) → n ≡ bytes_of (shape_of t) → Least (i + n) t v
  least_on {i} {p} {w} {v} t l f h g n z =
      record {
        came =
            λ r b. let k = f.kept r (from_1_to_6 r).0 b in
            let e = not_false (is_rule w r) (and_l (not (is_rule w r)) (test_of P code r (P.base + i) p) k) in
            let c = l.came r (below _ w v f r (omega (arith, b)) (omega (arith, b, limit_most f.among)) e) in
            subst (PassAt P code (Option Item) None (before P code) (test_of P code r) (i + n)) (item_at_lem P code i ∙ sym g)
            (pass_on P code (Option Item) None (before P code) (test_of P code r) i p t c h g n z (and_r (not (is_rule w r)) (test_of P code r (P.base + i) p) k));
        broken = λ r e. by (is_rule w r)
            (λ d. l.broken r (found_is w r d))
            (λ d.
            let c = l.came r (below _ w v f r (omega (arith, ap limit_of e)) (f.among r e) d) in
            ap is_some (pass_hit P code (Option Item) None (before P code) (test_of P code r) i p c h (rw d at (f.fails r e))));
        among = f.among;
      }

  pub least_past : {i : ℕ} {p : Option Item} {w : Option Rule} → Least i p w → length code ≤ i → LowestFrom (λ r. not (is_some (first_failing P code (test_of P code r)))) 1 w
  least_past {i} {p} {w} l h =
      record {
        least = limit_least w;
        kept =
            λ r a b. ap not (ap is_some (pass_past P code (Option Item) None (before P code) (test_of P code r) i p (l.came r b) h));
        fails = λ r e. ap not (l.broken r e);
        among = l.among;
      }
