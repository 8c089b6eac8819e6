-- The check tells the first broken rule at its lowest address. From that alone: it admits exactly the programs that obey the six rules.
-- Assumes nothing.
use Rattle.std.proofs.Common.{◌≡◌, ℕ, ◌+◌, ◌%◌, ◌<◌, ◌≤◌, Bool, true, false, cond, ◌&&◌, eqb, ltb, leb, ◌↔◌, List, [], ◌∷◌, length, take, sym, refl, ap, ◌∙◌, subst, arith, ltb-false, ltb-true, eq-eqb, eqb-true, le-leb, leb-true, Option, None, Some, Ok, Err}
use borrow.Author.Tests.{eqb-false}
use Rattle.processor.specs.Processor.{Processor}
use Rattle.ranges.specs.declared.Range.{Range}
use Rattle.verdicts.specs.declared.Refusal.TheVariants.{RamLength, CodeLength, Broken}
use Rattle.verdicts.specs.declared.Rule.{Rule}
use Rattle.verdicts.specs.declared.Rule.TheVariants.{AllBuilt, JrTarget, JumpTarget, DelaySlot, Ending, Access}
use Rattle.items.specs.declared.Item.{Item}
use Rattle.verdicts.specs.Verdicts.{Verdict, rule_number, rule_of}
use Rattle.rules.specs.Reading.{before, Reads}
use Rattle.rules.specs.Scan.{first_bad}
use Rattle.ranges.specs.Ranges.{unknown}
use Rattle.rules.specs.Check.{learn, ok1, ok2, ok3, ok4, ok5, ok6, first_of, or_else, broken_in, rule_order, rules_of, is_length, check_of}
use Rattle.rules.specs.Rules.{Knows, Rule1, Rule2, Rule3, Rule4, Rule5, Rule6, Held, Obeys, Everywhere, Rules, Lowest}
use Rattle.rules.specs.Safety.{IsProgram, Means}
use Rattle.values.proofs.Booleans.{by, no_way, and_l, and_r, and_i}
use Rattle.rules.proofs.Scan.{reads_too, passes, passes_before, fails_there}
use Rattle.rules.proofs.Reflect.{of1, is1, of2, is2, of3, is3, of4, is4, of5, is5, of6, is6, knows_is, knows_of}

-- what a scan found says of what it looked for
abbrev Scanned : Processor → List ℕ → (ℕ → Type 0) → Option ℕ → Type 0
Scanned P code Holds None = (a : ℕ) → Holds a
Scanned P code Holds (Some a) = Lowest P code Holds a

-- a scan whose test says at each instruction what a rule asks, where what is carried is what comes there
module _ (P : Processor) (code : List ℕ) (X : Type 0) (x₀ : X) (flow : ℕ → X → X) (Comes : ℕ → X → Type 0)
    (to : (a : ℕ) (x : X) → Comes a x → Reads P code X x₀ flow a x) (back : (a : ℕ) (x : X) → Reads P code X x₀ flow a x → Comes a x)
    (ok : ℕ → X → Bool) (R : ℕ → X → Type 0) (of : (a : ℕ) (x : X) → ok a x ≡ true → R a x) (is : (a : ℕ) (x : X) → R a x → ok a x ≡ true) where
  scanned : (h : Option ℕ) → first_bad P code X x₀ flow ok ≡ h → Scanned P code (Held P code X Comes R) h
  scanned None e = λ a x s. of a x (passes P code X x₀ flow ok e (to a x s.read) s.inside)
  scanned (Some f) e =
      let q = fails_there P code X x₀ flow ok e in
      let w = q.0 in
      let p = reads_too None (before P code) w.read in
      subst (Lowest P code (Held P code X Comes R)) q.1
      (record {
        is_start = record { previous = p.0; is_instruction = record { read = p.1; inside = w.inside } };
        broken =
            λ h. no_way (sym w.fails ∙ is w.at w.carried (h w.carried (record { read = back w.at w.carried w.read; inside = w.inside })));
        below = λ b l x s. of b x (passes_before P code X x₀ flow ok e (to b x s.read) s.inside (rw q.1 at l));
      })

module _ (P : Processor) (code : List ℕ) where
  before_scanned : (ok : ℕ → Option Item → Bool) (R : ℕ → Option Item → Type 0) → ((a : ℕ) (p : Option Item) → ok a p ≡ true → R a p)
      → ((a : ℕ) (p : Option Item) → R a p → ok a p ≡ true)
      → Scanned P code (Held P code (Option Item) (Reads P code (Option Item) None (before P code)) R) (first_bad P code (Option Item) None (before P code) ok)
  before_scanned ok R of is =
      scanned P code (Option Item) None (before P code) (Reads P code (Option Item) None (before P code)) (λ a p r. r) (λ a p r. r) ok R of is _ refl

  -- each rule, and the scan for it
  pub rule_scanned : (r : Rule) → Scanned P code (Obeys P code r) (first_of P code r)
  rule_scanned AllBuilt = before_scanned (ok1 P code) (Rule1 P code) (of1 P code) (is1 P code)
  rule_scanned JrTarget = before_scanned (ok2 P code) (Rule2 P code) (of2 P code) (is2 P code)
  rule_scanned JumpTarget = before_scanned (ok3 P code) (Rule3 P code) (of3 P code) (is3 P code)
  rule_scanned DelaySlot = before_scanned (ok4 P code) (Rule4 P code) (of4 P code) (is4 P code)
  rule_scanned Ending = before_scanned (ok5 P code) (Rule5 P code) (of5 P code) (is5 P code)
  rule_scanned Access =
      scanned P code (List Range) unknown (learn P code) (Knows P code) (λ a k. knows_is P code) (λ a k. knows_of P code) (ok6 P code) (Rule6 P code) (of6 P code) (is6 P code) _ refl

pub rule_of_lem : (r : Rule) → rule_of (rule_number r) ≡ r
rule_of_lem AllBuilt = refl
rule_of_lem JrTarget = refl
rule_of_lem JumpTarget = refl
rule_of_lem DelaySlot = refl
rule_of_lem Ending = refl
rule_of_lem Access = refl

pub from_1_to_6 : (r : Rule) → (1 ≤ rule_number r) × (rule_number r < 7)
from_1_to_6 AllBuilt = omega arith
from_1_to_6 JrTarget = omega arith
from_1_to_6 JumpTarget = omega arith
from_1_to_6 DelaySlot = omega arith
from_1_to_6 Ending = omega arith
from_1_to_6 Access = omega arith

-- a list of the rules from number n on
abbrev Numbered : ℕ → List Rule → Type 0
Numbered n [] = n ≡ 7
Numbered n (r ∷ rs) = (rule_number r ≡ n) × Numbered (n + 1) rs

module _ (P : Processor) (ram : List ℕ) (C : ℕ) where
  abbrev code : List ℕ
  code = take C ram

  -- the rules below n hold; what those from n on give says what it means
  tell : IsProgram P ram C → (n : ℕ) (rs : List Rule) → Numbered n rs → ((q : Rule) → rule_number q < n → Everywhere P code q)
      → Means P ram C (broken_in P code rs (Ok tt))
  unfolding broken_in
  tell p n [] e done = (p, λ q. done q (omega (arith, e, (from_1_to_6 q).1)))
  tell p n (r ∷ rs) e done = go (first_of P code r) (rule_scanned P code r) (tell p (n + 1) rs e.1)
    where
      same : (q : Rule) → rule_number q ≡ n → r ≡ q
      same q z = sym (rule_of_lem r) ∙ ap rule_of (e.0 ∙ sym z) ∙ rule_of_lem q

      more : Everywhere P code r → (q : Rule) → rule_number q < n + 1 → Everywhere P code q
      more holds q l =
          by (ltb (rule_number q) n)
          (λ t. done q (ltb-true (rule_number q) n t))
          (λ t. subst (Everywhere P code) (same q (omega (arith, ltb-false (rule_number q) n t, l))) holds)

      go : (h : Option ℕ) → Scanned P code (Obeys P code r) h
          → (((q : Rule) → rule_number q < n + 1 → Everywhere P code q) → Means P ram C (broken_in P code rs (Ok tt)))
          → Means P ram C (or_else h (λ a. Err (Broken r a)) (broken_in P code rs (Ok tt)))
      go None s later = later (more s)
      go (Some a) s later = (p, record { earlier = λ q l. done q (rw e.0 at l); lowest = s })

  program_of : length ram ≡ P.size → is_length P C ≡ true → IsProgram P ram C
  program_of g h =
      let t : Bool = leb C P.size && eqb (C % 4) 0 in
      let u = and_r (leb 4 C) t h in
      record {
        whole_ram = g;
        at_least = leb-true 4 C (and_l (leb 4 C) t h);
        at_most = leb-true C P.size (and_l (leb C P.size) (eqb (C % 4) 0) u);
        longs = eqb-true (C % 4) 0 (and_r (leb C P.size) (eqb (C % 4) 0) u);
      }

  program_is : IsProgram P ram C → is_length P C ≡ true
  program_is p = and_i (le-leb 4 C p.at_least) (and_i (le-leb C P.size p.at_most) (eq-eqb (C % 4) 0 p.longs))

  -- each answer tells what it means
  pub told : Means P ram C (check_of P ram C)
  unfolding check_of rules_of
  told = go (eqb (length ram) P.size) (is_length P C) refl refl
    where
      go : (a b : Bool) → eqb (length ram) P.size ≡ a → is_length P C ≡ b
          → Means P ram C (cond a (cond b (rules_of P (take C ram)) (Err CodeLength)) (Err RamLength))
      go true true g h =
          tell (program_of (eqb-true (length ram) P.size g) h) 1 rule_order (refl, (refl, (refl, (refl, (refl, (refl, refl)))))) (λ q l. absurd (omega (arith, (from_1_to_6 q).0, l)))
      go true false g h = (eqb-true (length ram) P.size g, λ p. no_way (sym h ∙ program_is p))
      go false b g h = eqb-false (length ram) P.size g

  admits : IsProgram P ram C → Rules P code → (v : Verdict) → Means P ram C v → v ≡ Ok tt
  admits p R (Ok u) m = refl
  admits p R (Err RamLength) m = absurd (m p.whole_ram)
  admits p R (Err CodeLength) m = absurd (m.1 p)
  admits p R (Err (Broken r a)) m = absurd (m.1.lowest.broken (R r a))

  -- "admits exactly the programs that obey the six rules"
  pub admits_exactly : (check_of P ram C ≡ Ok tt) ↔ (IsProgram P ram C × Rules P code)
  admits_exactly = (λ e. subst (Means P ram C) e told, λ h. admits h.0 h.1 (check_of P ram C) told)
