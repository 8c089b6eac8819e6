-- The computed tests of the check and the six rules as statements say the same of an instruction, both ways.
-- Assumes nothing.
use Rattle.std.proofs.Common.{◌≡◌, ℕ, ◌+◌, ◌<◌, Bool, true, false, cond, not, ◌&&◌, ◌||◌, eqb, ltb, leb, List, sym, refl, ap, ◌∙◌, subst, ltb-true, lt-ltb, eq-eqb, eqb-true, le-leb, leb-true, Option, Some, None}
use borrow.Author.Tests.{not-false}
use Rattle.field.specs.Fields.{signed_field_of}
use Rattle.branch.specs.Jump.{jr_target_of}
use Rattle.processor.specs.Processor.{Processor}
use Rattle.places.specs.Places.{is_register}
use Rattle.ranges.specs.declared.Range.{Range}
use Rattle.items.specs.declared.Item.{Item}
use Rattle.items.specs.declared.Shape.{Shape}
use Rattle.items.specs.declared.Shape.TheVariants.{Other, Movei, MovePc, Jr, Jump, Load, Store}
use Rattle.items.specs.Items.{shape_of, is_jump, always, is_built}
use Rattle.rules.specs.Reading.{breaks_slot, end_of, item_at, shape_at, after, before, Reads, first, next}
use Rattle.ranges.specs.Ranges.{unknown}
use Rattle.rules.specs.Known.{address_range, transfer_of}
use Rattle.rules.specs.Check.{holds, leads, inside, within, is_start, is_target, learn, jr_ok, jump_ok, access_ok, ok1, ok2, ok3, ok4, ok5, ok6}
use Rattle.rules.specs.Rules.{IsStart, Leads, by_jr, by_jump, IsTarget, Knows, at_first, at_target, onward, Inside, Accessible, in_ram, one_register, Reaches, Rule1, Rule2, Rule3, Rule4, Rule5, Rule6}
use Rattle.values.proofs.Booleans.{by, no_way, and_l, and_r, and_i, or_cases, or_l, or_r, not_i, not_of}
use Rattle.rules.proofs.Scan.{finds, is_found}

not_f : {a : Bool} → a ≡ true → not a ≡ false
not_f {a} e = rw e

built_is : (i : Option Item) → (i ≡ None → ⊥) → is_built i ≡ true
built_is None h = absurd (h refl)
built_is (Some i) h = refl

holds_of : (p : Shape) (r : ℕ) (f : ℕ → Bool) → holds p r f ≡ true → (v : ℕ) × (p ≡ Movei r v) × (f v ≡ true)
holds_of Other r f e = no_way e
holds_of (Movei d v) r f e =
    (v, ap (λ x. Movei x v) (eqb-true d r (and_l (eqb d r) (f v) e)), and_r (eqb d r) (f v) e)
holds_of MovePc r f e = no_way e
holds_of (Jr n c) r f e = no_way e
holds_of (Jump s c) r f e = no_way e
holds_of (Load m) r f e = no_way e
holds_of (Store m) r f e = no_way e

holds_is : {p : Shape} (r v : ℕ) (f : ℕ → Bool) → p ≡ Movei r v → f v ≡ true → holds p r f ≡ true
holds_is r v f q e = subst (λ p. holds p r f ≡ true) (sym q) (and_i (eq-eqb r r refl) e)

module _ (P : Processor) (code : List ℕ) where
  -- an access
  inside_of : (from a : ℕ) → inside P from a ≡ true → Inside P code from a
  inside_of from a e =
      record {
        low = leb-true from a (and_l (leb from a) (ltb a (P.base + P.size)) e);
        high = ltb-true a (P.base + P.size) (and_r (leb from a) (ltb a (P.base + P.size)) e);
      }

  inside_is : (from a : ℕ) → Inside P code from a → inside P from a ≡ true
  inside_is from a h = and_i (le-leb from a h.low) (lt-ltb a (P.base + P.size) h.high)

  abbrev is_in_ram : ℕ → Range → Bool
  is_in_ram from x = inside P from x.low && inside P from x.high

  abbrev at_register : Range → Bool
  at_register x = eqb x.low x.high && is_register P x.low

  place_of : (from : ℕ) (x : Range) → (is_in_ram from x || at_register x) ≡ true → Accessible P code from x
  place_of from x e =
      or_cases (is_in_ram from x) (at_register x) e
      (λ h. in_ram
      (inside_of from x.low (and_l (inside P from x.low) (inside P from x.high) h))
      (inside_of from x.high (and_r (inside P from x.low) (inside P from x.high) h)))
      (λ h. one_register
      (eqb-true x.low x.high (and_l (eqb x.low x.high) (is_register P x.low) h))
      (and_r (eqb x.low x.high) (is_register P x.low) h))

  pub reaches_of : (from : ℕ) (x : Range) → within P from x ≡ true → Reaches P code from x
  reaches_of from x e =
      record {
        is_aligned = and_l x.aligned (is_in_ram from x || at_register x) e;
        place = place_of from x (and_r x.aligned (is_in_ram from x || at_register x) e);
      }

  place_is : (from : ℕ) (x : Range) → Accessible P code from x → (is_in_ram from x || at_register x) ≡ true
  place_is from x (in_ram l h) = or_l (at_register x) (and_i (inside_is from x.low l) (inside_is from x.high h))
  place_is from x (one_register e r) = or_r (is_in_ram from x) (and_i (eq-eqb x.low x.high e) r)

  pub reaches_is : (from : ℕ) (x : Range) → Reaches P code from x → within P from x ≡ true
  reaches_is from x r = and_i r.is_aligned (place_is from x r.place)

  -- an instruction start
  pub start_of : (t : ℕ) → is_start P code t ≡ true → IsStart P code t
  unfolding is_start
  start_of t e =
      let f = finds P code (Option Item) None (before P code) (λ a p. not (eqb a t)) e in
      let same : f.at ≡ t = eqb-true f.at t (not-false (eqb f.at t) f.fails) in
      subst (IsStart P code) same
      (record { previous = f.carried; is_instruction = record { read = f.read; inside = f.inside } })

  pub start_is : (t : ℕ) → IsStart P code t → is_start P code t ≡ true
  unfolding is_start
  start_is t s =
      is_found P code (Option Item) None (before P code) (λ a p. not (eqb a t))
      (record {
        at = t;
        carried = s.previous;
        read = s.is_instruction.read;
        inside = s.is_instruction.inside;
        fails = not_f (eq-eqb t t refl);
      })

  -- a jump and its target
  leads_by : (a : ℕ) (p : Option Item) (t : ℕ) (s : Shape) → shape_at P code a ≡ s → leads a (shape_of p) s t ≡ true → Leads P code a p t
  leads_by a p t Other q e = no_way e
  leads_by a p t (Movei d v) q e = no_way e
  leads_by a p t MovePc q e = no_way e
  leads_by a p t (Jr n c) q e = by_jr n c q (eqb-true (jr_target_of a (signed_field_of n)) t e)
  leads_by a p t (Jump r c) q e =
      let h = holds_of (shape_of p) r (λ v. eqb v t) e in
      by_jump r c q (h.1 ∙ ap (Movei r) (eqb-true h.0 t h.2))
  leads_by a p t (Load m) q e = no_way e
  leads_by a p t (Store m) q e = no_way e

  pub leads_of : (a : ℕ) (p : Option Item) (t : ℕ) → leads a (shape_of p) (shape_at P code a) t ≡ true → Leads P code a p t
  leads_of a p t e = leads_by a p t (shape_at P code a) refl e

  pub leads_is : (a : ℕ) (p : Option Item) (t : ℕ) → Leads P code a p t → leads a (shape_of p) (shape_at P code a) t ≡ true
  leads_is a p t (by_jr n c q e) =
      subst (λ s. leads a (shape_of p) s t ≡ true) (sym q) (eq-eqb (jr_target_of a (signed_field_of n)) t e)
  leads_is a p t (by_jump r c q e) =
      subst (λ s. leads a (shape_of p) s t ≡ true) (sym q) (holds_is r t (λ v. eqb v t) e (eq-eqb t t refl))

  pub target_of_lem : (t : ℕ) → is_target P code t ≡ true → IsTarget P code t
  unfolding is_target
  target_of_lem t e =
      let f = finds P code (Option Item) None (before P code) (λ a p. not (leads a (shape_of p) (shape_at P code a) t)) e in
      record {
        from = f.at;
        previous = f.carried;
        is_instruction = record { read = f.read; inside = f.inside };
        leads =
            leads_of f.at f.carried t
            (not-false (leads f.at (shape_of f.carried) (shape_at P code f.at) t) f.fails);
      }

  pub target_is : (t : ℕ) → IsTarget P code t → is_target P code t ≡ true
  unfolding is_target
  target_is t s =
      is_found P code (Option Item) None (before P code) (λ a p. not (leads a (shape_of p) (shape_at P code a) t))
      (record {
        at = s.from;
        carried = s.previous;
        read = s.is_instruction.read;
        inside = s.is_instruction.inside;
        fails = not_f (leads_is s.from s.previous t s.leads);
      })

  no_target : (t : ℕ) → not (is_target P code t) ≡ true → IsTarget P code t → ⊥
  no_target t e s = no_way (sym (not_of (is_target P code t) e) ∙ target_is t s)

  not_target : (t : ℕ) → (IsTarget P code t → ⊥) → not (is_target P code t) ≡ true
  not_target t h = by (is_target P code t) (λ e. absurd (h (target_of_lem t e))) (λ e. not_i e)

  -- what is known, and the reading that carries what the check learns
  pub knows_next : {a : ℕ} {k : List Range} → Knows P code a k → a < end_of P code → Knows P code (after P code a) (learn P code a k)
  unfolding learn
  knows_next {a} {k} q l =
      by (is_target P code (after P code a))
      (λ t. rw t (at_target q l (target_of_lem (after P code a) t)))
      (λ t. rw t (onward q l (no_target (after P code a) (not_i t))))

  pub knows_of : {a : ℕ} {k : List Range} → Reads P code (List Range) unknown (learn P code) a k → Knows P code a k
  knows_of first = at_first
  knows_of (next r l) = knows_next (knows_of r) l

  pub knows_is : {a : ℕ} {k : List Range} → Knows P code a k → Reads P code (List Range) unknown (learn P code) a k
  unfolding learn
  knows_is at_first = first
  knows_is (at_target {a} {k} r l g) =
      subst (λ t. Reads P code (List Range) unknown (learn P code) (after P code a) (cond t unknown (transfer_of P (item_at P code a) k))) (target_is (after P code a) g) (next (knows_is r) l)
  knows_is (onward {a} {k} r l n) =
      subst (λ t. Reads P code (List Range) unknown (learn P code) (after P code a) (cond t unknown (transfer_of P (item_at P code a) k))) (not_of (is_target P code (after P code a)) (not_target (after P code a) n)) (next (knows_is r) l)

  -- rule 1
  pub of1 : (a : ℕ) (p : Option Item) → ok1 P code a p ≡ true → Rule1 P code a p
  unfolding ok1
  of1 a p h =
      let l : Bool = leb (after P code a) (end_of P code) in (
        λ e. no_way (sym (ap is_built e) ∙ and_l (is_built (item_at P code a)) l h),
        leb-true (after P code a) (end_of P code) (and_r (is_built (item_at P code a)) l h),
      )

  pub is1 : (a : ℕ) (p : Option Item) → Rule1 P code a p → ok1 P code a p ≡ true
  unfolding ok1
  is1 a p h = and_i (built_is (item_at P code a) h.0) (le-leb (after P code a) (end_of P code) h.1)

  -- rule 2
  pub of2 : (a : ℕ) (p : Option Item) → ok2 P code a p ≡ true → Rule2 P code a p
  unfolding ok2
  of2 a p h n c e = start_of (jr_target_of a (signed_field_of n)) (subst (λ s. jr_ok P code a s ≡ true) e h)

  jr_is : (a : ℕ) (s : Shape) → ((n c : ℕ) → s ≡ Jr n c → IsStart P code (jr_target_of a (signed_field_of n))) → jr_ok P code a s ≡ true
  jr_is a Other h = refl
  jr_is a (Movei d v) h = refl
  jr_is a MovePc h = refl
  jr_is a (Jr n c) h = start_is (jr_target_of a (signed_field_of n)) (h n c refl)
  jr_is a (Jump r c) h = refl
  jr_is a (Load m) h = refl
  jr_is a (Store m) h = refl

  pub is2 : (a : ℕ) (p : Option Item) → Rule2 P code a p → ok2 P code a p ≡ true
  unfolding ok2
  is2 a p h = jr_is a (shape_at P code a) h

  -- rule 3
  pub of3 : (a : ℕ) (p : Option Item) → ok3 P code a p ≡ true → Rule3 P code a p
  unfolding ok3
  of3 a p h r c e =
      let held : Bool = holds (shape_of p) r (is_start P code) in
      let k = subst (λ s. jump_ok P code a (shape_of p) s ≡ true) e h in
      let q = holds_of (shape_of p) r (is_start P code) (and_l held _ k) in
      ((q.0, q.1, start_of q.0 q.2), no_target _ (and_r held _ k))

  jump_is : (a : ℕ) (p : Option Item) (s : Shape) → shape_at P code a ≡ s → Rule3 P code a p → jump_ok P code a (shape_of p) s ≡ true
  jump_is a p Other e h = refl
  jump_is a p (Movei d v) e h = refl
  jump_is a p MovePc e h = refl
  jump_is a p (Jr n c) e h = refl
  jump_is a p (Jump r c) e h =
      let q = h r c e in
      and_i (holds_is r q.0.0 (is_start P code) q.0.1 (start_is q.0.0 q.0.2)) (not_target _ q.1)
  jump_is a p (Load m) e h = refl
  jump_is a p (Store m) e h = refl

  pub is3 : (a : ℕ) (p : Option Item) → Rule3 P code a p → ok3 P code a p ≡ true
  unfolding ok3
  is3 a p h = jump_is a p (shape_at P code a) refl h

  -- rule 4
  pub of4 : (a : ℕ) (p : Option Item) → ok4 P code a p ≡ true → Rule4 P code a p
  unfolding ok4
  of4 a p h j =
      let b : Bool = breaks_slot (shape_at P code (after P code a)) in
      let l : Bool = ltb (after P code a) (end_of P code) in
      let q : (l && not b) ≡ true =
      or_cases (not (is_jump (shape_at P code a))) (l && not b) h
      (λ n. no_way (sym (not_of (is_jump (shape_at P code a)) n) ∙ j))
      (λ n. n) in
      (ltb-true (after P code a) (end_of P code) (and_l l (not b) q), not_of b (and_r l (not b) q))

  pub is4 : (a : ℕ) (p : Option Item) → Rule4 P code a p → ok4 P code a p ≡ true
  unfolding ok4
  is4 a p h =
      by (is_jump (shape_at P code a))
      (λ j. or_r (not (is_jump (shape_at P code a)))
      (and_i (lt-ltb (after P code a) (end_of P code) (h j).0) (not_i (h j).1)))
      (λ j. or_l (ltb (after P code a) (end_of P code) && not (breaks_slot (shape_at P code (after P code a)))) (not_i j))

  -- rule 5
  pub of5 : (a : ℕ) (p : Option Item) → ok5 P code a p ≡ true → Rule5 P code a p
  unfolding ok5
  of5 a p h e =
      let last : Bool = eqb (after P code a) (end_of P code) in
      or_cases (not last) _ h
      (λ n. no_way (sym (not_of last n) ∙ eq-eqb (after P code a) (end_of P code) e))
      (λ q. (and_l (always (shape_of p)) _ q, no_target _ (and_r (always (shape_of p)) _ q)))

  pub is5 : (a : ℕ) (p : Option Item) → Rule5 P code a p → ok5 P code a p ≡ true
  unfolding ok5
  is5 a p h =
      by (eqb (after P code a) (end_of P code))
      (λ t.
      let q = h (eqb-true (after P code a) (end_of P code) t) in
      or_r (not (eqb (after P code a) (end_of P code))) (and_i q.0 (not_target _ q.1)))
      (λ t. or_l _ (not_i t))

  -- rule 6
  pub of6 : (a : ℕ) (k : List Range) → ok6 P code a k ≡ true → Rule6 P code a k
  unfolding ok6
  of6 a k h = (
    λ m e. reaches_of _ (address_range k m) (subst (λ s. access_ok P code k s ≡ true) e h),
    λ m e. reaches_of _ (address_range k m) (subst (λ s. access_ok P code k s ≡ true) e h),
  )

  access_is : (a : ℕ) (k : List Range) (s : Shape) → shape_at P code a ≡ s → Rule6 P code a k → access_ok P code k s ≡ true
  access_is a k Other e h = refl
  access_is a k (Movei d v) e h = refl
  access_is a k MovePc e h = refl
  access_is a k (Jr n c) e h = refl
  access_is a k (Jump r c) e h = refl
  access_is a k (Load m) e h = reaches_is _ (address_range k m) (h.0 m e)
  access_is a k (Store m) e h = reaches_is _ (address_range k m) (h.1 m e)

  pub is6 : (a : ℕ) (k : List Range) → Rule6 P code a k → ok6 P code a k ≡ true
  unfolding ok6
  is6 a k h = access_is a k (shape_at P code a) refl h
