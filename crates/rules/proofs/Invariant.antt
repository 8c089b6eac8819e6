-- What holds before each step of an admitted program, and how the counter's move keeps it.
-- Assumes nothing.
use Rattle.std.proofs.Common.{◌≡◌, ℕ, ◌+◌, ◌%◌, ◌^◌, ◌<◌, ◌≤◌, Bool, true, false, cond, eqb, List, length, get_or, take, sym, refl, ap, ◌∙◌, subst, arith, eqb-true, Option, Some, None}
use borrow.Author.Tests.{eqb-false}
use Rattle.class.specs.declared.Class.{Class}
use Rattle.processor.specs.Processor.{Processor, Sound}
use Rattle.gpu_core.specs.declared.Core.{Core}
use Rattle.gpu_core.specs.Core.{counter_of, moved_of}
use Rattle.gpu_core.specs.Machine.{Memory, Machine, machine_with}
use Rattle.ranges.specs.declared.Range.{Range}
use Rattle.items.specs.declared.Item.{Item}
use Rattle.items.specs.declared.Shape.{Shape}
use Rattle.items.specs.declared.Shape.TheVariants.{Other, Movei, MovePc, Jr, Jump, Load, Store}
use Rattle.verdicts.specs.declared.Rule.TheVariants as N
use Rattle.items.specs.Items.{built, shape_in, shape_of, bytes_of, always}
use Rattle.rules.specs.Reading.{breaks_slot, end_of, item_at, shape_at, after, next}
use Rattle.ranges.specs.Ranges.{unknown}
use Rattle.rules.specs.Known.{transfer, transfer_of}
use Rattle.rules.specs.Check.{is_target, learn}
use Rattle.rules.specs.Rules.{IsInstruction, IsStart, Leads, by_jr, by_jump, IsTarget, Knows, at_first, at_target, onward, Rules}
use Rattle.values.proofs.Booleans.{by, no_way}
use Rattle.rules.proofs.Scan.{reads_too}
use Rattle.rules.proofs.Reflect.{knows_of, knows_next}
use Rattle.ranges.proofs.Covers.{Fits}

-- what an instruction that was just run left in the active bank: a MOVEI's register holds its value
abbrev pub HoldsValue : Shape → List ℕ → Type 0
HoldsValue Other a = Unit {0}
HoldsValue (Movei d v) a = get_or a d 0 ≡ v
HoldsValue MovePc a = Unit {0}
HoldsValue (Jr n c) a = Unit {0}
HoldsValue (Jump r c) a = Unit {0}
HoldsValue (Load m) a = Unit {0}
HoldsValue (Store m) a = Unit {0}

-- control fell through from p: its value stands, and a jump is pending where p always jumps
pub record Fell (p : Shape) (m : Machine) : Type 0 where
  pub value : HoldsValue p m.active
  pub pending : always p ≡ true → m.core.pending ≡ None → ⊥

module _ (P : Processor) (code : List ℕ) where
  -- how control came to the counter
  pub data Came (p : Option Item) (m : Machine) : Type 0 where
    by_target : IsTarget P code m.core.pc → Came p m
    by_fall : Fell (shape_of p) m → Came p m

  pub record Inv (m : Machine) : Type 0 where
    pub same_code : take (length code) m.memory.ram ≡ code
    pub previous : Option Item
    pub is_instruction : IsInstruction P code m.core.pc previous
    pub known : List Range
    pub knows : Knows P code m.core.pc known
    pub fits : Fits known m.active
    pub came : Came previous m
    pub slot : (t : ℕ) → m.core.pending ≡ Some t → IsTarget P code t × (breaks_slot (shape_at P code m.core.pc) ≡ false)

-- nothing is pending, or something is
pending_none : {A : Type 0} {t : ℕ} {p : Option ℕ} → p ≡ None → p ≡ Some t → A
pending_none e h = let z : ◌≡◌ {A = ℕ} 0 1 = cc in absurd (omega arith)

module _ (P : Processor) (code : List ℕ) (R : Rules P code) where
  -- a target is an instruction start
  target_start : (t : ℕ) → IsTarget P code t → IsStart P code t
  target_start t g = go g.leads
    where
      go : Leads P code g.from g.previous t → IsStart P code t
      go (by_jr n c e q) = subst (IsStart P code) q (R N.JrTarget g.from g.previous g.is_instruction n c e)
      go (by_jump r c e q) =
          let j = (R N.JumpTarget g.from g.previous g.is_instruction r c e).0 in
          let same : j.0 ≡ t = cc (j.1, q) in
          subst (IsStart P code) same j.2

  -- at a target nothing is known
  known_unknown : {t : ℕ} {k : List Range} → Knows P code t k → IsTarget P code t → k ≡ unknown
  known_unknown at_first g = refl
  known_unknown (at_target q l h) g = refl
  known_unknown (onward q l n) g = absurd (n g)

  -- the counter goes to a pending target
  land : (t : ℕ) (m : Machine) → take (length code) m.memory.ram ≡ code → Fits unknown m.active → IsTarget P code t → m.core.pc ≡ t → m.core.pending ≡ None → Inv P code m
  land t m same wide g e none =
      let s = target_start t g in
      let q = reads_too unknown (learn P code) s.is_instruction.read in
      record {
        same_code = same;
        previous = s.previous;
        is_instruction = subst (λ a. IsInstruction P code a s.previous) (sym e) s.is_instruction;
        known = q.0;
        knows = subst (λ a. Knows P code a q.0) (sym e) (knows_of P code q.1);
        fits = subst (λ k. Fits k m.active) (sym (known_unknown (knows_of P code q.1) g)) wide;
        came = by_target (subst (IsTarget P code) (sym e) g);
        slot = λ u h. pending_none none h;
      }

  -- the counter goes on to the instruction after a
  pub fall : (a : ℕ) (p : Option Item) (k : List Range) → IsInstruction P code a p → Knows P code a k → after P code a < end_of P code → (m : Machine) → take (length code) m.memory.ram ≡ code → Fits unknown m.active → m.core.pc ≡ after P code a → Fits (transfer_of P (item_at P code a) k) m.active → Fell (shape_at P code a) m → ((t : ℕ) → m.core.pending ≡ Some t → IsTarget P code t × (breaks_slot (shape_at P code (after P code a)) ≡ false)) → Inv P code m
  unfolding learn
  fall a p k i q l m same wide e f fell slot =
      record {
        same_code = same;
        previous = item_at P code a;
        is_instruction = subst (λ b. IsInstruction P code b (item_at P code a)) (sym e) (record { read = next i.read i.inside; inside = l });
        known = learn P code a k;
        knows = subst (λ b. Knows P code b (learn P code a k)) (sym e) (knows_next P code q i.inside);
        fits = go (is_target P code (after P code a));
        came = by_fall fell;
        slot = λ t h. subst (λ b. IsTarget P code t × (breaks_slot (shape_at P code b) ≡ false)) (sym e) (slot t h);
      }
    where
      go : (t : Bool) → Fits (cond t unknown (transfer_of P (item_at P code a) k)) m.active
      go true = wide
      go false = f

  -- at the last instruction a jump is pending
  pub not_last : {m : Machine} → Inv P code m → m.core.pending ≡ None → after P code m.core.pc < end_of P code
  not_last {m} inv none =
      by (eqb (after P code m.core.pc) (end_of P code))
      (λ e. absurd (go (R N.Ending m.core.pc inv.previous inv.is_instruction (eqb-true (after P code m.core.pc) (end_of P code) e)) inv.came))
      (λ e. omega (arith, eqb-false (after P code m.core.pc) (end_of P code) e, (R N.AllBuilt m.core.pc inv.previous inv.is_instruction).1))
    where
      go : (always (shape_of inv.previous) ≡ true) × (IsTarget P code m.core.pc → ⊥) → Came P code inv.previous m → ⊥
      go q (by_target g) = q.1 g
      go q (by_fall f) = f.pending q.0 none

  module _ (sound : Sound P) (small : length code ≤ P.size) where
    -- a whole instruction of one word, from a state in which registers, flags or RAM have changed already
    pub arrive : {m : Machine} (inv : Inv P code m) (c : Class) (n : ℕ) → item_at P code m.core.pc ≡ built c n → bytes_of (shape_in c n) ≡ 2 → always (shape_in c n) ≡ false → (k : Core) (a o : List ℕ) (memory : Memory) → take (length code) memory.ram ≡ code → k.pc ≡ m.core.pc → k.pending ≡ m.core.pending → HoldsValue (shape_in c n) a → Fits (transfer P c n inv.known) a → Fits unknown a → Inv P code (machine_with a o (moved_of k None) memory)
    unfolding transfer_of
    arrive {m} inv c n item two never k a o memory same ep eq left f wide = go m.core.pending refl
      where
        go : (p : Option ℕ) → m.core.pending ≡ p → Inv P code (machine_with a o (moved_of k None) memory)
        go (Some t) e =
            land t (machine_with a o (moved_of k None) memory) same wide (inv.slot t e).0 (ap (λ p. counter_of p k.pc) (eq ∙ e)) refl
        go None e =
            let l = not_last inv e in
            let b : after P code m.core.pc ≡ m.core.pc + 2 = ap (λ i. m.core.pc + bytes_of (shape_of i)) item ∙ ap (λ b. m.core.pc + b) two in
            let counter : (k.pc + 2) % 2 ^ 32 ≡ after P code m.core.pc = omega (arith, ep, b, l, sound.top, small) in
            fall m.core.pc inv.previous inv.known inv.is_instruction inv.knows l (machine_with a o (moved_of k None) memory) same wide
            (ap (λ p. counter_of p k.pc) (eq ∙ e) ∙ counter)
            (subst (λ i. Fits (transfer_of P i inv.known) a) (sym item) f)
            (record {
              value = subst (λ i. HoldsValue (shape_of i) a) (sym item) left;
              pending = λ h. no_way (sym never ∙ ap (λ i. always (shape_of i)) (sym item) ∙ h);
            })
            (λ t h. pending_none refl h)
