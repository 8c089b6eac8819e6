-- A step of an admitted program completes, and what held before it holds after it.
-- Assumes nothing.
use Rattle.std.proofs.Common.{◌≡◌, ℕ, ◌+◌, ◌-◌, ◌*◌, ◌/◌, ◌%◌, ◌^◌, ◌<◌, ◌≤◌, Bool, true, false, cond, eqb, List, length, get_or, take, set, sym, refl, ap, ◌∙◌, subst, ap₂, arith, get_or-set_same, eqb-true, Option, Some, None, Result, Ok, Err}
use Rattle.field.specs.Fields.{signed_field_of}
use Rattle.branch.specs.Jump.{taken_of, jr_target_of}
use Rattle.class.specs.declared.Address.{Address}
use Rattle.class.specs.declared.Address.TheVariants.{At, Offset, Indexed}
use Rattle.class.specs.declared.Class.{Class}
use Rattle.class.specs.declared.Class.TheVariants as C
use Rattle.effect.specs.Effects.{effect_in}
use Rattle.effect.specs.declared.Effect.{Effect}
use Rattle.effect.specs.declared.Effect.TheVariants as E
use Rattle.processor.specs.Processor.{Processor, Sound}
use Rattle.memory.specs.Memory.{word_at, immediate_of}
use Rattle.places.specs.Places.{place_of}
use Rattle.places.specs.declared.Place.{Place}
use Rattle.places.specs.declared.Place.TheVariants as M
use Rattle.answers.specs.declared.Fault.{Fault}
use Rattle.answers.specs.declared.Activity.TheVariants as A
use Rattle.gpu_core.specs.declared.Core.{Core}
use Rattle.gpu_core.specs.Core.{counter_of, moved_of, skipped_of}
use Rattle.gpu_core.specs.Machine.{Memory, with_ram, Machine, machine_with}
use Rattle.gpu_core.specs.Types.{IsMachine}
use Rattle.outcome.specs.Outcome.{moved_with, done_of, Outcome, unwritten}
use Rattle.jumps.specs.Jumps.{jump_of}
use Rattle.loads.specs.Loads.{counter_in, load_of}
use Rattle.stores.specs.Stores.{store_of}
use Rattle.cpu.specs.Step.{receives, apply_of, effected_of, operands_of, execute_of, advance_of}
use Rattle.laws.proofs.Instruction.{IsCompleted}
use Rattle.ranges.specs.declared.Range.{Range}
use Rattle.items.specs.declared.Item.{Item}
use Rattle.items.specs.declared.Shape.TheVariants.{Other, Movei}
use Rattle.verdicts.specs.declared.Rule.TheVariants as N
use Rattle.items.specs.Items.{built, item_in, item_of, shape_in, shape_of, bytes_of, is_jump, always}
use Rattle.rules.specs.Reading.{breaks_slot, end_of, item_at, shape_at, after}
use Rattle.ranges.specs.Ranges.{full, unknown, exact_range, is_exactly}
use Rattle.rules.specs.Known.{address_range, transfer, transfer_of}
use Rattle.rules.specs.Rules.{IsTarget, by_jr, by_jump, Rules}
use Rattle.branch.proofs.Conditions.{always_taken}
use Rattle.values.proofs.Booleans.{no_way}
use Rattle.ranges.proofs.Covers.{In, Fits, fits_at, fits_set, fits_write, in_exactly, in_sum, in_and, in_less, in_shifted}
use Rattle.rules.proofs.Agreement.{BankWrite, nothing, value, other, beyond, bank_write, Silent, Gives, Any, One, reached, Agrees, agrees}
use Rattle.rules.proofs.Invariant.{HoldsValue, Came, by_target, by_fall, Inv, fall, not_last, arrive}
use Rattle.rules.proofs.Scan.{bytes_least}
use Rattle.rules.proofs.Fetching.{reads_even, word_same, fetched, fetched_long, behind}
use Rattle.rules.proofs.Access.{Allowed, allowed}

module _ (P : Processor) (sound : Sound P) (code : List ℕ) (small : length code ≤ P.size) (R : Rules P code) (m : Machine) (inv : Inv P code m) (typed : IsMachine P.size m) where
  -- an outcome is a completed step, after which the invariant holds of whatever registers are words
  abbrev Steps : Outcome → Type 0
  Steps o = IsCompleted o.end × (Fits unknown o.machine.active → Inv P code o.machine)

  module _ (c : Class) (n : ℕ) (item : item_at P code m.core.pc ≡ built c n) where
    shape_is : shape_at P code m.core.pc ≡ shape_in c n
    shape_is = ap shape_of item

    -- what is known after it, of a bank
    abbrev Known : List ℕ → Type 0
    Known a = Fits unknown a → Fits (transfer P c n inv.known) a

    -- registers, flags or RAM change, and the counter moves by one word
    moves : bytes_of (shape_in c n) ≡ 2 → always (shape_in c n) ≡ false → (k : Core) (a o : List ℕ) (memory : Memory) → take (length code) memory.ram ≡ code → k.pc ≡ m.core.pc → k.pending ≡ m.core.pending → HoldsValue (shape_in c n) a → Known a → Fits unknown a → Inv P code (machine_with a o (moved_of k None) memory)
    moves two never k a o memory same ep eq left f wide =
        arrive P code R sound small inv c n item two never k a o memory same ep eq left (f wide) wide

    -- the registers stay as they are
    unchanged : transfer P c n inv.known ≡ inv.known → Known m.active
    unchanged t w = subst (λ k. Fits k m.active) (sym t) inv.fits

    -- register d gets a value: one in a range, or one of which nothing is known
    knowing : (d v : ℕ) (x : Range) → In x v → transfer P c n inv.known ≡ set inv.known d x → Known (set m.active d v)
    knowing d v x i t w = subst (λ k. Fits k (set m.active d v)) (sym t) (fits_set inv.fits d i)

    unknowing : (d v : ℕ) → transfer P c n inv.known ≡ set inv.known d full → Known (set m.active d v)
    unknowing d v t w = subst (λ k. Fits k (set m.active d v)) (sym t) (fits_write inv.fits d v w)

    -- an instruction of no other concern to the rules
    module _ (plain : shape_in c n ≡ Other) where
      plainly : (k : Core) (a o : List ℕ) → k.pc ≡ m.core.pc → k.pending ≡ m.core.pending → Known a → Fits unknown a → Inv P code (machine_with a o (moved_of k None) m.memory)
      plainly k a o ep eq f wide =
          moves (ap bytes_of plain) (ap always plain) k a o m.memory inv.same_code ep eq (subst (λ s. HoldsValue s a) (sym plain) tt) f wide

      -- what is to be known of the active bank after an effect
      abbrev After : BankWrite → Type 0
      After nothing = Known m.active
      After (value d v) = Known (set m.active d v)
      After (other d) = (v : ℕ) → Known (set m.active d v)
      After beyond = ⊥

      applied : (e : Effect) → After (bank_write e) → Steps (apply_of P m e)
      unfolding apply_of
      applied E.Nothing h = (tt, plainly _ _ _ refl refl h)
      applied (E.Write d r) h = (tt, plainly _ _ _ refl refl h)
      applied (E.Keep d v) h = (tt, plainly _ _ _ refl refl h)
      applied (E.Flags f) h = (tt, plainly _ _ _ refl refl h)
      applied (E.Divide d q) h = (tt, plainly _ _ _ refl refl h)
      applied (E.Product r) h = (tt, plainly _ _ _ refl refl h)
      applied (E.Accumulate v) h = (tt, plainly _ _ _ refl refl h)
      applied (E.ToOther d v) h = (tt, plainly _ _ _ refl refl h)
      applied (E.FromOther s d) h = (tt, plainly _ _ _ refl refl (h _))
      applied (E.Immediate d) h = absurd h
      applied (E.Counter d) h = absurd h
      applied (E.Jump q t) h = absurd h
      applied (E.Load d address) h = absurd h
      applied (E.Store address v) h = absurd h

      silent : transfer P c n inv.known ≡ inv.known → (e : Effect) → Silent (bank_write e) → Steps (apply_of P m e)
      silent t e h = applied e (go (bank_write e) h)
        where
          go : (w : BankWrite) → Silent w → After w
          go nothing s = unchanged t
          go (value d v) s = absurd s
          go (other d) s = absurd s
          go beyond s = absurd s

      -- register d gets a value of which Q holds
      gives : (d : ℕ) (Q : ℕ → Type 0) → ((v : ℕ) → Q v → Known (set m.active d v)) → (e : Effect) → Gives d Q (bank_write e) → Steps (apply_of P m e)
      gives d Q known e h = applied e (go (bank_write e) h)
        where
          there : (r v : ℕ) → r ≡ d → Q v → Known (set m.active r v)
          there r v e q = subst (λ i. Known (set m.active i v)) (sym e) (known v q)

          go : (w : BankWrite) → Gives d Q w → After w
          go nothing g = absurd g
          go (value r v) g = there r v g.0 g.1
          go (other r) g = λ v. there r v g.0 (g.1 v)
          go beyond g = absurd g

      -- any value, or one that lies in a range
      any : (d : ℕ) → transfer P c n inv.known ≡ set inv.known d full → (e : Effect) → Gives d Any (bank_write e) → Steps (apply_of P m e)
      any d t = gives d Any (λ v q. unknowing d v t)

      one : (d v : ℕ) (x : Range) → In x v → transfer P c n inv.known ≡ set inv.known d x → (e : Effect) → Gives d (One v) (bank_write e) → Steps (apply_of P m e)
      one d v x i t = gives d (One v) (λ u q. knowing d u x (subst (In x) (sym q) i) t)

  -- an address lies in the range that is known of it
  in_address : (x : Address) → In (address_range inv.known x) (reached m.active m.core.pc x)
  in_address (At r) = fits_at inv.fits r
  in_address (Offset r k) = in_sum (fits_at inv.fits r) (in_exactly k)
  in_address (Indexed r s) = in_sum (fits_at inv.fits r) (fits_at inv.fits s)

  -- LOAD and MOVE PC: what was read becomes a register, and nothing is known of it
  module _ (c : Class) (d n : ℕ) (item : item_at P code m.core.pc ≡ built c n) (same : d % 32 ≡ d) (two : bytes_of (shape_in c n) ≡ 2) (never : always (shape_in c n) ≡ false) (none_held : (a : List ℕ) → HoldsValue (shape_in c n) a) (forgets : transfer P c n inv.known ≡ set inv.known d full) where
    receiving : (v : Result ℕ Fault) → ((f : Fault) → v ≡ Err f → ⊥) → Steps (receives m (moved_of m.core None) d v)
    receiving (Ok k) read =
        (tt, moves c n item two never m.core _ m.other m.memory inv.same_code refl refl (none_held _) (subst (λ r. Known c n item (set m.active r k)) (sym same) (unknowing c n item d k forgets)))
    receiving (Err f) read = absurd (read f refl)

  read_long : {n : ℕ} (f : Fault) → Ok n ≡ Err f → ⊥
  read_long f e = let z : ◌≡◌ {A = ℕ} 0 1 = cc in omega arith

  found : (p : Result Place Fault) (x : Range) (from : ℕ) (low : P.base ≤ from) → Allowed P sound code from low x p → (f : Fault) → load_of m.core m.memory p ≡ Err f → ⊥
  found (Ok (M.Ram at)) x from low h = read_long
  found (Ok M.Flags) x from low h = read_long
  found (Ok M.Control) x from low h = read_long
  found (Ok M.Divide) x from low h = read_long
  found (Err f) x from low h = absurd h

  -- STORE
  module _ (x : Address) (d n : ℕ) (item : item_at P code m.core.pc ≡ built (C.Store x d) n) where
    -- whether or not the address is the flag register's
    either : (t : Bool) → Fits unknown m.active → Fits (cond t unknown inv.known) m.active
    either true w = w
    either false w = inv.fits

    stays : (k : Core) (memory : Memory) → take (length code) memory.ram ≡ code → k.pc ≡ m.core.pc → k.pending ≡ m.core.pending → Fits unknown m.active → Inv P code (machine_with m.active m.other (moved_of k None) memory)
    stays k memory same ep eq =
        moves (C.Store x d) n item refl refl k m.active m.other memory same ep eq tt (either (is_exactly (address_range inv.known x) P.flags))

    stores : (k : ℕ) (p : Result Place Fault) → Allowed P sound code (end_of P code) (omega arith) (address_range inv.known x) p → Steps (store_of m k p)
    stores k (Ok (M.Ram at)) h =
        (tt, stays m.core (with_ram m.memory _) (behind (length code) m.memory.ram at k (omega (arith, h)) ∙ inv.same_code) refl refl)
    stores k (Ok M.Flags) h =
        (tt, moves (C.Store x d) n item refl refl _ _ _ m.memory inv.same_code refl refl tt (λ w. subst (λ t. Fits (cond t unknown inv.known) (store_of m k (Ok M.Flags)).machine.active) (sym h) w))
    stores k (Ok M.Control) h = go (eqb (k % 2) 0)
      where
        go : (t : Bool) → Steps (unwritten m (moved_with (cond t (Ok A.Stopped) (Ok A.Running)) (moved_of m.core None)))
        go true = (tt, stays m.core m.memory inv.same_code refl refl)
        go false = (tt, stays m.core m.memory inv.same_code refl refl)
    stores k (Ok M.Divide) h = (tt, stays _ m.memory inv.same_code refl refl)
    stores k (Err f) h = absurd h

  -- no jump is pending at an instruction that breaks a slot
  none_pending : breaks_slot (shape_at P code m.core.pc) ≡ true → m.core.pending ≡ None
  none_pending b = go m.core.pending refl
    where
      go : (p : Option ℕ) → m.core.pending ≡ p → m.core.pending ≡ None
      go None e = e
      go (Some t) e = no_way (sym (inv.slot t e).1 ∙ b)

  -- the instruction at the counter lies in the code
  even : m.core.pc % 2 ≡ 0
  even = (reads_even sound.base_aligned inv.is_instruction.read).0

  low : P.base ≤ m.core.pc
  low = (reads_even sound.base_aligned inv.is_instruction.read).1

  ends : after P code m.core.pc ≤ end_of P code
  ends = (R N.AllBuilt m.core.pc inv.previous inv.is_instruction).1

  -- JR and JUMP
  module _ (c : Class) (n : ℕ) (item : item_at P code m.core.pc ≡ built c n) (is_jump_here : is_jump (shape_in c n) ≡ true) (slot_breaker : breaks_slot (shape_in c n) ≡ true) (two : bytes_of (shape_in c n) ≡ 2) (knows_same : transfer P c n inv.known ≡ inv.known) (leaves : HoldsValue (shape_in c n) m.active) where
    none : m.core.pending ≡ None
    none = none_pending (ap breaks_slot (shape_is c n item) ∙ slot_breaker)

    four : (after P code m.core.pc < end_of P code) × (breaks_slot (shape_at P code (after P code m.core.pc)) ≡ false)
    four = R N.DelaySlot m.core.pc inv.previous inv.is_instruction (ap is_jump (shape_is c n item) ∙ is_jump_here)

    goes_on : (p : Option ℕ) → (always (shape_in c n) ≡ true → p ≡ None → ⊥) → ((t : ℕ) → p ≡ Some t → IsTarget P code t) → Fits unknown m.active → Inv P code (machine_with m.active m.other (moved_of m.core p) m.memory)
    unfolding transfer_of
    goes_on p waits target w =
        let b : after P code m.core.pc ≡ m.core.pc + 2 = ap (λ i. m.core.pc + bytes_of (shape_of i)) item ∙ ap (λ b. m.core.pc + b) two in
        let counter : (m.core.pc + 2) % 2 ^ 32 ≡ after P code m.core.pc = omega (arith, b, four.0, sound.top, small) in
        fall P code R m.core.pc inv.previous inv.known inv.is_instruction inv.knows four.0 (machine_with m.active m.other (moved_of m.core p) m.memory) inv.same_code w
        (ap (λ q. counter_of q m.core.pc) none ∙ counter)
        (subst (λ i. Fits (transfer_of P i inv.known) m.active) (sym item) (unchanged c n item knows_same w))
        (record { value = subst (λ i. HoldsValue (shape_of i) m.active) (sym item) leaves; pending = λ h. waits (sym (ap (λ i. always (shape_of i)) item) ∙ h) })
        (λ t h. (target t h, four.1))

    jumping : (q t : ℕ) → always (shape_in c n) ≡ eqb q 0 → IsTarget P code t → Steps (unwritten m (jump_of m.core m.core.pending q t))
    jumping q t a g =
        subst (λ p. Steps (unwritten m (jump_of m.core p q t))) (sym none) (go (taken_of q m.core.flags) refl)
      where
        go : (b : Bool) → taken_of q m.core.flags ≡ b → Steps (unwritten m (cond b (moved_with (Ok A.Running) (moved_of m.core (Some t))) (done_of m.core)))
        go true e =
            (tt, goes_on (Some t) (λ h z. let w : ◌≡◌ {A = ℕ} 0 1 = cc in absurd (omega arith)) (λ u h. let same : t ≡ u = cc in subst (IsTarget P code) same g))
        go false e =
            (tt, goes_on None (λ h z. let zero : q ≡ 0 = eqb-true q 0 (sym a ∙ h) in no_way (sym e ∙ ap (λ b. taken_of b m.core.flags) zero ∙ always_taken m.core.flags)) (λ u h. let w : ◌≡◌ {A = ℕ} 0 1 = cc in absurd (omega arith)))

  -- MOVEI
  moves_immediate : (d n : ℕ) → item_at P code m.core.pc ≡ built (C.Movei d) n → d % 32 ≡ d → immediate_of P m.memory.ram m.core.pc ≡ Ok n → Steps (apply_of P m (E.Immediate d))
  unfolding apply_of transfer_of
  moves_immediate d n item e long =
      let none = none_pending (ap breaks_slot (shape_is (C.Movei d) n item)) in
      rw (none, long) (tt, λ w. go none w)
    where
      go : m.core.pending ≡ None → Fits unknown (set m.active (d % 32) n) → Inv P code (machine_with (set m.active (d % 32) n) m.other (skipped_of m.core) m.memory)
      go none w =
          let l = not_last P code R inv none in
          let b : after P code m.core.pc ≡ m.core.pc + 6 = ap (λ i. m.core.pc + bytes_of (shape_of i)) item in
          let counter : (m.core.pc + 6) % 2 ^ 32 ≡ after P code m.core.pc = omega (arith, b, l, sound.top, small) in
          let inside : d % 32 < length m.active = omega (arith, typed.active_bank.registers) in
          fall P code R m.core.pc inv.previous inv.known inv.is_instruction inv.knows l (machine_with (set m.active (d % 32) n) m.other (skipped_of m.core) m.memory) inv.same_code w
          counter
          (subst (λ i. Fits (transfer_of P i inv.known) (set m.active (d % 32) n)) (sym item) (subst (λ r. Fits (set inv.known r (exact_range n)) (set m.active (d % 32) n)) e (fits_set inv.fits (d % 32) (in_exactly n))))
          (record {
            value = subst (λ i. HoldsValue (shape_of i) (set m.active (d % 32) n)) (sym item) (ap (λ r. get_or (set m.active (d % 32) n) r 0) (sym e) ∙ get_or-set_same m.active (d % 32) n 0 inside);
            pending = λ h. no_way (ap (λ i. always (shape_of i)) (sym item) ∙ h);
          })
          (λ t h. let z : ◌≡◌ {A = ℕ} 0 1 = cc in absurd (omega arith))

  -- MOVE PC
  moves_counter : (d n : ℕ) → item_at P code m.core.pc ≡ built (C.MovePc d) n → d % 32 ≡ d → Steps (apply_of P m (E.Counter d))
  unfolding apply_of
  moves_counter d n item e =
      let none = none_pending (ap breaks_slot (shape_is (C.MovePc d) n item)) in
      subst (λ p. Steps (receives m (moved_of m.core None) d (counter_in m.core p))) (sym none)
      (receiving (C.MovePc d) d n item e refl refl (λ a. tt) refl (Ok m.core.pc) read_long)

  -- whatever is at the counter
  stepped : (c : Class) (n : ℕ) → item_at P code m.core.pc ≡ built c n → ((d : ℕ) → c ≡ C.Movei d → immediate_of P m.memory.ram m.core.pc ≡ Ok n) → (e : Effect) → Agrees m.active m.core.pc c e → Steps (apply_of P m e)
  unfolding apply_of
  stepped C.Quiet n item long e h = silent C.Quiet n item refl refl e h
  stepped (C.Write d) n item long e h = any (C.Write d) n item refl d refl e h
  stepped (C.Moveq k d) n item long e h = one (C.Moveq k d) n item refl d k (exact_range k) (in_exactly k) refl e h
  stepped (C.Movei d) n item long e h =
      subst (λ f. Steps (apply_of P m f)) (sym h.1) (moves_immediate d n item h.0 (long d refl))
  stepped (C.Move s d) n item long e h = one (C.Move s d) n item refl d _ _ (fits_at inv.fits s) refl e h
  stepped (C.And s d) n item long e h =
      one (C.And s d) n item refl d _ _ (in_and (fits_at inv.fits d) (fits_at inv.fits s)) refl e h
  stepped (C.Add s d) n item long e h =
      one (C.Add s d) n item refl d _ _ (in_sum (fits_at inv.fits d) (fits_at inv.fits s)) refl e h
  stepped (C.AddQuick k d) n item long e h =
      one (C.AddQuick k d) n item refl d _ _ (in_sum (fits_at inv.fits d) (in_exactly k)) refl e h
  stepped (C.SubQuick k d) n item long e h =
      one (C.SubQuick k d) n item refl d _ _ (in_less k (fits_at inv.fits d) (typed.active_bank.words d) h.0) refl e h.1
  stepped (C.Shlq k d) n item long e h =
      one (C.Shlq k d) n item refl d _ _ (in_shifted (get_or m.active d 0) k) refl e h
  stepped (C.Load x d) n item long e h =
      let a = reached m.active m.core.pc x in
      let r = (R N.Access m.core.pc inv.known (record { read = inv.knows; inside = inv.is_instruction.inside })).0 x (shape_is (C.Load x d) n item) in
      subst (λ f. Steps (apply_of P m f)) (sym h.1) (receiving (C.Load x d) d n item h.0 refl refl (λ b. tt) refl (load_of m.core m.memory (place_of P a)) (found (place_of P a) (address_range inv.known x) P.base (omega arith) (allowed P sound code P.base (omega arith) (address_range inv.known x) a (in_address x) r)))
  stepped (C.Store x d) n item long e h =
      let a = reached m.active m.core.pc x in
      let r = (R N.Access m.core.pc inv.known (record { read = inv.knows; inside = inv.is_instruction.inside })).1 x (shape_is (C.Store x d) n item) in
      subst (λ f. Steps (apply_of P m f)) (sym h) (stores x d n item (get_or m.active d 0) (place_of P a) (allowed P sound code (end_of P code) (omega arith) (address_range inv.known x) a (in_address x) r))
  stepped (C.MovePc d) n item long e h =
      subst (λ f. Steps (apply_of P m f)) (sym h.1) (moves_counter d n item h.0)
  stepped (C.Jump r q) n item long e h =
      subst (λ f. Steps (apply_of P m f)) (sym h) (jumping (C.Jump r q) n item refl refl refl refl tt q (get_or m.active r 0) refl (go inv.came))
    where
      rule : ((t : ℕ) × (shape_of inv.previous ≡ Movei r t) × Rattle.rules.specs.Rules.IsStart P code t) × (IsTarget P code m.core.pc → ⊥)
      rule = R N.JumpTarget m.core.pc inv.previous inv.is_instruction r q (shape_is (C.Jump r q) n item)

      go : Came P code inv.previous m → IsTarget P code (get_or m.active r 0)
      go (by_target g) = absurd (rule.1 g)
      go (by_fall f) =
          let t = rule.0.0 in
          let holds : get_or m.active r 0 ≡ t = subst (λ s. HoldsValue s m.active) rule.0.1 f.value in
          subst (IsTarget P code) (sym holds)
          (record { from = m.core.pc; previous = inv.previous; is_instruction = inv.is_instruction; leads = by_jump r q (shape_is (C.Jump r q) n item) rule.0.1 })
  stepped (C.Jr k q) n item long e h =
      subst (λ f. Steps (apply_of P m f)) (sym h)
      (jumping (C.Jr k q) n item refl refl refl refl tt q (jr_target_of m.core.pc (signed_field_of k)) refl
      (record { from = m.core.pc; previous = inv.previous; is_instruction = inv.is_instruction; leads = by_jr k q (shape_is (C.Jr k q) n item) refl }))

  -- the word at the counter, as the code has it
  code_word : (j : ℕ) → j + 2 ≤ length code → word_at code j ≡ word_at m.memory.ram j
  code_word j h = ap (λ l. word_at l j) (sym inv.same_code) ∙ word_same (length code) m.memory.ram j h

  executes : advance_of P m ≡ effected_of P m (effect_in (P.decode (word_at m.memory.ram (m.core.pc - P.base))) m.active (operands_of m.active m.core (word_at m.memory.ram (m.core.pc - P.base) / 32 % 32) (word_at m.memory.ram (m.core.pc - P.base) % 32)))
  unfolding advance_of execute_of
  executes =
      let b = bytes_least (shape_at P code m.core.pc) in
      rw (fetched P m.memory.ram typed.memory_typed.whole m.core.pc even low (omega (arith, ends, b, small)))

  pub step : Steps (advance_of P m)
  unfolding item_at item_of
  step = go (item_at P code m.core.pc) refl
    where
      go : (t : Option Item) → item_at P code m.core.pc ≡ t → Steps (advance_of P m)
      go None e = absurd ((R N.AllBuilt m.core.pc inv.previous inv.is_instruction).0 e)
      go (Some i) e =
          let c = i.class in
          let n = i.long in
          let j = m.core.pc - P.base in
          let w = word_at m.memory.ram j in
          let b = bytes_least (shape_at P code m.core.pc) in
          let word : word_at code j ≡ w = code_word j (omega (arith, ends, b, low)) in
          let long = word_at code (j + 4) * 2 ^ 16 + word_at code (j + 2) in
          let g = agrees P sound m.active w (operands_of m.active m.core (w / 32 % 32) (w % 32)) refl refl long c n (ap (λ u. item_in (P.decode u) long) (sym word) ∙ e) in
          subst Steps (sym (executes ∙ ap (effected_of P m) g.1)) (stepped c n e (λ d same. immediate d c n e same g.3) _ g.2)
        where
          immediate : (d : ℕ) (c : Class) (n : ℕ) → item_at P code m.core.pc ≡ built c n → c ≡ C.Movei d → word_at code (m.core.pc - P.base + 4) * 2 ^ 16 + word_at code (m.core.pc - P.base + 2) ≡ n → immediate_of P m.memory.ram m.core.pc ≡ Ok n
          immediate d c n e same long =
              let j = m.core.pc - P.base in
              let six : after P code m.core.pc ≡ m.core.pc + 6 = ap (λ t. m.core.pc + bytes_of (shape_of t)) (e ∙ ap (λ k. built k n) same) in
              fetched_long P m.memory.ram typed.memory_typed.whole sound m.core.pc even low (omega (arith, ends, six, small))
              ∙ ap Ok (ap₂ (λ (x y : ℕ). x * 2 ^ 16 + y) (sym (code_word (j + 4) (omega (arith, ends, six, low)))) (sym (code_word (j + 2) (omega (arith, ends, six, low)))) ∙ long)
