-- The six loading rules as statements about the code, in paper 01's words. Nothing here is taken from the computed check.
use Rattle.std.specs.Prelude.{◌≡◌, ℕ, ◌+◌, ◌<◌, ◌≤◌, true, false, List, ◌≢◌, Option, None}
use Rattle.class.specs.declared.Address.{Address}
use Rattle.field.specs.Fields.{signed_field_of}
use Rattle.branch.specs.Jump.{jr_target_of}
use Rattle.processor.specs.Processor.{Processor}
use Rattle.places.specs.Places.{is_register}
use Rattle.ranges.specs.declared.Range.{Range}
use Rattle.items.specs.declared.Item.{Item}
use Rattle.items.specs.declared.Shape.TheVariants.{Movei, Jr, Jump, Load, Store}
use Rattle.verdicts.specs.declared.Rule.{Rule}
use Rattle.verdicts.specs.declared.Rule.TheVariants.{AllBuilt, JrTarget, JumpTarget, DelaySlot, Ending, Access}
use Rattle.verdicts.specs.Verdicts.{rule_number}
use Rattle.items.specs.Items.{shape_of, is_jump, always}
use Rattle.rules.specs.Reading.{breaks_slot, end_of, item_at, shape_at, after, before, Reads}
use Rattle.ranges.specs.Ranges.{unknown}
use Rattle.rules.specs.Known.{address_range, transfer_of}

module _ (P : Processor) (code : List ℕ) where
  -- an instruction stands at a, and x is what comes there with it
  pub record Stands (X : Type 0) (Comes : ℕ → X → Type 0) (a : ℕ) (x : X) : Type 0 where
    pub read : Comes a x
    pub inside : a < end_of P code

  -- a is the address of an instruction as the code is read straight through, and p stands directly before it
  abbrev pub IsInstruction : ℕ → Option Item → Type 0
  IsInstruction = Stands (Option Item) (Reads P code (Option Item) None (before P code))

  -- 01's "instruction start"
  pub record IsStart (a : ℕ) : Type 0 where
    pub previous : Option Item
    pub is_instruction : IsInstruction a previous

  -- 01's "target": of a JR, or the value of a MOVEI that a JUMP through the same register directly follows
  pub data Leads (a : ℕ) (p : Option Item) (t : ℕ) : Type 0 where
    by_jr : (n c : ℕ) → shape_at P code a ≡ Jr n c → jr_target_of a (signed_field_of n) ≡ t → Leads a p t
    by_jump : (r c : ℕ) → shape_at P code a ≡ Jump r c → shape_of p ≡ Movei r t → Leads a p t

  pub record IsTarget (t : ℕ) : Type 0 where
    pub from : ℕ
    pub previous : Option Item
    pub is_instruction : IsInstruction from previous
    pub leads : Leads from previous t

  -- 01's "known": reading straight through, the ranges k of the active registers are known at a. "At the first instruction, at
  -- each target […] all are 0 to 2^32−1 and no"; onward they are what the instruction before makes of them.
  pub data Knows : ℕ → List Range → Type 0 where
    at_first : Knows P.base unknown
    at_target : {a : ℕ} {k : List Range} → Knows a k → a < end_of P code → IsTarget (after P code a) → Knows (after P code a) unknown
    onward : {a : ℕ} {k : List Range} → Knows a k → a < end_of P code → (IsTarget (after P code a) → ⊥)
        → Knows (after P code a) (transfer_of P (item_at P code a) k)

  -- an address in "the allowed RAM", which begins at an address
  pub record Inside (from a : ℕ) : Type 0 where
    pub low : from ≤ a
    pub high : a < P.base + P.size

  -- "by both ends of its range, inside the allowed RAM […] or one exact built register"
  pub data Accessible (from : ℕ) (x : Range) : Type 0 where
    in_ram : Inside from x.low → Inside from x.high → Accessible from x
    one_register : x.low ≡ x.high → is_register P x.low ≡ true → Accessible from x

  -- "Every access is known to be a multiple of 4 and" in such a place
  pub record Reaches (from : ℕ) (x : Range) : Type 0 where
    pub is_aligned : x.aligned ≡ true
    pub place : Accessible from x

  -- 1. "all instructions are built and the last ends exactly at C. The address told is the first instruction's that isn't so."
  abbrev pub Rule1 : ℕ → Option Item → Type 0
  Rule1 a p = (item_at P code a ≢ None) × (after P code a ≤ end_of P code)

  -- "Rules 2, 3 and 4 tell the address of the JR or JUMP at fault."
  -- 2. "Every JR target, taken or not, is an instruction start in the code."
  abbrev pub Rule2 : ℕ → Option Item → Type 0
  Rule2 a p = (n c : ℕ) → shape_at P code a ≡ Jr n c → IsStart (jr_target_of a (signed_field_of n))

  -- 3. "A JUMP directly follows a MOVEI into its own register of an instruction start in the code. No target of rules 2 and 3 is a
  -- JUMP; a JUMP that is one is the JUMP at fault."
  abbrev pub Rule3 : ℕ → Option Item → Type 0
  Rule3 a p =
      (r c : ℕ) → shape_at P code a ≡ Jump r c → ((v : ℕ) × (shape_of p ≡ Movei r v) × IsStart v) × (IsTarget a → ⊥)

  -- 4. "Each JR and JUMP has an instruction after it, which is not JR, JUMP, MOVEI or MOVE PC."
  abbrev pub Rule4 : ℕ → Option Item → Type 0
  Rule4 a p =
      is_jump (shape_at P code a) ≡ true → (after P code a < end_of P code) × (breaks_slot (shape_at P code (after P code a)) ≡ false)

  -- 5. "The next to last instruction is a JR or JUMP with condition 0; the last is no target. The address told is the last's."
  abbrev pub Rule5 : ℕ → Option Item → Type 0
  Rule5 a p = after P code a ≡ end_of P code → (always (shape_of p) ≡ true) × (IsTarget a → ⊥)

  -- 6. "the allowed RAM (all of it for LOAD, the data window for STORE)"; the data window is RAM behind the code. "The address told
  -- is the LOAD's or STORE's."
  abbrev pub Rule6 : ℕ → List Range → Type 0
  Rule6 a k =
      ((m : Address) → shape_at P code a ≡ Load m → Reaches P.base (address_range k m)) × ((m : Address) → shape_at P code a ≡ Store m → Reaches (end_of P code) (address_range k m))

  -- an instruction at a, if one stands there, is held to a rule about it and what comes there with it
  abbrev pub Held : (X : Type 0) → (ℕ → X → Type 0) → (ℕ → X → Type 0) → ℕ → Type 0
  Held X Comes R a = (x : X) → Stands X Comes a x → R a x

  -- rules 1 to 5 ask of the instruction and the one before it, rule 6 of what is known
  abbrev pub Obeys : Rule → ℕ → Type 0
  Obeys AllBuilt = Held (Option Item) (Reads P code (Option Item) None (before P code)) Rule1
  Obeys JrTarget = Held (Option Item) (Reads P code (Option Item) None (before P code)) Rule2
  Obeys JumpTarget = Held (Option Item) (Reads P code (Option Item) None (before P code)) Rule3
  Obeys DelaySlot = Held (Option Item) (Reads P code (Option Item) None (before P code)) Rule4
  Obeys Ending = Held (Option Item) (Reads P code (Option Item) None (before P code)) Rule5
  Obeys Access = Held (List Range) Knows Rule6

  abbrev pub Everywhere : Rule → Type 0
  Everywhere r = (a : ℕ) → Obeys r a

  -- the code obeys the six rules
  abbrev pub Rules : Type 0
  Rules = (r : Rule) → Everywhere r

  -- a is the lowest address of an instruction at which something does not hold
  pub record Lowest (Holds : ℕ → Type 0) (a : ℕ) : Type 0 where
    pub is_start : IsStart a
    pub broken : Holds a → ⊥
    pub below : (b : ℕ) → b < a → Holds b

  -- "rules 1 to 6, each over the whole code, lowest address first": the earlier rules hold, and this one is broken, first at a
  pub record FirstBroken (r : Rule) (a : ℕ) : Type 0 where
    pub earlier : (q : Rule) → rule_number q < rule_number r → Everywhere q
    pub lowest : Lowest (Obeys r) a
