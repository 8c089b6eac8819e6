-- The loading check as a computed answer: 31, 33, then the six rules, each over the whole code, lowest address first.
use Rattle.std.specs.Prelude.{ℕ, ◌+◌, ◌%◌, Bool, true, false, cond, not, ◌&&◌, ◌||◌, List, [], ◌∷◌, length, take, ◌==◌, nat_eq, nat_le, nat_lt, Option, None, Some, is_some, Ok, Err}
use Rattle.field.specs.Fields.{signed_field_of}
use Rattle.branch.specs.Jump.{jr_target_of}
use Rattle.processor.specs.Processor.{Processor}
use Rattle.places.specs.Places.{is_register}
use Rattle.ranges.specs.declared.Range.{Range}
use Rattle.verdicts.specs.declared.Refusal.TheVariants.{RamLength, CodeLength, Broken}
use Rattle.verdicts.specs.declared.Rule.{Rule}
use Rattle.verdicts.specs.declared.Rule.TheVariants.{AllBuilt, JrTarget, JumpTarget, DelaySlot, Ending, Access}
use Rattle.verdicts.specs.Verdicts.{Verdict}
use Rattle.items.specs.declared.Item.{Item}
use Rattle.items.specs.declared.Shape.{Shape}
use Rattle.items.specs.declared.Shape.TheVariants.{Movei, Jr, Jump, Load, Store}
use Rattle.items.specs.Items.{shape_of, is_built, is_jump, always}
use Rattle.rules.specs.Reading.{breaks_slot, end_of, item_at, shape_at, after, before}
use Rattle.rules.specs.Scan.{first_bad}
use Rattle.ranges.specs.Ranges.{unknown}
use Rattle.rules.specs.Known.{address_range, transfer_of}

-- the instruction before was a MOVEI into r, of a value that the test lets through
abbrev pub holds : Shape → ℕ → (ℕ → Bool) → Bool
holds (Movei d v) r f = d == r && f v
holds _ r f = false

-- a jump at a, after an instruction of the shape p, has the target t
abbrev pub leads : ℕ → Shape → Shape → ℕ → Bool
leads a p (Jr n c) t = jr_target_of a (signed_field_of n) == t
leads a p (Jump r c) t = holds p r (λ v. nat_eq v t)
leads a p _ t = false

-- an address in RAM, from a given one on
abbrev pub inside : Processor → ℕ → ℕ → Bool
inside P from a = nat_le from a && nat_lt a (P.base + P.size)

-- by both ends of its range in RAM from an address on, or one exact built register; and a multiple of 4
abbrev pub within : Processor → ℕ → Range → Bool
within P from x =
    x.aligned && ((inside P from x.low && inside P from x.high) || (x.low == x.high && is_register P x.low))

module _ (P : Processor) (code : List ℕ) where
  unfoldable pub is_start : ℕ → Bool
  is_start t = is_some (first_bad P code (Option Item) None (before P code) (λ a p. not (a == t)))

  unfoldable pub is_target : ℕ → Bool
  is_target t = is_some (first_bad P code (Option Item) None (before P code) (λ a p. not (leads a (shape_of p) (shape_at P code a) t)))

  -- what is known at the next instruction
  unfoldable pub learn : ℕ → List Range → List Range
  learn a k = cond (is_target (after P code a)) unknown (transfer_of P (item_at P code a) k)

  unfoldable pub ok1 : ℕ → Option Item → Bool
  ok1 a p = is_built (item_at P code a) && nat_le (after P code a) (end_of P code)

  abbrev pub jr_ok : ℕ → Shape → Bool
  jr_ok a (Jr n c) = is_start (jr_target_of a (signed_field_of n))
  jr_ok a _ = true

  unfoldable pub ok2 : ℕ → Option Item → Bool
  ok2 a p = jr_ok a (shape_at P code a)

  abbrev pub jump_ok : ℕ → Shape → Shape → Bool
  jump_ok a p (Jump r c) = holds p r is_start && not (is_target a)
  jump_ok a p _ = true

  unfoldable pub ok3 : ℕ → Option Item → Bool
  ok3 a p = jump_ok a (shape_of p) (shape_at P code a)

  unfoldable pub ok4 : ℕ → Option Item → Bool
  ok4 a p =
      not (is_jump (shape_at P code a)) || (nat_lt (after P code a) (end_of P code) && not (breaks_slot (shape_at P code (after P code a))))

  unfoldable pub ok5 : ℕ → Option Item → Bool
  ok5 a p = not (after P code a == end_of P code) || (always (shape_of p) && not (is_target a))

  abbrev pub access_ok : List Range → Shape → Bool
  access_ok k (Load m) = within P P.base (address_range k m)
  access_ok k (Store m) = within P (end_of P code) (address_range k m)
  access_ok k _ = true

  unfoldable pub ok6 : ℕ → List Range → Bool
  ok6 a k = access_ok k (shape_at P code a)

  -- the first instruction at which a test fails that looks at the instruction before
  abbrev pub first_failing : (ℕ → Option Item → Bool) → Option ℕ
  first_failing test = first_bad P code (Option Item) None (before P code) test

  abbrev pub first_access : Option ℕ
  first_access = first_bad P code (List Range) unknown learn ok6

  -- the first instruction that breaks a rule
  abbrev pub first_of : Rule → Option ℕ
  first_of AllBuilt = first_failing ok1
  first_of JrTarget = first_failing ok2
  first_of JumpTarget = first_failing ok3
  first_of DelaySlot = first_failing ok4
  first_of Ending = first_failing ok5
  first_of Access = first_access

abbrev pub or_else : Option ℕ → (ℕ → Verdict) → Verdict → Verdict
or_else None told rest = rest
or_else (Some a) told rest = told a

-- the first of some rules that is broken, at its lowest address
unfoldable pub broken_in : Processor → List ℕ → List Rule → Verdict → Verdict
broken_in P code [] rest = rest
broken_in P code (r ∷ rs) rest = or_else (first_of P code r) (λ a. Err (Broken r a)) (broken_in P code rs rest)

-- "rules 1 to 6, each over the whole code, lowest address first"
abbrev pub rule_order : List Rule
rule_order = AllBuilt ∷ JrTarget ∷ JumpTarget ∷ DelaySlot ∷ Ending ∷ Access ∷ []

unfoldable pub rules_of : Processor → List ℕ → Verdict
rules_of P code = broken_in P code rule_order (Ok tt)

-- "code length not 4 to 4,096, or not a multiple of 4"
abbrev pub is_length : Processor → ℕ → Bool
is_length P C = nat_le 4 C && (nat_le C P.size && C % 4 == 0)

-- "For the check: 31, 33, then rules 1 to 6"
unfoldable pub check_of : Processor → List ℕ → ℕ → Verdict
check_of P ram C =
    cond (length ram == P.size) (cond (is_length P C) (rules_of P (take C ram)) (Err CodeLength)) (Err RamLength)
