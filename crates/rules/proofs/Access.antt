-- An access that rule 6 lets through leads to RAM from an address on, or to a built register.
-- Assumes nothing.
use Rattle.std.proofs.Common.{◌≡◌, ℕ, ◌+◌, ◌-◌, ◌%◌, ◌<◌, ◌≤◌, true, eqb, List, sym, ap, ◌∙◌, arith, le-ltb, lt-ltb, eq-eqb, Result, Ok, Err}
use Rattle.processor.specs.Processor.{Processor, Sound}
use Rattle.places.specs.Places.{is_mapped, is_register, place_of}
use Rattle.answers.specs.declared.Fault.{Fault}
use Rattle.places.specs.declared.Place.{Place}
use Rattle.places.specs.declared.Place.TheVariants as M
use Rattle.places.proofs.Places.{Register, is_flags, is_control, is_divide, is_none, register_at}
use Rattle.ranges.specs.declared.Range.{Range}
use Rattle.ranges.specs.Ranges.{is_exactly}
use Rattle.rules.specs.Rules.{Accessible, in_ram, one_register, Reaches}
use Rattle.values.proofs.Booleans.{no_way, and_i}
use Rattle.ranges.proofs.Covers.{In}

module _ (P : Processor) (sound : Sound P) (code : List ℕ) (from : ℕ) (low : P.base ≤ from) (x : Range) where
  -- a place that the range x of addresses allows
  abbrev pub Allowed : Result Place Fault → Type 0
  Allowed (Ok (M.Ram at)) = from ≤ P.base + at
  Allowed (Ok M.Flags) = is_exactly x P.flags ≡ true
  Allowed (Ok M.Control) = Unit {0}
  Allowed (Ok M.Divide) = Unit {0}
  Allowed (Err f) = ⊥

  module _ (a : ℕ) (i : In x a) (r : Reaches P code from x) where
    four : eqb (a % 4) 0 ≡ true
    four = eq-eqb (a % 4) 0 (i.multiple r.is_aligned)

    -- one exact register
    register : x.low ≡ a → x.high ≡ a → {p : Result Place Fault} → Register P a p → is_mapped p ≡ true → (a < P.base) × Allowed p
    register l h (is_flags e) m =
        (omega (arith, e, sound.flags_below), and_i (eq-eqb x.low P.flags (l ∙ e)) (eq-eqb x.high P.flags (h ∙ e)))
    register l h (is_control e) m = (omega (arith, e, sound.control_below), tt)
    register l h (is_divide e) m = (omega (arith, e, sound.divide_below), tt)
    register l h is_none m = no_way m

    pub allowed : Allowed (place_of P a)
    allowed = go r.place
      where
        go : Accessible P code from x → Allowed (place_of P a)
        go (in_ram l h) =
            rw (four, le-ltb a P.base (omega (arith, i.low, low)), lt-ltb (a - P.base) P.size (omega (arith, i.low, i.high, low))) (omega (arith, i.low, low))
        go (one_register e is) =
            let l : x.low ≡ a = omega (arith, i.low, i.high, e) in
            let q = register l (sym e ∙ l) (register_at P a) (ap (is_register P) (sym l) ∙ is) in
            rw (four, lt-ltb a P.base q.0) q.1
