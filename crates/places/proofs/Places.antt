-- Where an address leads, at every processor whose RAM begins and ends at a multiple of 4: a place in local RAM has four bytes, and
-- a register's address is its own.
-- Assumes nothing.
use mathlib.Core.Path.{◌≡◌, refl}
use mathlib.Core.Bool.{Bool, true, false, cond}
use Prim.Native.Nat.{ℕ, ◌+◌, ◌-◌, ◌%◌, ◌≤◌}
use native.Mathlib.Omega.{arith}
use borrow.Author.Tests.{eqb-true, ltb-true, ltb-false}
use lib.Dec.{eqb, ltb}
use Rattle.processor.specs.Processor.{Processor, Sound}
use Rattle.places.specs.Places.{place_of, register_of}
use Rattle.answers.specs.declared.Fault.TheVariants.{Misaligned, Unmapped}
use Rattle.std.proofs.Common.{Result, Ok, Err}
use Rattle.answers.specs.declared.Fault.{Fault}
use Rattle.places.specs.declared.Place.{Place}
use Rattle.places.specs.declared.Place.TheVariants.{Ram, Flags, Control, Divide}

-- what is built at an address that is not in RAM
pub data Register (P : Processor) (a : ℕ) : Result Place Fault → Type 0 where
  is_flags : a ≡ P.flags → Register P a (Ok Flags)
  is_control : a ≡ P.control → Register P a (Ok Control)
  is_divide : a ≡ P.divide → Register P a (Ok Divide)
  is_none : Register P a (Err Unmapped)

pub register_at : (P : Processor) (a : ℕ) → Register P a (register_of P a)
register_at P a = go (eqb a P.flags) (eqb a P.control) (eqb a P.divide) refl refl refl
  where
    go : (p q r : Bool) → eqb a P.flags ≡ p → eqb a P.control ≡ q → eqb a P.divide ≡ r → Register P a (cond p (Ok Flags) (cond q (Ok Control) (cond r (Ok Divide) (Err Unmapped))))
    go true q r e f g = is_flags (eqb-true a P.flags e)
    go false true r e f g = is_control (eqb-true a P.control f)
    go false false true e f g = is_divide (eqb-true a P.divide g)
    go false false false e f g = is_none

module _ (P : Processor) (sound : Sound P) (a at : ℕ) where
  -- it is no place in RAM
  no_ram : {p : Result Place Fault} → Register P a p → p ≡ Ok (Ram at) → ⊥
  no_ram (is_flags h) e = let z : ◌≡◌ {A = ℕ} 0 1 = cc in omega arith
  no_ram (is_control h) e = let z : ◌≡◌ {A = ℕ} 0 1 = cc in omega arith
  no_ram (is_divide h) e = let z : ◌≡◌ {A = ℕ} 0 1 = cc in omega arith
  no_ram is_none e = let z : ◌≡◌ {A = ℕ} 0 1 = cc in omega arith

  by_tests : (p q r : Bool) → eqb (a % 4) 0 ≡ p → ltb a P.base ≡ q → ltb (a - P.base) P.size ≡ r → cond p (cond q (register_of P a) (cond r (Ok (Ram (a - P.base))) (register_of P a))) (Err Misaligned) ≡ Ok (Ram at) → at + 4 ≤ P.size
  by_tests false q r hp hq hr e = let z : ◌≡◌ {A = ℕ} 0 1 = cc in absurd (omega arith)
  by_tests true true r hp hq hr e = absurd (no_ram (register_at P a) e)
  by_tests true false false hp hq hr e = absurd (no_ram (register_at P a) e)
  by_tests true false true hp hq hr e =
      let d : a - P.base ≡ at = cc in
      omega (arith, eqb-true (a % 4) 0 hp, ltb-false a P.base hq, ltb-true (a - P.base) P.size hr, sound.base_aligned, sound.size_aligned)

  pub ram_holds : place_of P a ≡ Ok (Ram at) → at + 4 ≤ P.size
  ram_holds e = by_tests (eqb (a % 4) 0) (ltb a P.base) (ltb (a - P.base) P.size) refl refl refl e
