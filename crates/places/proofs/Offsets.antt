-- An address that four divides, told by its offset from the base modulo 2^32: whether it lies in local RAM, and where, at every sound
-- processor.
-- Assumes nothing.
use mathlib.Core.Path.{◌≡◌, refl}
use mathlib.Core.Bool.{Bool, true, false, cond}
use Prim.Native.Nat.{ℕ, ◌+◌, ◌-◌, ◌%◌, ◌^◌, ◌<◌, ◌≤◌}
use native.Mathlib.Omega.{arith}
use borrow.Author.Tests.{eq-eqb, lt-ltb, le-ltb, ltb-false}
use lib.Dec.{ltb}
use Rattle.processor.specs.Processor.{Processor, Sound}
use Rattle.places.specs.Places.{place_of, register_of}
use Rattle.std.proofs.Common.{Ok}
use Rattle.places.specs.declared.Place.TheVariants.{Ram}

module _ (P : Processor) (sound : Sound P) (a at : ℕ) (e : (at + P.base) % 2 ^ 32 ≡ a) (fits : at < 2 ^ 32) (aligned : a % 4 ≡ 0) where
  pub ram_place : at < P.size → place_of P a ≡ Ok (Ram at)
  ram_place h =
      let d : a - P.base ≡ at = omega (arith, sound.top) in
      rw (eq-eqb (a % 4) 0 aligned, le-ltb a P.base (omega (arith, sound.top)), d, lt-ltb at P.size h)

  pub register_place : P.size ≤ at → place_of P a ≡ register_of P a
  register_place h = rw (eq-eqb (a % 4) 0 aligned) (go (ltb a P.base) refl)
    where
      go : (t : Bool) → ltb a P.base ≡ t → cond t (register_of P a) (cond (ltb (a - P.base) P.size) (Ok (Ram (a - P.base))) (register_of P a)) ≡ register_of P a
      go true below = refl
      go false above =
          let l : P.base ≤ a = ltb-false a P.base above in
          rw (le-ltb (a - P.base) P.size (omega (arith, sound.top)))
