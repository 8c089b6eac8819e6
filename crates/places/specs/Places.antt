-- The address map, over a processor's constants.
use Rattle.std.specs.Prelude.{ℕ, ◌-◌, ◌%◌, Bool, cond, eqb, ltb, Result, Ok, Err, is_ok}
use Rattle.answers.specs.declared.Fault.{Fault}
use Rattle.answers.specs.declared.Fault.TheVariants.{Misaligned, Unmapped}
use Rattle.processor.specs.Processor.{Processor}
use Rattle.places.specs.declared.Place.{Place}
use Rattle.places.specs.declared.Place.TheVariants.{Ram, Flags, Control, Divide}

-- "address neither in local RAM nor a built register"
abbrev pub register_of : Processor → ℕ → Result Place Fault
register_of P a =
    cond (eqb a P.flags) (Ok Flags) (cond (eqb a P.control) (Ok Control) (cond (eqb a P.divide) (Ok Divide) (Err Unmapped)))

-- Whether an address leads anywhere, and whether it is a built register's.
abbrev pub is_mapped : Result Place Fault → Bool
is_mapped p = is_ok p

abbrev pub is_register : Processor → ℕ → Bool
is_register P a = is_mapped (register_of P a)

-- Where an address leads; 13 is "address not a multiple of 4".
abbrev pub place_of : Processor → ℕ → Result Place Fault
place_of P a =
    cond (eqb (a % 4) 0)
    (cond (ltb a P.base) (register_of P a) (cond (ltb (a - P.base) P.size) (Ok (Ram (a - P.base))) (register_of P a)))
    (Err Misaligned)
