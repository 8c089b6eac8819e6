-- Rule 6 at one instruction, told of the address at which the code ends.
use Rattle.std.specs.Prelude.{ℕ, Bool, true, List}
use Rattle.processor.specs.Processor.{Processor}
use Rattle.ranges.specs.declared.Range.{Range}
use Rattle.items.specs.declared.Shape.{Shape}
use Rattle.items.specs.declared.Shape.TheVariants.{Other, Movei, MovePc, Jr, Jump, Load, Store}
use Rattle.rules.specs.Known.{address_range}
use Rattle.rules.specs.Check.{within}

-- the definition access_ok of rules/specs/Check.antt, by the end of the code instead of the code
abbrev pub access_of : Processor → ℕ → List Range → Shape → Bool
access_of P end k Other = true
access_of P end k (Movei d v) = true
access_of P end k MovePc = true
access_of P end k (Jr n c) = true
access_of P end k (Jump r c) = true
access_of P end k (Load m) = within P P.base (address_range k m)
access_of P end k (Store m) = within P end (address_range k m)
