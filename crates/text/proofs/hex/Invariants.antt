-- The digits of what is left of n, and behind them those that are taken off, last first.
use Rattle.std.proofs.Common.{◌≡◌, ◌++◌, ◌-◌, length, reverse}
use Rattle.text.specs.Digits.{hex_digits}
use Rattle.text.proofs.hex.Given as goal

abbrev pub invariant-loop : goal.invariant-loop
invariant-loop g l =
    (length l.digits.items ≡ l.counter) × (hex_digits (l.end - l.counter) l.rest ++ reverse l.digits.items ≡ hex_digits l.end l.n)
