-- The digits of what is left of n, and behind them those that are taken off, last first.
use Rattle.std.proofs.Common.{◌≡◌, ◌++◌, reverse}
use Rattle.text.specs.Digits.{decimal_of}
use Rattle.text.proofs.decimal.Given as goal

abbrev pub invariant-loop-rest : goal.invariant-loop-rest
invariant-loop-rest l = decimal_of l.rest ++ reverse l.digits.items ≡ decimal_of l.n

abbrev pub decreases-loop-rest : goal.decreases-loop-rest
decreases-loop-rest l = l.rest
