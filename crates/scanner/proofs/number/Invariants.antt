-- `number` meets its contract. The loop's invariant: what is left to read gives what the whole gives.
use Rattle.std.proofs.Common.{◌≡◌, drop}
use Rattle.scanner.specs.Lines.{digits, number_in}
use Rattle.scanner.proofs.number.Given as goal

abbrev pub invariant-loop-count : goal.invariant-loop-count
invariant-loop-count l =
    number_in (digits l.f.base l.f.least l.f.most) l.n l.count (drop l.count l.text) ≡ number_in (digits l.f.base l.f.least l.f.most) 0 0 (drop l.at l.s)
