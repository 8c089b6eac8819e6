-- `check` meets its contract; demand 3, what refusals tell, how programs go on, and the rows are cited.
use borrow.Author.Tests.{leb-true, eq-eqb, ne_eqb}
use mathlib.Core.Bool.{true, ◌&&◌}
use mathlib.Core.Path.{◌≡◌}
use Prim.Native.Nat.{ℕ, ◌%◌, ◌≤◌}
use lib.Dec.{leb, eqb}
use Rattle.processor.specs.Processor.{gpu}
use Rattle.rules.specs.Check.{is_length, check_of}
use Rattle.values.proofs.Booleans.{and_l, and_r}
use Rattle.known.proofs.KnownRows.{known_rows}
use Rattle.rules.proofs.Examples.{gpu_demand3, gpu_tells, gpu_goes_on}
use Rattle.loading.proofs.check.Goals as goal

most : (C : ℕ) → is_length gpu C ≡ true → C ≤ gpu.size
most C e = leb-true C gpu.size (and_l (leb C gpu.size) (eqb (C % 4) 0) (and_r (leb 4 C) (leb C gpu.size && eqb (C % 4) 0) e))

pub returns-then-ram-ne-SIZE : goal.returns-then-ram-ne-SIZE
unfolding check_of
returns-then-ram-ne-SIZE c = record {
  value = rw (ne_eqb _ _ c.if-ram-ne-SIZE.true);
  demand3 = (gpu_demand3, gpu_tells, gpu_goes_on);
  known_rows = known_rows;
}

pub returns-then-not-is_length : goal.returns-then-not-is_length
unfolding check_of
returns-then-not-is_length c = record {
  value = rw (eq-eqb _ _ c.if-ram-ne-SIZE.false, ← c.is_length.ensures, c.if-not-is_length.true);
  demand3 = (gpu_demand3, gpu_tells, gpu_goes_on);
  known_rows = known_rows;
}

pub returns : goal.returns
unfolding check_of
returns c = record {
  value = rw (eq-eqb _ _ c.if-ram-ne-SIZE.false, ← c.is_length.ensures, c.if-not-is_length.false) c.rules.ensures;
  demand3 = (gpu_demand3, gpu_tells, gpu_goes_on);
  known_rows = known_rows;
}
