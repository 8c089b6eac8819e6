-- `run` meets its contract: the refusals in their order, a stopped machine, then instructions one after another.
use Rattle.std.proofs.Common.{le-ltb, lt-ltb, eq-eqb}
use Rattle.values.specs.Results.{is_one}
use Rattle.gpu_core.proofs.Bytes.{holds_bytes}
use Rattle.machine.specs.Run.{run_of}
use Rattle.machine.proofs.Machines.{settled}
use Rattle.machine.proofs.Promised.{promised}
use Rattle.machine.proofs.Typed.{is_state}
use Rattle.machine.proofs.run.Goals as goal

pub returns-in_default-clause-laws : goal.returns-in_default-clause-laws
returns-in_default-clause-laws c = promised

pub returns-then-budget-gt-BUDGET_LIMIT-clause-ram_after : goal.returns-then-budget-gt-BUDGET_LIMIT-clause-ram_after
unfolding run_of
returns-then-budget-gt-BUDGET_LIMIT-clause-ram_after c =
    let whole = c.in-Some.ensures.cases in
    rw (lt-ltb _ _ c.if-budget-gt-BUDGET_LIMIT.true, eq-eqb _ _ whole.long, whole.same)

pub returns-then-budget-gt-BUDGET_LIMIT-clause-laws : goal.returns-then-budget-gt-BUDGET_LIMIT-clause-laws
returns-then-budget-gt-BUDGET_LIMIT-clause-laws c = promised

pub returns-in-Stopped-clause-ram_after : goal.returns-in-Stopped-clause-ram_after
unfolding run_of
returns-in-Stopped-clause-ram_after c =
    let whole = c.in-Some.ensures.cases in
    rw (le-ltb _ _ c.if-budget-gt-BUDGET_LIMIT.false, eq-eqb _ _ whole.long, whole.same, c.in-Stopped.is, ← c.in-Stopped.is)

pub returns-in-Stopped-clause-laws : goal.returns-in-Stopped-clause-laws
returns-in-Stopped-clause-laws c = promised

pub returns-in-Running-clause-ram_after : goal.returns-in-Running-clause-ram_after
unfolding run_of
returns-in-Running-clause-ram_after c =
    let whole = c.in-Some.ensures.cases in
    let first = is_one c.from_banks-g.new.k.bank in
    let e = rw (c.core-k.ensures, whole.same) at c.from_banks-g.ensures in
    rw (eq-eqb _ _ whole.long, le-ltb _ _ c.if-budget-gt-BUDGET_LIMIT.false, c.in-Running.is, c.state_with.ensures, c.activity.ensures, c.from.ensures, ← e, settled first c.from_banks-g.new.bank0 c.from_banks-g.new.bank1, settled first c.from_banks-g.new.bank1 c.from_banks-g.new.bank0)

pub returns-in-Running-clause-laws : goal.returns-in-Running-clause-laws
returns-in-Running-clause-laws c = promised

pub returns-then-budget-gt-BUDGET_LIMIT-clause-holds_bytes : goal.returns-then-budget-gt-BUDGET_LIMIT-clause-holds_bytes
returns-then-budget-gt-BUDGET_LIMIT-clause-holds_bytes c = (holds_bytes _ c.slice_known-1.given, is_state _ _ c.well_formed.1.0)

pub returns-in-Stopped-clause-holds_bytes : goal.returns-in-Stopped-clause-holds_bytes
returns-in-Stopped-clause-holds_bytes c = (holds_bytes _ c.slice_known-1.given, is_state _ _ c.well_formed.1.0)

pub returns-in-Running-clause-holds_bytes : goal.returns-in-Running-clause-holds_bytes
returns-in-Running-clause-holds_bytes c = (holds_bytes _ c.slice_known-1.given, is_state _ _ c.well_formed.1.0)
