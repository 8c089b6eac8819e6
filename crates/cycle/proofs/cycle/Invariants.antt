-- `cycle` meets its contract. The loop's invariant: what is left of the run, from here, is the whole run.
use Rattle.std.proofs.Common.{◌≡◌, ◌-◌}
use Rattle.processor.specs.Processor.{gpu}
use Rattle.gpu_core.specs.Machine.{machine_with, lent}
use Rattle.cycle.specs.Runs.{runs_of}
use Rattle.cycle.proofs.cycle.Given as goal

abbrev pub invariant-loop-steps : goal.invariant-loop-steps
invariant-loop-steps l =
    runs_of gpu (l.budget - l.steps) l.steps (machine_with l.a l.o l.k (lent l.ram)) ≡ runs_of gpu l.budget 0 (machine_with l.initial.a l.initial.o l.initial.k (lent l.initial.ram))
