-- Instructions one after another, each from what the one before left, truly counted.
use Rattle.std.specs.Prelude.{ℕ, zero, suc, ◌+◌, List, Ok, Err}
use Rattle.processor.specs.Processor.{Processor}
use Rattle.answers.specs.Answers.{End}
use Rattle.answers.specs.declared.Activity.TheVariants as A
use Rattle.gpu_core.specs.declared.Core.{Core}
use Rattle.gpu_core.specs.Machine.{Memory, Machine, machine_with}
use Rattle.cpu.specs.Step.{advance_of}
use Rattle.cycle.specs.declared.Gone.{Gone}

-- How they ended, how many were completed, and the machine that they left.
pub record Runs : Type 0 where
  pub end : End
  pub steps : ℕ
  pub machine : Machine

-- What the loop hands back, with the banks, the core and memory that it was lent.
abbrev pub runs_with : Gone → List ℕ → List ℕ → Core → Memory → Runs
runs_with r active other k memory =
    record { end = r.end; steps = r.steps; machine = machine_with active other k memory }

-- An instruction that ended so and left the machine m, after n steps: the rest follows a completed one, one that stops the machine is
-- a step, and "A fault is not counted as a step".
abbrev pub followed_by : End → ℕ → Machine → Runs → Runs
followed_by (Ok A.Running) n m rest = rest
followed_by (Ok A.Stopped) n m rest = record { end = (Ok A.Stopped); steps = n + 1; machine = m }
followed_by (Err f) n m rest = record { end = Err f; steps = n; machine = m }

-- With a budget left and n steps counted.
unfoldable pub runs_of : Processor → ℕ → ℕ → Machine → Runs
runs_of P zero n m = record { end = (Ok A.Running); steps = n; machine = m }
runs_of P (suc b) n m =
    followed_by (advance_of P m).end n (advance_of P m).machine (runs_of P b (n + 1) (advance_of P m).machine)
