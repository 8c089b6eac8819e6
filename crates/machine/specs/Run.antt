-- A run: its refusals, and instructions one after another up to its budget.
use Rattle.std.specs.Prelude.{ℕ, ◌+◌, cond, length, ◌==◌, nat_lt, Ok, Err}
use Rattle.processor.specs.Processor.{Processor}
use Rattle.answers.specs.Answers.{End}
use Rattle.answers.specs.declared.Answer.{Answer}
use Rattle.answers.specs.declared.Answer.TheVariants.{Stopped, RamLength, BudgetLimit}
use Rattle.answers.specs.Answers.{answer_of}
use Rattle.answers.specs.declared.Activity.{Activity}
use Rattle.answers.specs.declared.Activity.TheVariants as A
use Rattle.gpu_core.specs.Machine.{Memory}
use Rattle.cycle.specs.Runs.{Runs, runs_of}
use Rattle.machine.specs.declared.State.{State}
use Rattle.machine.specs.declared.Ran.{Ran}
use Rattle.machine.specs.State.{machine_of, state_of}

-- "The budget is 0 to 1,000,000."
abbrev pub budget_limit : ℕ
budget_limit = 1000000

-- What a run hands back, and memory after it.
pub record Result : Type 0 where
  pub ran : Ran
  pub memory : Memory

abbrev pub ran_with : Ran → Memory → Result
ran_with r memory = record { ran = r; memory = memory }

abbrev pub result : Answer → ℕ → State → Memory → Result
result answer steps s memory = ran_with (record { answer = answer; steps = steps; state = s }) memory

-- With the steps of an earlier run added to the count.
abbrev pub counted : ℕ → Result → Result
counted steps r = result r.ran.answer (steps + r.ran.steps) r.ran.state r.memory

-- "A refused run has 0 steps", and changes nothing.
abbrev pub refused : Answer → State → Memory → Result
refused answer s memory = result answer 0 s memory

-- Whether the machine still runs.
abbrev pub activity_of : End → Activity
activity_of (Ok A.Running) = A.Running
activity_of (Ok A.Stopped) = A.Stopped
activity_of (Err f) = A.Running

abbrev pub result_of : Runs → Result
result_of r = result (answer_of r.end) r.steps (state_of (activity_of r.end) r.machine) r.machine.memory

-- "Budget 0 gives 0 or, when stopped, 1": a stopped machine makes no step.
abbrev pub started_of : Processor → Memory → State → ℕ → Activity → Result
started_of P memory s budget A.Running = result_of (runs_of P budget 0 (machine_of s memory))
started_of P memory s budget A.Stopped = result Stopped 0 s memory

-- "Order for a run: 31, 35, 34, 32": 35 and 34 speak of the kiosk's block.
unfoldable pub run_of : Processor → Memory → State → ℕ → Result
run_of P memory s budget =
    cond (length memory.ram == P.size)
    (cond (nat_lt budget_limit budget) (refused BudgetLimit s memory) (started_of P memory s budget s.activity))
    (refused RamLength s memory)

-- "A step answers as a run of budget 1."
abbrev pub step_of : Processor → Memory → State → Result
step_of P memory s = run_of P memory s 1
