-- What holds of any runs, and is part of the promise of `run`: a refusal changes nothing, a fault leaves what the steps before it left,
-- and budgets add up.
use Rattle.std.specs.Prelude.{◌≡◌, ℕ, ◌+◌, ◌<◌, ◌≤◌}
use Rattle.processor.specs.Processor.{Processor}
use Rattle.answers.specs.Answers.{number_of}
use Rattle.answers.specs.declared.Answer.{Answer}
use Rattle.answers.specs.declared.Answer.TheVariants.{Running}
use Rattle.gpu_core.specs.Machine.{Memory}
use Rattle.gpu_core.specs.Types.{HoldsBytes}
use Rattle.machine.specs.declared.State.{State}
use Rattle.machine.specs.Run.{budget_limit, Result, result, counted, refused, run_of, step_of}
use Rattle.machine.specs.State.{IsState}

-- The refusals of a run are 31 and 32.
abbrev pub IsRefusal : Answer → Type 0
IsRefusal a = 31 ≤ number_of a

-- "A fault is a number, other than 31, from the order for a step: here 11 to 15."
pub record IsFault (a : Answer) : Type 0 where
  pub at_least : 11 ≤ number_of a
  pub at_most : number_of a ≤ 15

-- A run that made as many steps as it was given.
abbrev pub Spends : ℕ → Result → Type 0
Spends budget r = r.ran.steps ≡ budget

module _ (P : Processor) where
  -- "A run that meets a fault leaves both as they stood before the faulty instruction": as the steps before it leave them, which are
  -- all completed; and the instruction that stands there then is the faulty one, which as a step changes nothing.
  pub record LeftBefore (memory : Memory) (s : State) (r : Result) : Type 0 where
    pub before : run_of P memory s r.ran.steps ≡ result Running r.ran.steps r.ran.state r.memory
    pub again : step_of P r.memory r.ran.state ≡ refused r.ran.answer r.ran.state r.memory

  pub record Laws : Type 0 where
    -- "A refused call changes neither RAM nor state."
    pub refusals : (memory : Memory) (s : State) → HoldsBytes memory → IsState s → (budget : ℕ) → IsRefusal (run_of P memory s budget).ran.answer
        → run_of P memory s budget ≡ refused (run_of P memory s budget).ran.answer s memory
    pub faults : (memory : Memory) (s : State) → HoldsBytes memory → IsState s → (budget : ℕ) → IsFault (run_of P memory s budget).ran.answer
        → LeftBefore memory s (run_of P memory s budget)
    -- Budgets add up: a run that spent its own, and a run from what it left, are one run.
    pub budgets : (memory : Memory) (s : State) → HoldsBytes memory → IsState s → (a b : ℕ) → a + b ≤ budget_limit → Spends a (run_of P memory s a)
        → run_of P memory s (a + b) ≡ counted a (run_of P (run_of P memory s a).memory (run_of P memory s a).ran.state b)
    -- One that was cut short, by a fault or a stop, is the same with any larger budget.
    pub cut_short : (memory : Memory) (s : State) (a b : ℕ) → a + b ≤ budget_limit → (run_of P memory s a).ran.steps < a → run_of P memory s (a + b) ≡ run_of P memory s a
