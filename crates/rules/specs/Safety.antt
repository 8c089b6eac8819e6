-- Demand 3, stated: what the check admits, and what a run of an admitted program never does.
use Rattle.std.specs.Prelude.{◌≡◌, ℕ, zero, suc, ◌%◌, ◌≤◌, ◌↔◌, List, [], ◌∷◌, length, take, None, Ok, Err}
use Rattle.processor.specs.Processor.{Processor}
use Rattle.answers.specs.Answers.{number_of}
use Rattle.answers.specs.declared.Activity.TheVariants as A
use Rattle.gpu_core.specs.Machine.{Memory}
use Rattle.gpu_core.specs.Types.{IsMemory}
use Rattle.machine.specs.declared.State.{State}
use Rattle.machine.specs.State.{IsState}
use Rattle.machine.specs.Run.{budget_limit, run_of, step_of}
use Rattle.verdicts.specs.declared.Refusal.TheVariants.{RamLength, CodeLength, Broken}
use Rattle.verdicts.specs.Verdicts.{Verdict}
use Rattle.rules.specs.Check.{check_of}
use Rattle.rules.specs.Rules.{IsStart, Rules, FirstBroken}

-- "any state that is running, with the counter at the first instruction and no jump pending"
pub record StartState (P : Processor) (s : State) : Type 0 where
  pub runs : s.activity ≡ A.Running
  pub at_first : s.pc ≡ P.base
  pub none_pending : s.pending ≡ None

-- memory that 31 lets through with the admitted code at the start of RAM, whatever stands behind it, and a state that begins
pub record Loaded (P : Processor) (admitted : List ℕ) (C : ℕ) (memory : Memory) (s : State) : Type 0 where
  pub is_memory : IsMemory P.size memory
  pub same_code : take C memory.ram ≡ take C admitted
  pub is_state : IsState s
  pub begins : StartState P s

-- "Each step gets the RAM and state that the one before left, and nobody else writes them meanwhile."
pub record Left : Type 0 where
  pub state : State
  pub memory : Memory

unfoldable pub after_steps : Processor → ℕ → Memory → State → Left
after_steps P zero memory s = record { state = s; memory = memory }
after_steps P (suc k) memory s = after_steps P k (step_of P memory s).memory (step_of P memory s).ran.state

-- A display calls the run again and again, each time with the RAM and state that the call before left: what some runs leave.
unfoldable pub after_runs : Processor → List ℕ → Memory → State → Left
after_runs P [] memory s = record { state = s; memory = memory }
after_runs P (budget ∷ budgets) memory s = after_runs P budgets (run_of P memory s budget).memory (run_of P memory s budget).ran.state

module _ (P : Processor) (code : List ℕ) where
  -- "the program's code is byte for byte the admitted code, and the program counter is at the start of one of the program's
  -- instructions"
  pub record Kept (l : Left) : Type 0 where
    pub same_code : take (length code) l.memory.ram ≡ code
    pub at_start : IsStart P code l.state.pc

  -- what demand 3 says of one run
  pub record Safe (memory : Memory) (s : State) (budget : ℕ) : Type 0 where
    -- "the run answers 0 or 1 and never a fault"
    pub answers : number_of (run_of P memory s budget).ran.answer ≤ 1
    -- "Before its first step and after each one, the stopping step included"
    pub keeps : (k : ℕ) → k ≤ (run_of P memory s budget).ran.steps → Kept (after_steps P k memory s)
    -- what the run hands back is what its steps left
    pub ends : after_steps P (run_of P memory s budget).ran.steps memory s ≡ record { state = (run_of P memory s budget).ran.state; memory = (run_of P memory s budget).memory }

-- "A program is code that the check's refusals before rule 1 let through."
pub record IsProgram (P : Processor) (ram : List ℕ) (C : ℕ) : Type 0 where
  pub whole_ram : length ram ≡ P.size
  pub at_least : 4 ≤ C
  pub at_most : C ≤ P.size
  pub longs : C % 4 ≡ 0

-- What each answer of the check says of RAM and the code's length.
module _ (P : Processor) (ram : List ℕ) (C : ℕ) where
  abbrev pub Means : Verdict → Type 0
  Means (Ok u) = IsProgram P ram C × Rules P (take C ram)
  Means (Err RamLength) = length ram ≡ P.size → ⊥
  Means (Err CodeLength) = (length ram ≡ P.size) × (IsProgram P ram C → ⊥)
  Means (Err (Broken r a)) = IsProgram P ram C × FirstBroken P (take C ram) r a

-- Demand 3, "a single claim about the check and the whole run".
pub record Demand3 (P : Processor) : Type 0 where
  -- "The loading check admits exactly the programs that obey the six rules"
  pub exactly : (ram : List ℕ) (C : ℕ) → (check_of P ram C ≡ Ok tt) ↔ (IsProgram P ram C × Rules P (take C ram))
  -- "Start an admitted program running at its first instruction with no jump pending. Whatever the registers, the flags, the rest of
  -- the state and the data hold, and whatever allowed budget it is given", its run is safe.
  pub safely : (admitted : List ℕ) (C : ℕ) → check_of P admitted C ≡ Ok tt → (memory : Memory) (s : State) → Loaded P admitted C memory s
      → (budget : ℕ) → budget ≤ budget_limit → Safe P (take C admitted) memory s budget

-- Beside it: what the check tells where it refuses.
pub record Tells (P : Processor) : Type 0 where
  pub told : (ram : List ℕ) (C : ℕ) → Means P ram C (check_of P ram C)

-- And how an admitted program goes on from call to call: every run is safe, whatever runs came before.
pub record GoesOn (P : Processor) : Type 0 where
  pub goes_on : (admitted : List ℕ) (C : ℕ) → check_of P admitted C ≡ Ok tt → (memory : Memory) (s : State) → Loaded P admitted C memory s
      → (budgets : List ℕ) (budget : ℕ) → budget ≤ budget_limit
      → Safe P (take C admitted) (after_runs P budgets memory s).memory (after_runs P budgets memory s).state budget
