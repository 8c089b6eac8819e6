-- The machine that an instruction changes: the banks with the active one first, the core, and memory.
use Rattle.std.specs.Prelude.{ℕ, cond, List}
use Rattle.values.specs.Results.{is_one}
use Rattle.gpu_core.specs.declared.Core.{Core}

-- "Local RAM is 4,096 lent bytes": all the memory that there is.
pub record Memory : Type 0 where
  pub ram : List ℕ

-- The memory that a caller lends.
abbrev pub lent : List ℕ → Memory
lent ram = record { ram = ram }

-- With local RAM changed.
abbrev pub with_ram : Memory → List ℕ → Memory
with_ram memory ram = record { ram = ram }

pub record Machine : Type 0 where
  pub active : List ℕ
  pub other : List ℕ
  pub core : Core
  pub memory : Memory

-- Of two banks in their order, the one that a core calls active, and the other one.
abbrev pub active_in : List ℕ → List ℕ → Core → List ℕ
active_in bank0 bank1 k = cond (is_one k.bank) bank1 bank0

abbrev pub other_in : List ℕ → List ℕ → Core → List ℕ
other_in bank0 bank1 k = cond (is_one k.bank) bank0 bank1

abbrev pub machine_with : List ℕ → List ℕ → Core → Memory → Machine
machine_with active other core memory = record { active = active; other = other; core = core; memory = memory }
