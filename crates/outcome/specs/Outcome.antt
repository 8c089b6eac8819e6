-- What an instruction tells, and what comes of it.
use Rattle.std.specs.Prelude.{ℕ, ◌%◌, List, slice_set, None, Ok, Err}
use Rattle.answers.specs.declared.Fault.{Fault}
use Rattle.answers.specs.Answers.{End}
use Rattle.answers.specs.declared.Activity.TheVariants as A
use Rattle.gpu_core.specs.declared.Core.{Core}
use Rattle.gpu_core.specs.Core.{moved_of}
use Rattle.gpu_core.specs.Machine.{Memory, Machine, machine_with}

-- What an instruction tells: how it ended, and the core after it.
pub record Moved : Type 0 where
  pub end : End
  pub core : Core

abbrev pub moved_with : End → Core → Moved
moved_with end k = record { end = end; core = k }

-- A fault: "state and RAM […] before the faulty step".
abbrev pub faulted_of : Fault → Core → Moved
faulted_of f k = moved_with (Err f) k

-- A completed instruction with nothing pending after it.
abbrev pub done_of : Core → Moved
done_of k = moved_with (Ok A.Running) (moved_of k None)

-- What comes of an instruction: how it ended, and the machine after it.
pub record Outcome : Type 0 where
  pub end : End
  pub machine : Machine

abbrev pub outcome_with : Moved → List ℕ → List ℕ → Memory → Outcome
outcome_with r active other memory = record { end = r.end; machine = machine_with active other r.core memory }

-- The registers and memory as they were.
abbrev pub unwritten : Machine → Moved → Outcome
unwritten m r = outcome_with r m.active m.other m.memory

-- Register d of the active bank becomes n.
abbrev pub writes : Machine → ℕ → ℕ → Moved → Outcome
writes m d n r = outcome_with r (slice_set m.active (d % 32) n) m.other m.memory
