-- What comes of a STORE.
use Rattle.std.specs.Prelude.{ℕ, ◌%◌, Bool, cond, ◌==◌, None, Result, Ok, Err}
use Rattle.memory.specs.Memory.{put_long}
use Rattle.places.specs.declared.Place.{Place}
use Rattle.places.specs.declared.Place.TheVariants as M
use Rattle.answers.specs.declared.Fault.{Fault}
use Rattle.answers.specs.declared.Activity.TheVariants as A
use Rattle.gpu_core.specs.declared.Core.{Core}
use Rattle.gpu_core.specs.Core.{moved_of, with_mode, with_flag_register, bank_in}
use Rattle.gpu_core.specs.Machine.{with_ram, Machine}
use Rattle.outcome.specs.Outcome.{Moved, moved_with, faulted_of, done_of, Outcome, outcome_with, unwritten}

-- Whether a write to the flag register keeps the active bank.
abbrev pub same_bank : Core → ℕ → Bool
same_bank k n = k.bank % 2 == bank_in n

-- "a write with bit 0 zero stops the machine after that step."
abbrev pub control_of : Core → ℕ → Moved
control_of k n = moved_with (cond (n % 2 == 0) (Ok A.Stopped) (Ok A.Running)) (moved_of k None)

-- "After any of these writes the completed step still moves the counter."
abbrev pub store_of : Machine → ℕ → Result Place Fault → Outcome
store_of m n (Ok (M.Ram at)) =
    outcome_with (done_of m.core) m.active m.other (with_ram m.memory (put_long m.memory.ram at n))
store_of m n (Ok M.Flags) =
    outcome_with (done_of (with_flag_register m.core n)) (cond (same_bank m.core n) m.active m.other) (cond (same_bank m.core n) m.other m.active) m.memory
store_of m n (Ok M.Control) = unwritten m (control_of m.core n)
store_of m n (Ok M.Divide) = unwritten m (done_of (with_mode m.core n))
store_of m n (Err f) = unwritten m (faulted_of f m.core)
