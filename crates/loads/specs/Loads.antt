-- What a register receives: what a MOVEI, a MOVE PC or a LOAD finds.
use Rattle.std.specs.Prelude.{ℕ, Option, Some, None, Result, Ok, Err}
use Rattle.processor.specs.Processor.{Processor}
use Rattle.memory.specs.Memory.{long_at, immediate_of}
use Rattle.places.specs.declared.Place.{Place}
use Rattle.places.specs.declared.Place.TheVariants as M
use Rattle.answers.specs.declared.Fault.{Fault}
use Rattle.answers.specs.declared.Fault.TheVariants.{JumpPending}
use Rattle.gpu_core.specs.declared.Core.{Core}
use Rattle.gpu_core.specs.Core.{flag_register_of}
use Rattle.gpu_core.specs.Machine.{Memory}

-- What a MOVEI reads, the long behind it, unless a jump is pending.
abbrev pub immediate_in : Processor → Core → Memory → Option ℕ → Result ℕ Fault
immediate_in P k memory (Some t) = Err JumpPending
immediate_in P k memory None = immediate_of P memory.ram k.pc

-- "MOVE PC gives its own address (ruled).", with the same exception.
abbrev pub counter_in : Core → Option ℕ → Result ℕ Fault
counter_in k (Some t) = Err JumpPending
counter_in k None = Ok k.pc

-- What a LOAD finds: "F02114h reads 2001h", "F0211Ch reads the remainder".
abbrev pub load_of : Core → Memory → Result Place Fault → Result ℕ Fault
load_of k memory (Ok (M.Ram at)) = Ok (long_at memory.ram at)
load_of k memory (Ok M.Flags) = Ok (flag_register_of k)
load_of k memory (Ok M.Control) = Ok 0x2001
load_of k memory (Ok M.Divide) = Ok k.remainder
load_of k memory (Err f) = Err f
