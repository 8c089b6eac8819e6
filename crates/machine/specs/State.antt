-- The state by value: its flag setters, and the machine that the definitions of an instruction are over.
use Rattle.std.specs.Prelude.{ℕ, Bool, false, cond, List, replicate, None}
use Rattle.values.specs.Results.{bit_of, is_one}
use Rattle.processor.specs.Processor.{Processor}
use Rattle.gpu_core.specs.declared.Core.{Core}
use Rattle.answers.specs.declared.Activity.{Activity}
use Rattle.answers.specs.declared.Activity.TheVariants.{Running}
use Rattle.gpu_core.specs.Machine.{Memory, Machine, active_in, other_in, machine_with}
use Rattle.gpu_core.specs.Types.{IsBank, IsCore}
use Rattle.machine.specs.declared.State.{State}

-- The setters of the flags.
abbrev pub with_z : State → Bool → State
with_z s on =
    record { bank0 = s.bank0; bank1 = s.bank1; second = s.second; z = on; n = s.n; c = s.c; pc = s.pc; pending = s.pending; remainder = s.remainder; mode = s.mode; accumulator = s.accumulator; activity = s.activity }

abbrev pub with_n : State → Bool → State
with_n s on =
    record { bank0 = s.bank0; bank1 = s.bank1; second = s.second; z = s.z; n = on; c = s.c; pc = s.pc; pending = s.pending; remainder = s.remainder; mode = s.mode; accumulator = s.accumulator; activity = s.activity }

abbrev pub with_c : State → Bool → State
with_c s on =
    record { bank0 = s.bank0; bank1 = s.bank1; second = s.second; z = s.z; n = s.n; c = on; pc = s.pc; pending = s.pending; remainder = s.remainder; mode = s.mode; accumulator = s.accumulator; activity = s.activity }

-- The core, where true is the bit 1; and a state of two banks, a core and whether it runs.
abbrev pub core_of : State → Core
core_of s =
    record { bank = bit_of s.second; flags = record { z = bit_of s.z; n = bit_of s.n; c = bit_of s.c }; pc = s.pc; pending = s.pending; remainder = s.remainder; mode = bit_of s.mode; accumulator = s.accumulator }

abbrev pub state_with : List ℕ → List ℕ → Core → Activity → State
state_with bank0 bank1 k activity =
    record { bank0 = bank0; bank1 = bank1; second = is_one k.bank; z = is_one k.flags.z; n = is_one k.flags.n; c = is_one k.flags.c; pc = k.pc; pending = k.pending; remainder = k.remainder; mode = is_one k.mode; accumulator = k.accumulator; activity = activity }

-- The machine of a state, with the active bank first, and back in the banks' order.
abbrev pub machine_of : State → Memory → Machine
machine_of s memory =
    machine_with (active_in s.bank0 s.bank1 (core_of s)) (other_in s.bank0 s.bank1 (core_of s)) (core_of s) memory

abbrev pub state_of : Activity → Machine → State
state_of activity m =
    state_with (cond (is_one m.core.bank) m.other m.active) (cond (is_one m.core.bank) m.active m.other) m.core activity

-- The start of the run program: "starts at F03000h, running, all else zero".
abbrev pub start_state : Processor → State
start_state P =
    record { bank0 = replicate 32 0; bank1 = replicate 32 0; second = false; z = false; n = false; c = false; pc = P.base; pending = None; remainder = 0; mode = false; accumulator = 0; activity = Running }

-- What every state has: 32 registers in each bank, and numbers of 32 bits.
pub record IsState (s : State) : Type 0 where
  pub first_bank : IsBank s.bank0
  pub second_bank : IsBank s.bank1
  pub core_typed : IsCore (core_of s)
