-- The core of a running machine, that is, its state beside the banks, in numbers; and how it changes.
use Rattle.std.specs.Prelude.{ℕ, ◌+◌, ◌*◌, ◌/◌, ◌%◌, ◌^◌, Option, Some, None}
use Rattle.values.specs.declared.Flags.{Flags}
use Rattle.gpu_core.specs.declared.Core.{Core}

-- How the state block tells a pending jump: a bit, and the target.
abbrev pub waiting_of : Option ℕ → ℕ
waiting_of None = 0
waiting_of (Some t) = 1

abbrev pub target_of : Option ℕ → ℕ
target_of None = 0
target_of (Some t) = t

-- "the next instruction runs, then the counter becomes the target."
abbrev pub counter_of : Option ℕ → ℕ → ℕ
counter_of None pc = (pc + 2) % 2 ^ 32
counter_of (Some t) pc = t

-- After a whole instruction of one word, with p pending.
abbrev pub moved_of : Core → Option ℕ → Core
moved_of k p =
    record { bank = k.bank; flags = k.flags; pc = counter_of k.pending k.pc; pending = p; remainder = k.remainder; mode = k.mode; accumulator = k.accumulator }

-- After a MOVEI, of three words, before which nothing can be pending.
abbrev pub skipped_of : Core → Core
skipped_of k =
    record { bank = k.bank; flags = k.flags; pc = (k.pc + 6) % 2 ^ 32; pending = None; remainder = k.remainder; mode = k.mode; accumulator = k.accumulator }

abbrev pub with_flags : Core → Flags → Core
with_flags k f =
    record { bank = k.bank; flags = f; pc = k.pc; pending = k.pending; remainder = k.remainder; mode = k.mode; accumulator = k.accumulator }

abbrev pub with_remainder : Core → ℕ → Core
with_remainder k v =
    record { bank = k.bank; flags = k.flags; pc = k.pc; pending = k.pending; remainder = v; mode = k.mode; accumulator = k.accumulator }

abbrev pub with_accumulator : Core → ℕ → Core
with_accumulator k v =
    record { bank = k.bank; flags = k.flags; pc = k.pc; pending = k.pending; remainder = k.remainder; mode = k.mode; accumulator = v }

-- "bit 0 of a write becomes the divide mode."
abbrev pub with_mode : Core → ℕ → Core
with_mode k v =
    record { bank = k.bank; flags = k.flags; pc = k.pc; pending = k.pending; remainder = k.remainder; mode = v % 2; accumulator = k.accumulator }

-- "F02100h gives and takes Z, C, N (bits 0, 1, 2) and bank (bit 14), other bits read 0 and are ignored."
abbrev pub flags_in : ℕ → Flags
flags_in v = record { z = v % 2; n = v / 4 % 2; c = v / 2 % 2 }

abbrev pub bank_in : ℕ → ℕ
bank_in v = v / 2 ^ 14 % 2

abbrev pub with_flag_register : Core → ℕ → Core
with_flag_register k v =
    record { bank = bank_in v; flags = flags_in v; pc = k.pc; pending = k.pending; remainder = k.remainder; mode = k.mode; accumulator = k.accumulator }

abbrev pub flag_register_of : Core → ℕ
flag_register_of k = k.flags.z % 2 + 2 * (k.flags.c % 2) + 4 * (k.flags.n % 2) + 2 ^ 14 * (k.bank % 2)
