-- What holds of every memory, bank and core that a run meets: bytes below 256, 32 registers in a bank, numbers of 32 bits, and bits. The
-- types give it of what is lent and of a state, and every instruction keeps it.
use Rattle.std.specs.Prelude.{◌≡◌, ℕ, ◌^◌, ◌<◌, List, length, slice_index, Option, Some, None}
use Rattle.values.specs.Results.{IsFlags}
use Rattle.gpu_core.specs.declared.Core.{Core}
use Rattle.gpu_core.specs.Machine.{Memory, Machine}

-- Every element is below m.
abbrev pub Below : ℕ → List ℕ → Type 0
Below m l = (i : ℕ) → slice_index l i < m

pub record IsBytes (l : List ℕ) : Type 0 where
  pub bytes : Below 256 l

pub record IsBank (bank : List ℕ) : Type 0 where
  pub registers : length bank ≡ 32
  pub words : Below (2 ^ 32) bank

abbrev pub IsPending : Option ℕ → Type 0
IsPending None = Unit {0}
IsPending (Some t) = t < 2 ^ 32

pub record IsCore (k : Core) : Type 0 where
  pub bank_bit : k.bank < 2
  pub flag_bits : IsFlags k.flags
  pub pc_word : k.pc < 2 ^ 32
  pub pending_word : IsPending k.pending
  pub remainder_word : k.remainder < 2 ^ 32
  pub mode_bit : k.mode < 2
  pub accumulator_word : k.accumulator < 2 ^ 32

-- Memory holds bytes; and it is that of a processor with so many bytes of local RAM.
pub record HoldsBytes (m : Memory) : Type 0 where
  pub ram_bytes : IsBytes m.ram

pub record IsMemory (size : ℕ) (m : Memory) : Type 0 where
  pub whole : length m.ram ≡ size
  pub bytes : HoldsBytes m

pub record IsMachine (size : ℕ) (m : Machine) : Type 0 where
  pub active_bank : IsBank m.active
  pub other_bank : IsBank m.other
  pub core_typed : IsCore m.core
  pub memory_typed : IsMemory size m.memory
