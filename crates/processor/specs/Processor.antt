-- What differs between processors: constants and the decoding of a word, in a record that the definitions of the machine and of the check are over.
use Rattle.std.specs.Prelude.{◌≡◌, ℕ, ◌+◌, ◌/◌, ◌%◌, ◌^◌, ◌<◌, ◌≤◌, Result, Ok}
use Rattle.isa.specs.declared.Instr.{Instr}
use Rattle.answers.specs.declared.Fault.{Fault}
use Rattle.isa.specs.Table.{instructions}
use Rattle.isa.specs.Words.{among, decode_of}

pub record Processor : Type 0 where
  -- local RAM: its first address, and how many bytes it has
  pub base : ℕ
  pub size : ℕ
  -- the built chip registers: flags, control, and remainder or divide mode
  pub flags : ℕ
  pub control : ℕ
  pub divide : ℕ
  -- the instruction that a word is, if it is built
  pub decode : ℕ → Result Instr Fault

-- "Local RAM is 4,096 lent bytes at F03000h to F03FFFh"; "F02100h gives and takes Z, C, N […] and bank";
-- "F02114h reads 2001h"; "F0211Ch reads the remainder".
abbrev pub gpu : Processor
gpu =
    record { base = 0xF03000; size = 4096; flags = 0xF02100; control = 0xF02114; divide = 0xF0211C; decode = decode_of }

-- An instruction of the table, with the fields of a word as its operands.
pub record Listed (w : ℕ) (i : Instr) : Type 0 where
  pub opcode : ℕ
  pub is : i ≡ among opcode (instructions (w / 32 % 32) (w % 32))

-- What the proofs ask of such a record: RAM begins and ends at a multiple of 4, below 2^32, the built registers lie below it, and a
-- word is decoded by its fields.
pub record Sound (P : Processor) : Type 0 where
  pub base_aligned : P.base % 4 ≡ 0
  pub size_aligned : P.size % 4 ≡ 0
  pub top : P.base + P.size ≤ 2 ^ 32
  pub flags_below : P.flags < P.base
  pub control_below : P.control < P.base
  pub divide_below : P.divide < P.base
  pub decodes : (w : ℕ) (i : Instr) → P.decode w ≡ Ok i → Listed w i
