-- Instruction words: "Six bits opcode, five source, five destination".
use Rattle.std.specs.Prelude.{ℕ, ◌+◌, ◌*◌, ◌/◌, ◌%◌, Bool, false, not, cond, ◌&&◌, ◌||◌, List, [], ◌∷◌, eqb, ltb, Result, Ok, Err}
use Rattle.isa.specs.declared.Instr.{Instr}
use Rattle.isa.specs.declared.Instr.TheVariants.{Nop}
use Rattle.answers.specs.declared.Fault.{Fault}
use Rattle.answers.specs.declared.Fault.TheVariants.{NotBuilt}
use Rattle.isa.specs.declared.form.Form.{Form}
use Rattle.isa.specs.declared.form.Form.TheVariants.{Two, One, Implied}
use Rattle.isa.specs.Table.{form_of, instructions}

-- The three fields of a form; a field that is no operand is zero.
abbrev pub opcode_in : Form → ℕ
opcode_in (Two op s d) = op
opcode_in (One op d) = op
opcode_in (Implied op) = op

abbrev pub source_in : Form → ℕ
source_in (Two op s d) = s
source_in (One op d) = 0
source_in (Implied op) = 0

abbrev pub destination_in : Form → ℕ
destination_in (Two op s d) = d
destination_in (One op d) = d
destination_in (Implied op) = 0

-- The word of three fields. A number too large for its field counts by its low bits.
abbrev pub word_of : ℕ → ℕ → ℕ → ℕ
word_of op s d = op % 64 * 1024 + s % 32 * 32 + d % 32

abbrev pub word_in : Form → ℕ
word_in f = word_of (opcode_in f) (source_in f) (destination_in f)

-- The word that an instruction is.
abbrev pub encode_of : Instr → ℕ
encode_of i = word_in (form_of i)

abbrev pub one_of : ℕ → List ℕ → Bool
one_of n [] = false
one_of n (m ∷ ms) = eqb n m || one_of n ms

-- "Opcodes 39, 40, 42, 45, 46, 48, 54 and 63 are not built."
abbrev pub unbuilt_opcodes : List ℕ
unbuilt_opcodes = 39 ∷ 40 ∷ 42 ∷ 45 ∷ 46 ∷ 48 ∷ 54 ∷ 63 ∷ []

-- "The source field must be zero for 8, 12, 19, 22, 32, 33, 38, 51 and 62"
abbrev pub sourceless_opcodes : List ℕ
sourceless_opcodes = 8 ∷ 12 ∷ 19 ∷ 22 ∷ 32 ∷ 33 ∷ 38 ∷ 51 ∷ 62 ∷ []

-- Whether an opcode, of six bits, is built with fields that are zero or not:
-- "and all ten bits for 57; else the word is not built (ruled)."
abbrev pub built : ℕ → Bool → Bool → Bool
built op no_source no_destination =
    ltb op 64 && not (one_of op unbuilt_opcodes) && (not (one_of op sourceless_opcodes) || no_source) && (not (eqb op 57) || (no_source && no_destination))

-- The instruction of a list that has the opcode; a NOP where none has, as at no built word.
abbrev pub among : ℕ → List Instr → Instr
among op [] = Nop
among op (i ∷ is) = cond (eqb (opcode_in (form_of i)) op) i (among op is)

unfoldable pub instruction_at : ℕ → ℕ → ℕ → Instr
instruction_at op s d = among op (instructions s d)

-- "word not built"
abbrev pub no_instruction : Result Instr Fault
no_instruction = Err NotBuilt

-- What three fields are.
unfoldable pub decoded_at : ℕ → ℕ → ℕ → Result Instr Fault
decoded_at op s d = cond (built op (eqb s 0) (eqb d 0)) (Ok (instruction_at op s d)) no_instruction

-- The instruction that a word is, if it is built.
abbrev pub decode_of : ℕ → Result Instr Fault
decode_of w = decoded_at (w / 1024) (w / 32 % 32) (w % 32)
