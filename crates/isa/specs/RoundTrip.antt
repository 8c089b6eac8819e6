-- Decoding and encoding undo each other.
use Rattle.std.specs.Prelude.{ℕ, ◌/◌, ◌%◌, ◌<◌, ◌≡◌, Bool, eqb, Result, Ok, is_ok}
use Rattle.isa.specs.declared.Instr.{Instr}
use Rattle.answers.specs.declared.Fault.{Fault}
use Rattle.isa.specs.Table.{form_of}
use Rattle.isa.specs.Words.{encode_of, decode_of, source_in, destination_in, built}

-- The words that 01 calls built.
abbrev pub built_word : ℕ → Bool
built_word w = built (w / 1024) (eqb (w / 32 % 32) 0) (eqb (w % 32) 0)

abbrev pub is_decoded : Result Instr Fault → Bool
is_decoded r = is_ok r

-- Every operand is a field of five bits.
abbrev pub WellFormed : Instr → Type 0
WellFormed i = (source_in (form_of i) < 32) × (destination_in (form_of i) < 32)

-- What holds of r, the decoding of w: exactly the words that 01 calls built decode,
-- and every built word decodes to a well-formed instruction that encodes to that same word.
pub record Decodes (w : ℕ) (r : Result Instr Fault) : Type 0 where
  pub is_built : is_decoded r ≡ built_word w
  pub back : (i : Instr) → r ≡ Ok i → WellFormed i × (encode_of i ≡ w)

-- What holds of w, the encoding of i: a well-formed instruction encodes to a built word that decodes to it.
pub record Encodes (i : Instr) (w : ℕ) : Type 0 where
  pub back : WellFormed i → decode_of w ≡ Ok i
