-- The opcode table (001, section 5.0): the one place where an opcode's number stands. Decoding and encoding are both read off it.
use Rattle.std.specs.Prelude.{ℕ, List, [], ◌∷◌}
use Rattle.isa.specs.declared.Instr.{Instr}
use Rattle.isa.specs.declared.Instr.TheVariants.{Add, Addc, Addq, Addqt, Sub, Subc, Subq, Subqt, Neg, And, Or, Xor, Not, Btst, Bset, Bclr, Mult, Imult, Imultn, Resmac, Imacn, Div, Abs, Sh, Shlq, Shrq, Sha, Sharq, Ror, Rorq, Cmp, Cmpq, Sat8, Sat16, Move, Moveq, Moveta, Movefa, Movei, Load, LoadR14n, LoadR15n, Store, StoreR14n, StoreR15n, MovePc, Jump, Jr, Mtoi, Normi, Nop, LoadR14r, LoadR15r, StoreR14r, StoreR15r, Sat24}
use Rattle.isa.specs.declared.form.Form.{Form}
use Rattle.isa.specs.declared.form.Form.TheVariants.{Two, One, Implied}

-- A row for each built instruction, in the order of the opcodes: the opcode, then the operands in the order of the word's fields.
-- "Opcodes 39, 40, 42, 45, 46, 48, 54 and 63 are not built": they have no row.
-- "The source field must be zero for 8, 12, 19, 22, 32, 33, 38, 51 and 62, and all ten bits for 57": rows One and Implied.
abbrev pub form_of : Instr → Form
form_of (Add s d) = Two 0 s d
form_of (Addc s d) = Two 1 s d
form_of (Addq q d) = Two 2 q d
form_of (Addqt q d) = Two 3 q d
form_of (Sub s d) = Two 4 s d
form_of (Subc s d) = Two 5 s d
form_of (Subq q d) = Two 6 q d
form_of (Subqt q d) = Two 7 q d
form_of (Neg d) = One 8 d
form_of (And s d) = Two 9 s d
form_of (Or s d) = Two 10 s d
form_of (Xor s d) = Two 11 s d
form_of (Not d) = One 12 d
form_of (Btst b d) = Two 13 b d
form_of (Bset b d) = Two 14 b d
form_of (Bclr b d) = Two 15 b d
form_of (Mult s d) = Two 16 s d
form_of (Imult s d) = Two 17 s d
form_of (Imultn s d) = Two 18 s d
form_of (Resmac d) = One 19 d
form_of (Imacn s d) = Two 20 s d
form_of (Div s d) = Two 21 s d
form_of (Abs d) = One 22 d
form_of (Sh s d) = Two 23 s d
form_of (Shlq q d) = Two 24 q d
form_of (Shrq q d) = Two 25 q d
form_of (Sha s d) = Two 26 s d
form_of (Sharq q d) = Two 27 q d
form_of (Ror s d) = Two 28 s d
form_of (Rorq q d) = Two 29 q d
form_of (Cmp s d) = Two 30 s d
form_of (Cmpq n d) = Two 31 n d
form_of (Sat8 d) = One 32 d
form_of (Sat16 d) = One 33 d
form_of (Move s d) = Two 34 s d
form_of (Moveq u d) = Two 35 u d
form_of (Moveta s d) = Two 36 s d
form_of (Movefa s d) = Two 37 s d
form_of (Movei d) = One 38 d
form_of (Load s d) = Two 41 s d
form_of (LoadR14n q d) = Two 43 q d
form_of (LoadR15n q d) = Two 44 q d
form_of (Store s d) = Two 47 s d
form_of (StoreR14n q d) = Two 49 q d
form_of (StoreR15n q d) = Two 50 q d
form_of (MovePc d) = One 51 d
form_of (Jump s c) = Two 52 s c
form_of (Jr n c) = Two 53 n c
form_of (Mtoi s d) = Two 55 s d
form_of (Normi s d) = Two 56 s d
form_of Nop = Implied 57
form_of (LoadR14r s d) = Two 58 s d
form_of (LoadR15r s d) = Two 59 s d
form_of (StoreR14r s d) = Two 60 s d
form_of (StoreR15r s d) = Two 61 s d
form_of (Sat24 d) = One 62 d

-- The instructions with the fields s and d as operands, each once: all that a word with these fields can stand for.
abbrev pub instructions : ℕ → ℕ → List Instr
instructions s d =
    Add s d ∷ Addc s d ∷ Addq s d ∷ Addqt s d ∷ Sub s d ∷ Subc s d ∷ Subq s d ∷ Subqt s d ∷ Neg d ∷ And s d ∷ Or s d ∷ Xor s d ∷ Not d ∷ Btst s d ∷ Bset s d ∷ Bclr s d ∷ Mult s d ∷ Imult s d ∷ Imultn s d ∷ Resmac d ∷ Imacn s d ∷ Div s d ∷ Abs d ∷ Sh s d ∷ Shlq s d ∷ Shrq s d ∷ Sha s d ∷ Sharq s d ∷ Ror s d ∷ Rorq s d ∷ Cmp s d ∷ Cmpq s d ∷ Sat8 d ∷ Sat16 d ∷ Move s d ∷ Moveq s d ∷ Moveta s d ∷ Movefa s d ∷ Movei d ∷ Load s d ∷ LoadR14n s d ∷ LoadR15n s d ∷ Store s d ∷ StoreR14n s d ∷ StoreR15n s d ∷ MovePc d ∷ Jump s d ∷ Jr s d ∷ Mtoi s d ∷ Normi s d ∷ Nop ∷ LoadR14r s d ∷ LoadR15r s d ∷ StoreR14r s d ∷ StoreR15r s d ∷ Sat24 d ∷ []
