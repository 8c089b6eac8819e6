-- What each instruction does, from what it reads: one line an instruction, in the order of the opcodes.
-- In a JR or a JUMP the destination field is the condition; in a STORE it names the register that is stored.
use Rattle.std.specs.Prelude.{ℕ, ◌+◌, ◌*◌, ◌%◌, ◌^◌, List, slice_index, Result, Ok, Err}
use Rattle.isa.specs.declared.Instr.{Instr}
use Rattle.isa.specs.declared.Instr.TheVariants.{Add, Addc, Addq, Addqt, Sub, Subc, Subq, Subqt, Neg, And, Or, Xor, Not, Btst, Bset, Bclr, Mult, Imult, Imultn, Resmac, Imacn, Div, Abs, Sh, Shlq, Shrq, Sha, Sharq, Ror, Rorq, Cmp, Cmpq, Sat8, Sat16, Move, Moveq, Moveta, Movefa, Movei, Load, LoadR14n, LoadR15n, Store, StoreR14n, StoreR15n, MovePc, Jump, Jr, Mtoi, Normi, Nop, LoadR14r, LoadR15r, StoreR14r, StoreR15r, Sat24}
use Rattle.answers.specs.declared.Fault.{Fault}
use Rattle.field.specs.Fields.{quick_of, signed_field_of}
use Rattle.values.specs.declared.Flags.{Flags}
use Rattle.alu.specs.Add.{add_of, addc_of, sub_of, subc_of, neg_of, abs_of, cmp_of, cmpq_of}
use Rattle.alu.specs.Logic.{and_of, or_of, xor_of, not_of, btst_of, bset_of, bclr_of}
use Rattle.branch.specs.Jump.{jr_target_of}
use Rattle.multiplier.specs.Multiply.{mult_of, imult_of, imacn_of}
use Rattle.multiplier.specs.Divide.{div_of}
use Rattle.shifter.specs.Shift.{left_of, right_of, right_signed_of, shift_of, rotate_of}
use Rattle.shifter.specs.Saturate.{sat8_of, sat16_of, sat24_of}
use Rattle.shifter.specs.Normalise.{mtoi_of, normi_of}
use Rattle.effect.specs.declared.Operands.{Operands}
use Rattle.effect.specs.declared.Effect.{Effect}
use Rattle.effect.specs.declared.Effect.TheVariants as E
use Rattle.effect.specs.declared.Effect.TheVariants.{Nothing, Write, Keep, Divide, Product, Accumulate, ToOther, FromOther, Immediate, Counter}

abbrev pub operand_flags : Operands → Flags
operand_flags x = record { z = x.z; n = x.n; c = x.c }

-- "address in a register, or R14 or R15 plus 4 × quick n or plus a register, modulo 2^32"
abbrev pub address_of : List ℕ → ℕ → ℕ → ℕ
address_of a base offset = (slice_index a base + offset) % 2 ^ 32

-- The active bank a is told beside the operands, as an address may rest on R14 or R15.
abbrev pub effect_of : Instr → List ℕ → Operands → Effect
effect_of (Add s d) a x = Write d (add_of x.d x.s)
effect_of (Addc s d) a x = Write d (addc_of x.d x.s x.c)
effect_of (Addq q d) a x = Write d (add_of x.d (quick_of q))
effect_of (Addqt q d) a x = Keep d (add_of x.d (quick_of q)).value
effect_of (Sub s d) a x = Write d (sub_of x.d x.s)
effect_of (Subc s d) a x = Write d (subc_of x.d x.s x.c)
effect_of (Subq q d) a x = Write d (sub_of x.d (quick_of q))
effect_of (Subqt q d) a x = Keep d (sub_of x.d (quick_of q)).value
effect_of (Neg d) a x = Write d (neg_of x.d)
effect_of (And s d) a x = Write d (and_of x.d x.s x.c)
effect_of (Or s d) a x = Write d (or_of x.d x.s x.c)
effect_of (Xor s d) a x = Write d (xor_of x.d x.s x.c)
effect_of (Not d) a x = Write d (not_of x.d x.c)
effect_of (Btst b d) a x = E.Flags (btst_of x.d b (operand_flags x))
effect_of (Bset b d) a x = Write d (bset_of x.d b x.c)
effect_of (Bclr b d) a x = Write d (bclr_of x.d b x.c)
effect_of (Mult s d) a x = Write d (mult_of x.d x.s x.c)
effect_of (Imult s d) a x = Write d (imult_of x.d x.s x.c)
effect_of (Imultn s d) a x = Product (imult_of x.d x.s x.c)
effect_of (Resmac d) a x = Keep d x.acc
effect_of (Imacn s d) a x = Accumulate (imacn_of x.acc x.d x.s)
effect_of (Div s d) a x = Divide d (div_of x.d x.s x.mode)
effect_of (Abs d) a x = Write d (abs_of x.d)
effect_of (Sh s d) a x = Write d (shift_of right_of x.d x.s)
effect_of (Shlq q d) a x = Write d (left_of x.d (quick_of q))
effect_of (Shrq q d) a x = Write d (right_of x.d (quick_of q))
effect_of (Sha s d) a x = Write d (shift_of right_signed_of x.d x.s)
effect_of (Sharq q d) a x = Write d (right_signed_of x.d (quick_of q))
effect_of (Ror s d) a x = Write d (rotate_of x.d x.s)
effect_of (Rorq q d) a x = Write d (rotate_of x.d (quick_of q))
effect_of (Cmp s d) a x = E.Flags (cmp_of x.d x.s)
effect_of (Cmpq n d) a x = E.Flags (cmpq_of x.d (signed_field_of n))
effect_of (Sat8 d) a x = Write d (sat8_of x.d x.c)
effect_of (Sat16 d) a x = Write d (sat16_of x.d x.c)
effect_of (Move s d) a x = Keep d x.s
effect_of (Moveq u d) a x = Keep d (u % 32)
effect_of (Moveta s d) a x = ToOther d x.s
effect_of (Movefa s d) a x = FromOther s d
effect_of (Movei d) a x = Immediate d
effect_of (Load s d) a x = E.Load d x.s
effect_of (LoadR14n q d) a x = E.Load d (address_of a 14 (4 * quick_of q))
effect_of (LoadR15n q d) a x = E.Load d (address_of a 15 (4 * quick_of q))
effect_of (Store s d) a x = E.Store x.s x.d
effect_of (StoreR14n q d) a x = E.Store (address_of a 14 (4 * quick_of q)) x.d
effect_of (StoreR15n q d) a x = E.Store (address_of a 15 (4 * quick_of q)) x.d
effect_of (MovePc d) a x = Counter d
effect_of (Jump s c) a x = E.Jump c x.s
effect_of (Jr n c) a x = E.Jump c (jr_target_of x.pc (signed_field_of n))
effect_of (Mtoi s d) a x = Write d (mtoi_of x.s x.c)
effect_of (Normi s d) a x = Write d (normi_of x.s x.c)
effect_of Nop a x = Nothing
effect_of (LoadR14r s d) a x = E.Load d (address_of a 14 x.s)
effect_of (LoadR15r s d) a x = E.Load d (address_of a 15 x.s)
effect_of (StoreR14r s d) a x = E.Store (address_of a 14 x.s) x.d
effect_of (StoreR15r s d) a x = E.Store (address_of a 15 x.s) x.d
effect_of (Sat24 d) a x = Write d (sat24_of x.d x.c)

-- Of a word that is an instruction, or of one that is none, as is opcode 57 where "all ten bits for 57" are not zero.
abbrev pub effect_in : Result Instr Fault → List ℕ → Operands → Result Effect Fault
effect_in (Ok i) a x = Ok (effect_of i a x)
effect_in (Err f) a x = Err f
