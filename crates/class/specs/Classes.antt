-- An instruction's class: which of the loading rules' sentences speaks of it.
use Rattle.std.specs.Prelude.{◌*◌, ◌%◌}
use Rattle.isa.specs.declared.Instr.{Instr}
use Rattle.isa.specs.declared.Instr.TheVariants.{Add, Addc, Addq, Addqt, Sub, Subc, Subq, Subqt, Neg, And, Or, Xor, Not, Btst, Bset, Bclr, Mult, Imult, Imultn, Resmac, Imacn, Div, Abs, Sh, Shlq, Shrq, Sha, Sharq, Ror, Rorq, Cmp, Cmpq, Sat8, Sat16, Move, Moveq, Moveta, Movefa, Movei, Load, LoadR14n, LoadR15n, Store, StoreR14n, StoreR15n, MovePc, Jump, Jr, Mtoi, Normi, Nop, LoadR14r, LoadR15r, StoreR14r, StoreR15r, Sat24}
use Rattle.class.specs.declared.Class.{Class}
use Rattle.class.specs.declared.Class.TheVariants as C
use Rattle.class.specs.declared.Address.TheVariants.{At, Offset, Indexed}
use Rattle.field.specs.Fields.{quick_of}

-- "LOAD, STORE: address in a register, or R14 or R15 plus 4 × quick n or plus a register".
-- CMP, CMPQ, BTST, IMULTN, IMACN, NOP and MOVETA write no register of the active bank;
-- what is not named in "Known" is "Any other write to a register".
abbrev pub class_of : Instr → Class
class_of (Add s d) = C.Add s d
class_of (Addc s d) = C.Write d
class_of (Addq q d) = C.AddQuick (quick_of q) d
class_of (Addqt q d) = C.AddQuick (quick_of q) d
class_of (Sub s d) = C.Write d
class_of (Subc s d) = C.Write d
class_of (Subq q d) = C.SubQuick (quick_of q) d
class_of (Subqt q d) = C.SubQuick (quick_of q) d
class_of (Neg d) = C.Write d
class_of (And s d) = C.And s d
class_of (Or s d) = C.Write d
class_of (Xor s d) = C.Write d
class_of (Not d) = C.Write d
class_of (Btst b d) = C.Quiet
class_of (Bset b d) = C.Write d
class_of (Bclr b d) = C.Write d
class_of (Mult s d) = C.Write d
class_of (Imult s d) = C.Write d
class_of (Imultn s d) = C.Quiet
class_of (Resmac d) = C.Write d
class_of (Imacn s d) = C.Quiet
class_of (Div s d) = C.Write d
class_of (Abs d) = C.Write d
class_of (Sh s d) = C.Write d
class_of (Shlq q d) = C.Shlq (quick_of q) d
class_of (Shrq q d) = C.Write d
class_of (Sha s d) = C.Write d
class_of (Sharq q d) = C.Write d
class_of (Ror s d) = C.Write d
class_of (Rorq q d) = C.Write d
class_of (Cmp s d) = C.Quiet
class_of (Cmpq n d) = C.Quiet
class_of (Sat8 d) = C.Write d
class_of (Sat16 d) = C.Write d
class_of (Move s d) = C.Move s d
class_of (Moveq u d) = C.Moveq (u % 32) d
class_of (Moveta s d) = C.Quiet
class_of (Movefa s d) = C.Write d
class_of (Movei d) = C.Movei d
class_of (Load s d) = C.Load (At s) d
class_of (LoadR14n q d) = C.Load (Offset 14 (4 * quick_of q)) d
class_of (LoadR15n q d) = C.Load (Offset 15 (4 * quick_of q)) d
class_of (Store s d) = C.Store (At s) d
class_of (StoreR14n q d) = C.Store (Offset 14 (4 * quick_of q)) d
class_of (StoreR15n q d) = C.Store (Offset 15 (4 * quick_of q)) d
class_of (MovePc d) = C.MovePc d
class_of (Jump s c) = C.Jump s c
class_of (Jr n c) = C.Jr n c
class_of (Mtoi s d) = C.Write d
class_of (Normi s d) = C.Write d
class_of Nop = C.Quiet
class_of (LoadR14r s d) = C.Load (Indexed 14 s) d
class_of (LoadR15r s d) = C.Load (Indexed 15 s) d
class_of (StoreR14r s d) = C.Store (Indexed 14 s) d
class_of (StoreR15r s d) = C.Store (Indexed 15 s) d
class_of (Sat24 d) = C.Write d
