-- What stands at an offset of the code, and what the loading rules ask of it.
use Rattle.std.specs.Prelude.{ℕ, ◌+◌, ◌*◌, ◌^◌, Bool, true, false, List, eqb, Option, Some, None, is_some, Result, Ok, Err}
use Rattle.answers.specs.declared.Fault.{Fault}
use Rattle.isa.specs.declared.Instr.{Instr}
use Rattle.class.specs.declared.Class.{Class}
use Rattle.class.specs.declared.Class.TheVariants as C
use Rattle.class.specs.Classes.{class_of}
use Rattle.items.specs.declared.Item.{Item}
use Rattle.items.specs.declared.Shape.{Shape}
use Rattle.items.specs.declared.Shape.TheVariants.{Other, Movei, MovePc, Jr, Jump, Load, Store}
use Rattle.processor.specs.Processor.{Processor}
use Rattle.memory.specs.Memory.{word_at}

-- An instruction of a class, with the long behind it.
abbrev pub built : Class → ℕ → Option Item
built c v = Some (record { class = c; long = v })

-- What a decoded word is, with the long behind it; and what stands at an offset.
abbrev pub item_in : Result Instr Fault → ℕ → Option Item
item_in (Ok i) long = built (class_of i) long
item_in (Err f) long = None

-- "MOVEI is followed by the low word, then the high word."
unfoldable pub item_of : Processor → List ℕ → ℕ → Option Item
item_of P code i = item_in (P.decode (word_at code i)) (word_at code (i + 4) * 2 ^ 16 + word_at code (i + 2))

-- What rules 2 to 6 ask of it: its shape, and its length in bytes.
abbrev pub shape_in : Class → ℕ → Shape
shape_in (C.Movei d) v = Movei d v
shape_in (C.MovePc d) v = MovePc
shape_in (C.Jr n c) v = Jr n c
shape_in (C.Jump s c) v = Jump s c
shape_in (C.Load m d) v = Load m
shape_in (C.Store m d) v = Store m
shape_in _ v = Other

abbrev pub shape_of : Option Item → Shape
shape_of None = Other
shape_of (Some i) = shape_in i.class i.long

abbrev pub bytes_of : Shape → ℕ
bytes_of (Movei d v) = 6
bytes_of _ = 2

-- What rule 1 asks of it.
abbrev pub is_built : Option Item → Bool
is_built t = is_some t

-- a JR or JUMP
abbrev pub is_jump : Shape → Bool
is_jump (Jr n c) = true
is_jump (Jump r c) = true
is_jump _ = false

-- rule 5's "JR or JUMP with condition 0"
abbrev pub always : Shape → Bool
always (Jr n c) = eqb c 0
always (Jump r c) = eqb c 0
always _ = false

-- What tells how it changes the ranges of rule 6: its class, where what is not built changes nothing, and its long.
abbrev pub class_in : Option Item → Class
class_in None = C.Quiet
class_in (Some i) = i.class

abbrev pub long_in : Option Item → ℕ
long_in None = 0
long_in (Some i) = i.long
