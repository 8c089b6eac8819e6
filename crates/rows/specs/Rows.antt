-- The rows of paper 01 that are marked p, as one table under one statement, about the definitions that the promises cite.
use Rattle.std.specs.Prelude.{ℕ, ◌≡◌, List, [], ◌∷◌, map, Result, Ok, Err}
use Rattle.answers.specs.declared.Fault.{Fault}
use Rattle.isa.specs.Words.{decode_of}
use Rattle.values.specs.declared.Flags.{Flags}
use Rattle.values.specs.Results.{flags_of}
use Rattle.effect.specs.declared.Effect.{Effect}
use Rattle.effect.specs.declared.Effect.TheVariants as E
use Rattle.effect.specs.Effects.{effect_in}

-- What a row shows of an effect.
pub data Shown : Type 0 where
  -- the register that is written, its value, and Z, N and C after it
  value : ℕ → ℕ → ℕ → ℕ → ℕ → Shown
  -- Z, N and C where no register is written
  flags : ℕ → ℕ → ℕ → Shown
  -- the register that is written, the quotient, and the remainder
  division : ℕ → ℕ → ℕ → Shown
  -- the condition of a jump, and its target
  jump : ℕ → ℕ → Shown
  -- no row is of another effect
  other : Shown

abbrev shown_flags : Flags → Shown
shown_flags f = flags f.z f.n f.c

abbrev shown_value : ℕ → ℕ → Flags → Shown
shown_value d n f = value d n f.z f.n f.c

abbrev pub shown : Result Effect Fault → Shown
shown (Ok (E.Write d r)) = shown_value d r.value (flags_of r)
shown (Ok (E.Flags f)) = shown_flags f
shown (Ok (E.Divide d q)) = division d q.quotient q.remainder
shown (Ok (E.Jump c t)) = jump c t
shown (Err f) = other
shown (Ok E.Nothing) = other
shown (Ok (E.Keep d v)) = other
shown (Ok (E.Product r)) = other
shown (Ok (E.Accumulate v)) = other
shown (Ok (E.ToOther d v)) = other
shown (Ok (E.FromOther s d)) = other
shown (Ok (E.Immediate d)) = other
shown (Ok (E.Counter d)) = other
shown (Ok (E.Load d address)) = other
shown (Ok (E.Store address v)) = other

-- A word at an address, the contents of its source and destination registers, the divide mode, and what comes of it, where C
-- may be the one before.
pub record Row : Type 0 where
  pub word : ℕ
  pub pc : ℕ
  pub s : ℕ
  pub d : ℕ
  pub mode : ℕ
  pub gives : ℕ → Shown

abbrev row : ℕ → ℕ → ℕ → ℕ → (ℕ → Shown) → Row
row word s d mode gives = record { word = word; pc = 0xF0300C; s = s; d = d; mode = mode; gives = gives }

-- The word's effect with these flags and this accumulator before it.
abbrev shown_by : ℕ → ℕ → ℕ → ℕ → Row → Shown
shown_by z n c acc r =
    shown (effect_in (decode_of r.word) [] (record { s = r.s; d = r.d; pc = r.pc; z = z; n = n; c = c; acc = acc; mode = r.mode }))

abbrev pub rows : List Row
rows =
    -- ABS 80000000h: unchanged, N, C
    row 0x5801 0 0x80000000 0 (λ c. value 1 0x80000000 0 1 1) ∷
    -- FFFFFFFFh ADD 1: 0, Z, C
    row 0x0041 1 0xFFFFFFFF 0 (λ c. value 1 0 1 0 1) ∷
    -- CMPQ field 31 with FFFFFFFFh: Z, no C
    row 0x7FE1 0 0xFFFFFFFF 0 (λ c. flags 1 0 0) ∷
    -- NEG 0: 0, Z, no C
    row 0x2001 0 0 0 (λ c. value 1 0 1 0 0) ∷
    -- NEG 1: FFFFFFFFh, N, C
    row 0x2001 0 1 0 (λ c. value 1 0xFFFFFFFF 0 1 1) ∷
    -- ADDQ field 0 to 0: 32
    row 0x0801 0 0 0 (λ c. value 1 32 0 0 0) ∷
    -- IMULT 8000h by 2: FFFF0000h, N
    row 0x4441 2 0x8000 0 (λ c. value 1 0xFFFF0000 0 1 c) ∷
    -- MULT: 10000h
    row 0x4041 2 0x8000 0 (λ c. value 1 0x10000 0 0 c) ∷
    -- DIV 7 by 2: 3, remainder 1
    row 0x5441 2 7 0 (λ c. division 1 3 1) ∷
    -- mode 1: 38000h, remainder 0
    row 0x5441 2 7 1 (λ c. division 1 0x38000 0) ∷
    -- SAT8 of 256: 255
    row 0x8001 0 256 0 (λ c. value 1 255 0 0 c) ∷
    -- of FFFFFFFFh: 0, Z
    row 0x8001 0 0xFFFFFFFF 0 (λ c. value 1 0 1 0 c) ∷
    -- NORMI of 1: −22
    row 0xE041 1 0 0 (λ c. value 1 0xFFFFFFEA 0 1 c) ∷
    -- of 400000h: 0
    row 0xE041 0x400000 0 0 (λ c. value 1 0 1 0 c) ∷
    -- of 80000000h: 9
    row 0xE041 0x80000000 0 0 (λ c. value 1 9 0 0 c) ∷
    -- MTOI of BFC00000h: FFC00000h, N
    row 0xDC41 0xBFC00000 0 0 (λ c. value 1 0xFFC00000 0 1 c) ∷
    -- SHLQ field 4 on 1: 16
    row 0x6081 0 1 0 (λ c. value 1 16 0 0 0) ∷
    -- word D7E0h at F0300Ch: target F0300Ch
    row 0xD7E0 0 0 0 (λ c. jump 0 0xF0300C) ∷ []

-- "a single table under a single statement": each row holds whatever the flags and the accumulator were.
unfoldable pub RowsHold : Type 0
RowsHold = (z n c acc : ℕ) → map (shown_by z n c acc) rows ≡ map (λ r. r.gives c) rows
