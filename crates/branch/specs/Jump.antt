-- Jumps: the condition and JR's target.
use Rattle.std.specs.Prelude.{ℕ, ◌+◌, ◌*◌, ◌/◌, ◌%◌, ◌^◌, Bool, false, cond, eqb, ℤ}
use Rattle.values.specs.declared.Flags.{Flags}
use Rattle.values.specs.Signed.{unsigned_of}

-- "the chosen flag is N if bit 4 is one, else C."
abbrev pub chosen_of : ℕ → Flags → ℕ
chosen_of bits f = cond (eqb (bits / 16 % 2) 1) f.n f.c

-- Two condition bits of one flag: the first needs it clear, the second needs it set. A bit that is zero asks nothing.
abbrev pub met_of : ℕ → ℕ → ℕ → Bool
met_of clear set flag = cond (eqb flag 1) (eqb clear 0) (eqb set 0)

-- "Condition bits: 0 needs Z clear, 1 needs Z set, 2 needs the chosen flag clear, 3 needs it set": all that are asked together.
unfoldable pub taken_of : ℕ → Flags → Bool
taken_of bits f =
    cond (met_of (bits % 2) (bits / 2 % 2) f.z) (met_of (bits / 4 % 2) (bits / 8 % 2) (chosen_of bits f)) false

-- "JR: target = own address + 2 + 2 × signed field."
abbrev pub jr_target_of : ℕ → ℤ → ℕ
jr_target_of pc offset = (pc + 2 + 2 * unsigned_of offset) % 2 ^ 32
