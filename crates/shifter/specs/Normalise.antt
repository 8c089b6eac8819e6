-- Mantissas: MTOI and NORMI. C is unchanged.
use Rattle.std.specs.Prelude.{ℕ, ◌+◌, ◌-◌, ◌%◌, ◌^◌, cond, eqb, ltb}
use Rattle.std.specs.Int.Count.{count_leading_zeros}
use Rattle.values.specs.declared.Computed.{Computed}
use Rattle.values.specs.Results.{computed_of}

-- "MTOI: bits 0 to 22 kept, bits 23 to 31 all equal to bit 31 (ruled)."
abbrev pub mtoi_of : ℕ → ℕ → Computed
mtoi_of s c = computed_of (cond (ltb s (2 ^ 31)) (s % 2 ^ 23) (2 ^ 32 - 2 ^ 23 + s % 2 ^ 23)) c

-- "NORMI: position of the highest one less 22, and 0 for 0 (ruled)." The position is 31 less the leading zeros.
abbrev pub normi_of : ℕ → ℕ → Computed
normi_of s c = computed_of (cond (eqb s 0) 0 ((2 ^ 32 + 31 - count_leading_zeros 32 s - 22) % 2 ^ 32)) c
