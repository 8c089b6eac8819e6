-- Logic and single bits: "AND, OR, XOR, NOT." C is unchanged.
use Rattle.std.specs.Prelude.{ℕ, ◌-◌, ◌/◌, ◌%◌, ◌^◌, eqb}
use Rattle.std.specs.Int.Bits.{bit_and, bit_or, bit_xor}
use Rattle.values.specs.declared.Computed.{Computed}
use Rattle.values.specs.declared.Flags.{Flags}
use Rattle.values.specs.Results.{bit_of, computed_of}

abbrev pub and_of : ℕ → ℕ → ℕ → Computed
and_of d s c = computed_of (bit_and d s) c

abbrev pub or_of : ℕ → ℕ → ℕ → Computed
or_of d s c = computed_of (bit_or d s) c

abbrev pub xor_of : ℕ → ℕ → ℕ → Computed
xor_of d s c = computed_of (bit_xor d s) c

abbrev pub not_of : ℕ → ℕ → Computed
not_of d c = computed_of (2 ^ 32 - 1 - d) c

-- "BTST q: Z if the bit is zero, N and C unchanged."
abbrev pub btst_of : ℕ → ℕ → Flags → Flags
btst_of d q f = record { z = bit_of (eqb (d / 2 ^ (q % 32) % 2) 0); n = f.n; c = f.c }

-- "BSET, BCLR."
abbrev pub bset_of : ℕ → ℕ → ℕ → Computed
bset_of d q c = computed_of (bit_or d (2 ^ (q % 32))) c

abbrev pub bclr_of : ℕ → ℕ → ℕ → Computed
bclr_of d q c = computed_of (bit_and d (2 ^ 32 - 1 - 2 ^ (q % 32))) c
