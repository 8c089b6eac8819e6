-- Multiplication: "MULT, IMULT: low 16 bits, unsigned or signed."
use Rattle.std.specs.Prelude.{ℕ, ◌+◌, ◌*◌, ◌%◌, ◌^◌, ◌*ℤ◌}
use Rattle.values.specs.declared.Computed.{Computed}
use Rattle.values.specs.Results.{computed_of}
use Rattle.values.specs.Signed.{signed16_of, unsigned_of}

abbrev pub mult_of : ℕ → ℕ → ℕ → Computed
mult_of d s c = computed_of (d % 2 ^ 16 * (s % 2 ^ 16)) c

abbrev pub product_of : ℕ → ℕ → ℕ
product_of d s = unsigned_of (signed16_of d *ℤ signed16_of s)

-- "IMULTN: the same signed product and flags, into the accumulator only."
abbrev pub imult_of : ℕ → ℕ → ℕ → Computed
imult_of d s c = computed_of (product_of d s) c

-- "IMACN adds that product there […]; both touch no flag (ruled)."
abbrev pub imacn_of : ℕ → ℕ → ℕ → ℕ
imacn_of acc d s = (acc + product_of d s) % 2 ^ 32
