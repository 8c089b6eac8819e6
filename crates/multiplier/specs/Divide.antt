-- Division: "DIV, no flag (ruled): d/s unsigned; in divide mode 1, the low 32 bits of (d × 65,536)/s. Remainder of that division kept."
use Rattle.std.specs.Prelude.{ℕ, ◌-◌, ◌*◌, ◌/◌, ◌%◌, ◌^◌, cond, ◌==◌}
use Rattle.multiplier.specs.declared.divide.Divided.{Divided}

abbrev pub divide_of : ℕ → ℕ → Divided
divide_of n s = record { quotient = n / s % 2 ^ 32; remainder = n % s }

-- "s = 0: quotient FFFFFFFFh, remainder d (ruled)."
abbrev pub div_of : ℕ → ℕ → ℕ → Divided
div_of d s mode =
    cond (s == 0) (record { quotient = 2 ^ 32 - 1; remainder = d }) (divide_of (cond (mode == 1) (d * 65536) d) s)
