-- Two's complement at 32 and at 16 bits, by the language's own reading of signed integers.
use Rattle.std.specs.Prelude.{ℕ, ◌%◌, ◌^◌, ℤ}
use Rattle.std.specs.Int.{w16, w32}
use Rattle.std.proofs.Common.{to_z, of_z}

-- The signed number that 32 bits stand for, −2^31 to 2^31 − 1.
abbrev pub signed_of : ℕ → ℤ
signed_of x = to_z w32 x

-- The signed number of the low 16 bits, −2^15 to 2^15 − 1.
abbrev pub signed16_of : ℕ → ℤ
signed16_of x = to_z w16 (x % 2 ^ 16)

-- The 32 bits of a signed number, −2^31 to 2^31 − 1: itself, or 2^32 more where it is negative. Every use keeps to that range;
-- outside of it a positive number would stay as it is, and one below −2^32 would give 0.
abbrev pub unsigned_of : ℤ → ℕ
unsigned_of z = of_z w32 z
