-- Shifts and rotations: "C is the old bit 0 for right, old bit 31 for left."
-- SHLQ, SHRQ and SHARQ are left_of, right_of and right_signed_of, each by quick n.
use Rattle.std.specs.Prelude.{ℕ, ◌+◌, ◌-◌, ◌*◌, ◌/◌, ◌%◌, ◌^◌, cond, ltb, pos, nat_abs}
use Rattle.std.specs.Int.Signed.{shr_z, lt_z}
use Rattle.values.specs.declared.Computed.{Computed}
use Rattle.values.specs.Results.{computed_of}
use Rattle.values.specs.Signed.{signed_of, unsigned_of}

-- "32 or more places give 0."
abbrev pub left_of : ℕ → ℕ → Computed
left_of d k = computed_of (cond (ltb k 32) (d * 2 ^ k % 2 ^ 32) 0) (d / 2 ^ 31)

abbrev pub right_of : ℕ → ℕ → Computed
right_of d k = computed_of (cond (ltb k 32) (d / 2 ^ k) 0) (d % 2)

-- "the same with sign fill; 32 or more right give all sign bits": as many as 31 places give.
abbrev pub right_signed_of : ℕ → ℕ → Computed
right_signed_of d k = computed_of (unsigned_of (shr_z (signed_of d) (2 ^ cond (ltb k 32) k 31))) (d % 2)

-- "SH: s signed, right if 0 or more, left if negative": SH is this over right_of, and SHA over right_signed_of.
abbrev pub shift_of : (ℕ → ℕ → Computed) → ℕ → ℕ → Computed
shift_of right d s =
    cond (lt_z (signed_of s) (pos 0)) (left_of d (nat_abs (signed_of s))) (right d (nat_abs (signed_of s)))

-- "ROR by the low five bits of s, RORQ by quick n; C is old bit 31." The bits below place k come in above the others.
abbrev pub rotate_of : ℕ → ℕ → Computed
rotate_of d k = computed_of (d % 2 ^ (k % 32) * 2 ^ (32 - k % 32) + d / 2 ^ (k % 32)) (d / 2 ^ 31)
