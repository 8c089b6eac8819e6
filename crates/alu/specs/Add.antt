-- Addition and subtraction. Quick forms add or subtract a quick number.
use Rattle.std.specs.Prelude.{ℕ, ◌+◌, ◌-◌, ◌/◌, ◌%◌, ◌^◌, ltb, ℤ, nat_abs}
use Rattle.values.specs.declared.Computed.{Computed}
use Rattle.values.specs.declared.Flags.{Flags}
use Rattle.values.specs.Results.{bit_of, computed_of, flags_of}
use Rattle.values.specs.Signed.{signed_of, unsigned_of}

-- "ADD, ADDC, ADDQ: C is carry out."
abbrev pub add_of : ℕ → ℕ → Computed
add_of d s = computed_of ((d + s) % 2 ^ 32) ((d + s) / 2 ^ 32)

abbrev pub addc_of : ℕ → ℕ → ℕ → Computed
addc_of d s c = computed_of ((d + s + c % 2) % 2 ^ 32) ((d + s + c % 2) / 2 ^ 32)

-- "SUB d−s, SUBC d−s−C, SUBQ: C is borrow."
abbrev pub sub_of : ℕ → ℕ → Computed
sub_of d s = computed_of ((d + 2 ^ 32 - s) % 2 ^ 32) (bit_of (ltb d s))

abbrev pub subc_of : ℕ → ℕ → ℕ → Computed
subc_of d s c = computed_of ((d + 2 ^ 32 - (s + c % 2)) % 2 ^ 32) (bit_of (ltb d (s + c % 2)))

-- "NEG 0−d, C borrow."
abbrev pub neg_of : ℕ → Computed
neg_of d = sub_of 0 d

-- "ABS: C if d was negative; N clear except for 80000000h, which stays, with N and C set (000)."
abbrev pub abs_of : ℕ → Computed
abs_of d = computed_of (nat_abs (signed_of d)) (d / 2 ^ 31)

-- "CMP d−s, flags only."
abbrev pub cmp_of : ℕ → ℕ → Flags
cmp_of d s = flags_of (sub_of d s)

-- "CMPQ: immediate −16 to +15 as the signed field (000 decides over 001), C is borrow."
abbrev pub cmpq_of : ℕ → ℤ → Flags
cmpq_of d immediate = cmp_of d (unsigned_of immediate)
