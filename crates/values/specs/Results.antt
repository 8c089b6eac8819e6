-- Results and flags: "All results are modulo 2^32. Z and N follow the result and an undefined C is unchanged (ruled), unless noted."
use Rattle.std.specs.Prelude.{ℕ, ◌/◌, ◌%◌, ◌^◌, ◌<◌, Bool, cond, eqb}
use Rattle.values.specs.declared.Computed.{Computed}
use Rattle.values.specs.declared.Flags.{Flags}

abbrev pub bit_of : Bool → ℕ
bit_of on = cond on 1 0

abbrev pub is_one : ℕ → Bool
is_one bit = eqb (bit % 2) 1

-- A result and C after it.
abbrev pub computed_of : ℕ → ℕ → Computed
computed_of value carry = record { value = value; carry = carry }

-- "Z and N follow the result": Z is one if it is zero, and N is its bit 31.
abbrev pub flags_of : Computed → Flags
flags_of r = record { z = bit_of (eqb r.value 0); n = r.value / 2 ^ 31; c = r.carry }

-- Each flag is a bit.
pub record IsFlags (f : Flags) : Type 0 where
  pub z_bit : f.z < 2
  pub n_bit : f.n < 2
  pub c_bit : f.c < 2
