-- What a field of five bits says where it is no register.
use Rattle.std.specs.Prelude.{ℕ, ◌%◌, cond, eqb, ltb, ℤ, pos, ◌-ℤ◌}

-- "'Quick n' below means a field where 0 is 32."
abbrev pub quick_of : ℕ → ℕ
quick_of q = cond (eqb (q % 32) 0) 32 (q % 32)

-- "immediate −16 to +15 as the signed field"
abbrev pub signed_field_of : ℕ → ℤ
signed_field_of n = cond (ltb (n % 32) 16) (pos (n % 32)) (pos (n % 32) -ℤ pos 32)
