-- Saturation: "SAT8, SAT16, SAT24: the signed value held to 0 to 255, 65,535 or 16,777,215; N clear."
-- N is clear since it follows a result below 2^31.
use Rattle.std.specs.Prelude.{ℕ, cond, ltb, ℤ, pos, negsuc}
use Rattle.values.specs.declared.Computed.{Computed}
use Rattle.values.specs.Results.{computed_of}
use Rattle.values.specs.Signed.{signed_of}

-- A signed number clamped to 0 to top, which the paper calls held.
abbrev pub clamp_of : ℕ → ℤ → ℕ
clamp_of top (pos n) = cond (ltb top n) top n
clamp_of top (negsuc n) = 0

abbrev pub saturated_of : ℕ → ℕ → ℕ → Computed
saturated_of top d c = computed_of (clamp_of top (signed_of d)) c

abbrev pub sat8_of : ℕ → ℕ → Computed
sat8_of d c = saturated_of 255 d c

abbrev pub sat16_of : ℕ → ℕ → Computed
sat16_of d c = saturated_of 65535 d c

abbrev pub sat24_of : ℕ → ℕ → Computed
sat24_of d c = saturated_of 16777215 d c
