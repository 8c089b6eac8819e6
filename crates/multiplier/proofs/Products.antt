-- The product of two numbers of k bits fits twice as many.
-- Assumes nothing.
use Rattle.std.proofs.Common.{ℕ, ◌+◌, ◌*◌, ◌%◌, ◌^◌, ◌<◌, lt_of_le_of_lt, le_of_lt, mod-lt, mul-le-mul_left, mul-lt-mul_of_pos_right, pow_pos, pow-add}
use mathlib.Core.Path.{subst⁻¹}

pub product_fits : (k a b : ℕ) → a % 2 ^ k * (b % 2 ^ k) < 2 ^ (k + k)
product_fits k a b =
    subst⁻¹ (λ (n : ℕ). a % 2 ^ k * (b % 2 ^ k) < n) (pow-add 2 k k)
    (lt_of_le_of_lt (mul-le-mul_left (a % 2 ^ k) (le_of_lt (mod-lt b (pow_pos k)))) (mul-lt-mul_of_pos_right (mod-lt a (pow_pos k)) (pow_pos k)))
