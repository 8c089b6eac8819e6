-- One long in a list of bytes: stored and read, stored where it was read, and read beside one that was stored.
-- Assumes nothing.
use Rattle.std.proofs.Common.{◌≡◌, ℕ, ◌+◌, ◌*◌, ◌/◌, ◌%◌, ◌^◌, ◌<◌, ◌≤◌, List, [], ◌∷◌, ◌++◌, length, get_or, take, drop, sym, refl, ◌∙◌, append_assoc, mul_comm, add_comm, div-add-mod', add-one, arith, length-set, length-take-le, get_or-take, get_or-append-add, shr-shr}
use native.Mathlib.Numerals.{add-two, add-three}
use lib.ListN.{get_or-append}
use lib.Seq.{set-get_or, sets, sets-eq, get_or_at}
use Rattle.memory.specs.Memory.{long_at, put_long}
use Rattle.gpu_core.specs.Types.{IsBytes}

-- a number is its low digits and its high ones
pub digits : (k j s : ℕ) → s / 2 ^ k ≡ s / 2 ^ k % 2 ^ j + 2 ^ j * (s / 2 ^ (k + j))
digits k j s =
    sym (div-add-mod' (s / 2 ^ k) (2 ^ j)) ∙ rw (shr-shr s k j, mul_comm (s / 2 ^ (k + j)) (2 ^ j), add_comm (2 ^ j * (s / 2 ^ (k + j))) (s / 2 ^ k % 2 ^ j))

-- the bytes of a long that was put together of four bytes
split : (a b c d v : ℕ) → a < 256 → b < 256 → c < 256 → d < 256 → v ≡ a * 2 ^ 24 + b * 2 ^ 16 + c * 256 + d
    → (v / 2 ^ 24 % 256 ≡ a) × (v / 2 ^ 16 % 256 ≡ b) × (v / 256 % 256 ≡ c) × (v % 256 ≡ d)
split a b c d v ha hb hc hd e = omega arith

-- a long stored where it was read
pub put_back : (l : List ℕ) (i : ℕ) → IsBytes l → put_long l i (long_at l i) ≡ l
put_back l i h =
    let e = split (get_or l i 0) (get_or l (i + 1) 0) (get_or l (i + 2) 0) (get_or l (i + 3) 0) _ (h.bytes i) (h.bytes (i + 1)) (h.bytes (i + 2)) (h.bytes (i + 3)) refl in
    rw (e.0, e.1, e.2, e.3, set-get_or l i 0, set-get_or l (i + 1) 0, set-get_or l (i + 2) 0, set-get_or l (i + 3) 0)

pub put_length : (l : List ℕ) (i v : ℕ) → length (put_long l i v) ≡ length l
put_length l i v = simp length-set

-- the bytes of a number of 32 bits, put together again
whole : (v : ℕ) → v < 2 ^ 32 → v / 2 ^ 24 % 256 * 2 ^ 24 + v / 2 ^ 16 % 256 * 2 ^ 16 + v / 256 % 256 * 256 + v % 256 ≡ v
whole v h = omega (arith, digits 8 8 v, digits 16 8 v)

module _ (l : List ℕ) (i v : ℕ) (room : i + 4 ≤ length l) where
  abbrev bytes : List ℕ
  bytes = v / 2 ^ 24 % 256 ∷ v / 2 ^ 16 % 256 ∷ v / 256 % 256 ∷ v % 256 ∷ []

  put_as : put_long l i v ≡ take i l ++ (bytes ++ drop (i + 4) l)
  put_as =
      let e : put_long l i v ≡ sets l i bytes = rw (add-one i, add-two i, add-three i) in
      e ∙ sets-eq bytes l i room ∙ append_assoc (take i l) bytes (drop (i + 4) l)

  before : length (take i l) ≡ i
  before = length-take-le i l (omega arith)

  byte : (k : ℕ) → get_or (take i l ++ (bytes ++ drop (i + 4) l)) (i + k) 0 ≡ get_or (bytes ++ drop (i + 4) l) k 0
  byte k = rw before at (get_or-append-add (take i l) (bytes ++ drop (i + 4) l) k 0)

  pub put_same : v < 2 ^ 32 → long_at (put_long l i v) i ≡ v
  put_same small = rw (put_as, get_or_at (take i l) _ _ 0 i before, byte 1, byte 2, byte 3) (whole v small)

  below : (j : ℕ) → j < i → get_or (take i l ++ (bytes ++ drop (i + 4) l)) j 0 ≡ get_or l j 0
  below j h = get_or-append (take i l) _ 0 j (omega (arith, before)) ∙ get_or-take i l j 0 h

  pub put_below : (j : ℕ) → j + 4 ≤ i → long_at (put_long l i v) j ≡ long_at l j
  put_below j h =
      rw (put_as, below j (omega arith), below (j + 1) (omega arith), below (j + 2) (omega arith), below (j + 3) (omega arith))
