-- Lists of longs in a list of bytes: stored and read, and stored where they were read.
-- Assumes nothing.
use Rattle.std.proofs.Common.{◌≡◌, ℕ, zero, suc, ◌+◌, ◌*◌, ◌^◌, ◌<◌, ◌≤◌, List, [], ◌∷◌, ◌++◌, length, get_or, take, refl, ap, ◌∙◌, arith, length-take-le, take-suc}
use Rattle.memory.specs.Memory.{long_at, put_long}
use Rattle.gpu_core.specs.Types.{IsBytes}
use Rattle.block.specs.Block.{longs, put_longs}
use Rattle.block.proofs.Stored.{put_back, put_length, put_same, put_below}

-- numbers of 32 bits
pub data Words : List ℕ → Type 0 where
  none : Words []
  one : {v : ℕ} {vs : List ℕ} → v < 2 ^ 32 → Words vs → Words (v ∷ vs)

pub all_words : (vs : List ℕ) → ((i : ℕ) → get_or vs i 0 < 2 ^ 32) → Words vs
all_words [] h = none
all_words (v ∷ vs) h = one (h 0) (all_words vs (λ i. h (suc i)))

pub words_append : {us vs : List ℕ} → Words us → Words vs → Words (us ++ vs)
words_append none w = w
words_append (one h u) w = one h (words_append u w)

pub longs_length : (l : List ℕ) (at m : ℕ) → length (longs l at m) ≡ m
unfolding longs
longs_length l at zero = refl
longs_length l at (suc m) = ap suc (longs_length l (at + 4) m)

-- one long more is read
pub longs_more : (l : List ℕ) (at m : ℕ) → longs l at (suc m) ≡ longs l at m ++ (long_at l (at + 4 * m) ∷ [])
unfolding longs
longs_more l at zero = ap (λ i. long_at l i ∷ []) (omega arith)
longs_more l at (suc m) =
    ap (λ t. long_at l at ∷ t) (longs_more l (at + 4) m ∙ ap (λ i. longs l (at + 4) m ++ (long_at l i ∷ [])) (omega arith))

pub puts_length : (l : List ℕ) (at : ℕ) (vs : List ℕ) → length (put_longs l at vs) ≡ length l
unfolding put_longs
puts_length l at [] = refl
puts_length l at (v ∷ vs) = puts_length (put_long l at v) (at + 4) vs ∙ put_length l at v

-- longs behind longs
pub puts_append : (l : List ℕ) (at : ℕ) (us vs : List ℕ) → put_longs l at (us ++ vs) ≡ put_longs (put_longs l at us) (at + 4 * length us) vs
unfolding put_longs
puts_append l at [] vs = ap (λ i. put_longs l i vs) (omega arith)
puts_append l at (u ∷ us) vs =
    puts_append (put_long l at u) (at + 4) us vs ∙ ap (λ i. put_longs (put_longs (put_long l at u) (at + 4) us) i vs) (omega arith)

-- one long more is stored
pub puts_more : (l : List ℕ) (at : ℕ) (vs : List ℕ) (i : ℕ) → i < length vs → put_longs l at (take (suc i) vs) ≡ put_long (put_longs l at (take i vs)) (at + 4 * i) (get_or vs i 0)
unfolding put_longs
puts_more l at vs i h =
    rw (take-suc vs i 0 h, puts_append l at (take i vs) (get_or vs i 0 ∷ []), length-take-le i vs (omega arith))

puts_below : (l : List ℕ) (at : ℕ) (vs : List ℕ) (j : ℕ) → at + 4 * length vs ≤ length l → j + 4 ≤ at → long_at (put_longs l at vs) j ≡ long_at l j
unfolding put_longs
puts_below l at [] j room h = refl
puts_below l at (v ∷ vs) j room h =
    puts_below (put_long l at v) (at + 4) vs j (rw (put_length l at v) (omega arith)) (omega arith) ∙ put_below l at v (omega arith) j h

-- longs read where they were stored
pub longs_puts : (l : List ℕ) (at : ℕ) (vs : List ℕ) → at + 4 * length vs ≤ length l → Words vs → longs (put_longs l at vs) at (length vs) ≡ vs
unfolding longs put_longs
longs_puts l at [] room none = refl
longs_puts l at (v ∷ vs) room (one small rest) =
    let next : at + 4 + 4 * length vs ≤ length (put_long l at v) = rw (put_length l at v) (omega arith) in
    rw (puts_below (put_long l at v) (at + 4) vs at next (omega arith), put_same l at v (omega arith) small, longs_puts (put_long l at v) (at + 4) vs next rest)

-- longs stored where they were read
pub puts_longs : (l : List ℕ) (at m : ℕ) → IsBytes l → put_longs l at (longs l at m) ≡ l
unfolding longs put_longs
puts_longs l at zero h = refl
puts_longs l at (suc m) h =
    ap (λ t. put_longs t (at + 4) (longs l (at + 4) m)) (put_back l at h) ∙ puts_longs l (at + 4) m h
