-- A state, written to a block and read back, is the same state, and the block is valid.
-- Assumes nothing.
use Rattle.std.proofs.Common.{◌≡◌, ℕ, ◌+◌, ◌*◌, ◌/◌, ◌%◌, ◌^◌, ◌<◌, ◌≤◌, Bool, true, false, cond, eqb, List, ◌++◌, length, get_or, sym, refl, ap, ◌∙◌, subst, arith, length-append, take_at, get_or-append-add, drop_at, Option, Some, None}
use Rattle.values.specs.Results.{bit_of}
use Rattle.answers.specs.declared.Activity.{Activity}
use Rattle.answers.specs.declared.Activity.TheVariants.{Running, Stopped}
use Rattle.machine.specs.declared.State.{State}
use Rattle.gpu_core.specs.Types.{IsPending}
use Rattle.machine.specs.State.{IsState}
use Rattle.values.proofs.Bits.{bit_fits}
use Rattle.gpu_core.specs.Core.{waiting_of, target_of}
use Rattle.block.specs.Block.{block_longs, block_length, pc_index, target_index, status_index, longs, put_longs, valid_of, is_valid, state_from, state_at, activity_bit, status_of, rest_of, longs_of, put_state}
use Rattle.block.specs.RoundTrip.{RestoresState}
use Rattle.block.proofs.Longs.{Words, none, one, all_words, words_append, puts_length, puts_append, longs_puts}

-- seven bits of a status, with gaps between them that are clear
record Bits (status z c n b a p m : ℕ) : Type 0 where
  z_in : status % 2 ≡ z
  c_in : status / 2 % 2 ≡ c
  n_in : status / 4 % 2 ≡ n
  low_clear : status / 8 % 2048 ≡ 0
  b_in : status / 16384 % 2 ≡ b
  middle_clear : status / 32768 % 2 ≡ 0
  a_in : status / 65536 % 2 ≡ a
  p_in : status / 131072 % 2 ≡ p
  m_in : status / 262144 % 2 ≡ m
  high_clear : status / 524288 ≡ 0

bits : (z c n b a p m : ℕ) → z < 2 → c < 2 → n < 2 → b < 2 → a < 2 → p < 2 → m < 2
    → Bits (z + 2 * c + 4 * n + 16384 * b + 65536 * a + 131072 * p + 262144 * m) z c n b a p m
bits z c n b a p m hz hc hn hb ha hp hm = omega arith

pending_bit : (p : Option ℕ) → waiting_of p < 2
pending_bit None = omega arith
pending_bit (Some t) = omega arith

activity_bit_lem : (a : Activity) → activity_bit a < 2
activity_bit_lem Running = omega arith
activity_bit_lem Stopped = omega arith

bit_in : (t : Bool) → eqb (bit_of t) 1 ≡ t
bit_in true = refl
bit_in false = refl

pending_in_lem : (p : Option ℕ) → cond (eqb (waiting_of p) 1) (Some (target_of p)) None ≡ p
pending_in_lem None = refl
pending_in_lem (Some t) = refl

activity_in_lem : (a : Activity) → cond (eqb (activity_bit a) 1) Running Stopped ≡ a
activity_in_lem Running = refl
activity_in_lem Stopped = refl

-- "the target is zero if none is pending"
target_rule : (p : Option ℕ) → cond (eqb (waiting_of p) 1) true (eqb (target_of p) 0) ≡ true
target_rule None = refl
target_rule (Some t) = refl

target_small : (p : Option ℕ) → IsPending p → target_of p < 2 ^ 32
target_small None h = omega arith
target_small (Some t) h = h

-- the state of a status that was made of its bits
module _ (s : State) where
  status_bits : Bits (status_of s) (bit_of s.z) (bit_of s.c) (bit_of s.n) (bit_of s.second) (activity_bit s.activity) (waiting_of s.pending) (bit_of s.mode)
  status_bits =
      bits _ _ _ _ _ _ _ (bit_fits s.z) (bit_fits s.c) (bit_fits s.n) (bit_fits s.second) (activity_bit_lem s.activity) (pending_bit s.pending) (bit_fits s.mode)

  status_valid : valid_of (status_of s) (target_of s.pending) ≡ true
  status_valid =
      let q = status_bits in
      rw (q.low_clear, q.middle_clear, q.high_clear, q.p_in) (target_rule s.pending)

  small_status : status_of s < 2 ^ 32
  small_status = omega (arith, bit_fits s.z, bit_fits s.c, bit_fits s.n, bit_fits s.second, bit_fits s.mode, activity_bit_lem s.activity, pending_bit s.pending)

-- the longs of a state, which are of 32 bits, and each where it is looked for
module _ (s : State) (is : IsState s) where
  pub bank0_length : length s.bank0 ≡ 32
  bank0_length = is.first_bank.registers

  pub bank1_length : length s.bank1 ≡ 32
  bank1_length = is.second_bank.registers

  count : length (longs_of s) ≡ block_longs
  count = simp length-append (omega (arith, bank0_length, bank1_length))

  words : Words (longs_of s)
  words =
      words_append (all_words s.bank0 is.first_bank.words) (words_append (all_words s.bank1 is.second_bank.words) (one is.core_typed.pc_word (one (target_small s.pending is.core_typed.pending_word) (one is.core_typed.remainder_word (one is.core_typed.accumulator_word (one (small_status s) none))))))

  behind : (i : ℕ) → get_or (longs_of s) (32 + (32 + i)) 0 ≡ get_or (rest_of s) i 0
  behind i =
      (rw bank0_length at (get_or-append-add s.bank0 (s.bank1 ++ rest_of s) (32 + i) 0)) ∙ (rw bank1_length at (get_or-append-add s.bank1 (rest_of s) i 0))

  state_from_lem : state_from (longs_of s) ≡ s
  state_from_lem =
      let q = status_bits s in
      rw (take_at s.bank0 _ 32 bank0_length, drop_at s.bank0 _ 32 bank0_length, take_at s.bank1 _ 32 bank1_length, behind 0, behind 1, behind 2, behind 3, behind 4, q.z_in, q.c_in, q.n_in, q.b_in, q.a_in, q.p_in, q.m_in, bit_in s.z, bit_in s.c, bit_in s.n, bit_in s.second, bit_in s.mode, pending_in_lem s.pending, activity_in_lem s.activity)

  module _ (block : List ℕ) (room : block_length ≤ length block) where
    longs_back : longs (put_state block s) 0 block_longs ≡ longs_of s
    longs_back = rw count at (longs_puts block 0 (longs_of s) (rw count room) words)

    pub state_length : length (put_state block s) ≡ length block
    state_length = puts_length block 0 (longs_of s)

    pub state_back : state_at (put_state block s) ≡ s
    unfolding state_at
    state_back = rw longs_back state_from_lem

    pub state_valid : is_valid (put_state block s) ≡ true
    unfolding longs
    state_valid =
        ap (λ l. valid_of (get_or l status_index 0) (get_or l target_index 0)) longs_back ∙ rw (behind 4, behind 1) (status_valid s)

    -- the banks and what is behind them, put one after the other
    pub in_parts : put_longs (put_longs (put_longs block 0 s.bank0) (4 * 32) s.bank1) (4 * pc_index) (rest_of s) ≡ put_state block s
    in_parts =
        rw (puts_append block 0 s.bank0, bank0_length, puts_append (put_longs block 0 s.bank0) (4 * 32) s.bank1, bank1_length)

    pub writes : {after : List ℕ} → after ≡ put_state block s → (after ≡ put_state block s) × RestoresState s after
    writes e = (e, subst (RestoresState s) (sym e) (record { valid = state_valid; back = state_back }))
