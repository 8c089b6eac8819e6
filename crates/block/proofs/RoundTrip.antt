-- A valid block, read and written back, is the same block: what the status and the target tell is told again.
-- Assumes nothing.
use Rattle.std.proofs.Common.{◌≡◌, ℕ, ◌+◌, ◌*◌, ◌/◌, ◌%◌, ◌^◌, Bool, true, false, cond, eqb, List, get_or, sym, refl, ap, ◌∙◌, subst, arith, eqb-true, Some, None}
use Rattle.values.specs.Results.{bit_of}
use Rattle.answers.specs.declared.Activity.TheVariants.{Running, Stopped}
use Rattle.gpu_core.specs.Core.{waiting_of, target_of}
use Rattle.machine.specs.declared.State.{State}
use Rattle.values.specs.Results.{is_one}
use Rattle.gpu_core.specs.Types.{IsBytes}
use Rattle.machine.proofs.Machines.{bit_back}
use Rattle.block.specs.Block.{block_longs, target_index, status_index, block_long, longs, put_longs, valid_of, pending_in, state_from, state_at, activity_bit, status_of, longs_of}
use Rattle.block.specs.RoundTrip.{RestoresBlock}
use Rattle.block.proofs.Stored.{digits}
use Rattle.block.proofs.Longs.{puts_longs}

-- what a valid status and target are
record Valid (status target : ℕ) : Type 0 where
  low : status / 8 % 2 ^ 11 ≡ 0
  middle : status / 2 ^ 15 % 2 ≡ 0
  high : status / 2 ^ 19 ≡ 0
  rule : cond (is_one (status / 2 ^ 17)) true (eqb target 0) ≡ true

both : (p q : Bool) → cond p q false ≡ true → (p ≡ true) × (q ≡ true)
both true q e = (refl, e)
both false q e = let z : ◌≡◌ {A = ℕ} 0 1 = cc in absurd (omega arith)

valid : (status target : ℕ) → valid_of status target ≡ true → Valid status target
valid status target e =
    let a = both _ _ e in
    let b = both _ _ a.1 in
    let c = both _ _ b.1 in
    record { low = eqb-true _ _ a.0; middle = eqb-true _ _ b.0; high = eqb-true _ _ c.0; rule = c.1 }

target_back : (status target : ℕ) → Valid status target → target_of (pending_in status target) ≡ target
target_back status target v = go (is_one (status / 2 ^ 17)) v.rule
  where
    go : (t : Bool) → cond t true (eqb target 0) ≡ true → target_of (cond t (Some target) None) ≡ target
    go true e = refl
    go false e = sym (eqb-true target 0 e)

waiting_bit : (t : Bool) (target : ℕ) → waiting_of (cond t (Some target) None) ≡ bit_of t
waiting_bit true target = refl
waiting_bit false target = refl

running_bit : (t : Bool) → activity_bit (cond t Running Stopped) ≡ bit_of t
running_bit true = refl
running_bit false = refl

-- the bits of a valid status put together again, each digit told by those above it
assembled : (s q1 q2 q3 q14 q15 q16 q17 q18 b0 b1 b2 b14 b16 b17 b18 : ℕ) → s ≡ b0 + 2 * q1 → q1 ≡ b1 + 2 * q2 → q2 ≡ b2 + 2 * q3 → q3 ≡ 0 + 2048 * q14 → q14 ≡ b14 + 2 * q15 → q15 ≡ 0 + 2 * q16 → q16 ≡ b16 + 2 * q17 → q17 ≡ b17 + 2 * q18 → q18 ≡ b18 + 2 * 0 → b0 + 2 * b1 + 4 * b2 + 16384 * b14 + 65536 * b16 + 131072 * b17 + 262144 * b18 ≡ s
assembled s q1 q2 q3 q14 q15 q16 q17 q18 b0 b1 b2 b14 b16 b17 b18 e0 e1 e2 e3 e14 e15 e16 e17 e18 = omega arith

status_back : (l : List ℕ) → Valid (get_or l status_index 0) (get_or l target_index 0) → status_of (state_from l) ≡ get_or l status_index 0
status_back l v =
    let s = get_or l status_index 0 in
    rw (running_bit (is_one (s / 65536)), waiting_bit (is_one (s / 131072)), bit_back s, bit_back (s / 2), bit_back (s / 4), bit_back (s / 16384), bit_back (s / 65536), bit_back (s / 131072), bit_back (s / 262144))
    (assembled s (s / 2) (s / 4) (s / 8) (s / 16384) (s / 32768) (s / 65536) (s / 131072) (s / 262144) _ _ _ _ _ _ _ (omega arith) (digits 1 1 s) (digits 2 1 s) (rw v.low at (digits 3 11 s)) (digits 14 1 s) (rw v.middle at (digits 15 1 s)) (digits 16 1 s) (digits 17 1 s) (rw v.high at (digits 18 1 s)))

longs_back : (block : List ℕ) → Valid (block_long block status_index) (block_long block target_index) → longs_of (state_at block) ≡ longs block 0 block_longs
unfolding state_at longs
longs_back block v =
    rw (target_back (block_long block status_index) (block_long block target_index) v, status_back (longs block 0 block_longs) v)

pub reads : {block : List ℕ} {s : State} → IsBytes block → s ≡ state_at block → (s ≡ state_at block) × RestoresBlock block s
reads {block} is e =
    (e, subst (RestoresBlock block) (sym e) (record { back = λ ok. ap (put_longs block 0) (longs_back block (valid _ _ ok)) ∙ puts_longs block 0 block_longs is }))
