-- The state block: "69 longs, high byte first. Bank 0, bank 1, program counter, pending target, remainder, accumulator, status."
use Rattle.std.specs.Prelude.{ℕ, zero, suc, ◌+◌, ◌*◌, ◌/◌, ◌%◌, ◌^◌, Bool, true, false, cond, List, [], ◌∷◌, ◌++◌, take, drop, ◌==◌, slice_index, slice_index_or, Option, Some, None}
use Rattle.values.specs.Results.{bit_of}
use Rattle.memory.specs.Memory.{long_at, put_long}
use Rattle.gpu_core.specs.Core.{waiting_of, target_of}
use Rattle.answers.specs.declared.Activity.{Activity}
use Rattle.answers.specs.declared.Activity.TheVariants.{Running, Stopped}
use Rattle.machine.specs.declared.State.{State}
use Rattle.values.specs.Results.{is_one}

abbrev pub block_longs : ℕ
block_longs = 69

abbrev pub block_length : ℕ
block_length = 4 * block_longs

-- The index of each long behind the banks.
abbrev pub pc_index : ℕ
pc_index = 64

abbrev pub target_index : ℕ
target_index = 65

abbrev pub remainder_index : ℕ
remainder_index = 66

abbrev pub accumulator_index : ℕ
accumulator_index = 67

abbrev pub status_index : ℕ
status_index = 68

-- The long at an index; m longs from the byte at on; and longs put there.
abbrev pub block_long : List ℕ → ℕ → ℕ
block_long block i = long_at block (4 * i)

unfoldable pub longs : List ℕ → ℕ → ℕ → List ℕ
longs block at zero = []
longs block at (suc m) = long_at block at ∷ longs block (at + 4) m

unfoldable pub put_longs : List ℕ → ℕ → List ℕ → List ℕ
put_longs block at [] = block
put_longs block at (v ∷ vs) = put_longs (put_long block at v) (at + 4) vs

-- "Status bits: 0 Z, 1 C, 2 N, 14 bank, 16 running, 17 jump pending, 18 divide mode. Other bits must be zero,
-- and the target is zero if none is pending."
abbrev pub valid_of : ℕ → ℕ → Bool
valid_of status target =
    cond (status / 8 % 2 ^ 11 == 0)
    (cond (status / 2 ^ 15 % 2 == 0)
    (cond (status / 2 ^ 19 == 0) (cond (is_one (status / 2 ^ 17)) true (target == 0)) false)
    false)
    false

abbrev pub is_valid : List ℕ → Bool
is_valid block = valid_of (block_long block status_index) (block_long block target_index)

-- From the longs of a block to the state.
abbrev pub pending_in : ℕ → ℕ → Option ℕ
pending_in status target = cond (is_one (status / 2 ^ 17)) (Some target) None

abbrev pub activity_in : ℕ → Activity
activity_in status = cond (is_one (status / 2 ^ 16)) Running Stopped

abbrev pub state_from : List ℕ → State
state_from l =
    let status = slice_index_or l status_index 0 in
    record { bank0 = take 32 l; bank1 = take 32 (drop 32 l); second = is_one (status / 2 ^ 14); z = is_one status; n = is_one (status / 2 ^ 2); c = is_one (status / 2); pc = slice_index l pc_index; pending = pending_in status (slice_index l target_index); remainder = slice_index l remainder_index; mode = is_one (status / 2 ^ 18); accumulator = slice_index l accumulator_index; activity = activity_in status }

unfoldable pub state_at : List ℕ → State
state_at block = state_from (longs block 0 block_longs)

-- And back.
abbrev pub activity_bit : Activity → ℕ
activity_bit Running = 1
activity_bit Stopped = 0

abbrev pub status_of : State → ℕ
status_of s =
    bit_of s.z + 2 * bit_of s.c + 4 * bit_of s.n + 2 ^ 14 * bit_of s.second + 2 ^ 16 * activity_bit s.activity + 2 ^ 17 * waiting_of s.pending + 2 ^ 18 * bit_of s.mode

-- The longs behind the banks, and all of them.
abbrev pub rest_of : State → List ℕ
rest_of s = s.pc ∷ target_of s.pending ∷ s.remainder ∷ s.accumulator ∷ status_of s ∷ []

abbrev pub longs_of : State → List ℕ
longs_of s = s.bank0 ++ (s.bank1 ++ rest_of s)

abbrev pub put_state : List ℕ → State → List ℕ
put_state block s = put_longs block 0 (longs_of s)
