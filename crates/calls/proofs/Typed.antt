-- What demand 3 assumes of a state is so in every call: a block of bytes holds a state whose numbers have 32 bits.
-- Assumes nothing.
use Rattle.std.proofs.Common.{ℕ, zero, suc, ◌+◌, ◌/◌, ◌^◌, ◌<◌, Bool, true, false, cond, List, get_or, arith, Some, None}
use Rattle.memory.specs.Memory.{long_at}
use Rattle.gpu_core.specs.Types.{IsBytes, IsBank, IsPending}
use Rattle.machine.specs.State.{IsState}
use Rattle.values.specs.Results.{is_one}
use Rattle.values.proofs.Bits.{bit_fits}
use Rattle.block.specs.Block.{block_longs, pc_index, target_index, remainder_index, accumulator_index, status_index, block_long, longs, state_at}
use Rattle.block.proofs.Longs.{longs_length}

module _ (block : List ℕ) (h : IsBytes block) where
  word : (i : ℕ) → long_at block i < 2 ^ 32
  word i = omega (arith, h.bytes i, h.bytes (i + 1), h.bytes (i + 2), h.bytes (i + 3))

  words : (at m i : ℕ) → get_or (longs block at m) i 0 < 2 ^ 32
  unfolding longs
  words at zero i = omega arith
  words at (suc m) zero = word at
  words at (suc m) (suc i) = words (at + 4) m i

  bank : (at : ℕ) → IsBank (longs block at 32)
  bank at = record { registers = longs_length block at 32; words = words at 32 }

  target : (t : Bool) (n : ℕ) → n < 2 ^ 32 → IsPending (cond t (Some n) None)
  target true n small = small
  target false n small = tt

  pub state_typed : IsState (state_at block)
  unfolding state_at longs
  state_typed =
      let s = state_at block in
      record {
        first_bank = bank 0;
        second_bank = bank 128;
        core_typed =
            record {
              bank_bit = bit_fits s.second;
              flag_bits = record { z_bit = bit_fits s.z; n_bit = bit_fits s.n; c_bit = bit_fits s.c };
              pc_word = words 0 block_longs pc_index;
              pending_word = target (is_one (block_long block status_index / 2 ^ 17)) _ (words 0 block_longs target_index);
              remainder_word = words 0 block_longs remainder_index;
              mode_bit = bit_fits s.mode;
              accumulator_word = words 0 block_longs accumulator_index;
            };
      }
