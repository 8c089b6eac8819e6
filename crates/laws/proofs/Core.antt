-- A bank, RAM and the core keep their types where a part of them changes.
-- Assumes nothing.
use Rattle.std.proofs.Common.{ℕ, zero, suc, ◌+◌, ◌/◌, ◌%◌, ◌^◌, ◌<◌, List, [], ◌∷◌, set, arith, length-set, Option, Some, None}
use Rattle.values.specs.declared.Flags.{Flags}
use Rattle.values.specs.Results.{IsFlags}
use Rattle.memory.specs.Memory.{put_long}
use Rattle.gpu_core.specs.declared.Core.{Core}
use Rattle.gpu_core.specs.Core.{counter_of, moved_of, skipped_of, with_flags, with_remainder, with_accumulator, with_mode, with_flag_register}
use Rattle.gpu_core.specs.Types.{Below, IsBytes, IsBank, IsPending, IsCore}

module _ (m v : ℕ) (hv : v < m) where
  below_set : (l : List ℕ) (i : ℕ) → Below m l → Below m (set l i v)
  below_set [] i h j = h j
  below_set (x ∷ l) zero h zero = hv
  below_set (x ∷ l) zero h (suc j) = h (suc j)
  below_set (x ∷ l) (suc i) h zero = h zero
  below_set (x ∷ l) (suc i) h (suc j) = below_set l i (λ k. h (suc k)) j

pub bank_set : (bank : List ℕ) (i n : ℕ) → n < 2 ^ 32 → IsBank bank → IsBank (set bank i n)
bank_set bank i n hn h =
    record { registers = simp length-set h.registers; words = below_set (2 ^ 32) n hn bank i h.words }

pub bytes_put : (l : List ℕ) (i v : ℕ) → IsBytes l → IsBytes (put_long l i v)
bytes_put l i v h =
    let one = set l i (v / 2 ^ 24 % 256) in
    let two = set one (i + 1) (v / 2 ^ 16 % 256) in
    let three = set two (i + 2) (v / 256 % 256) in
    record { bytes = byte three (i + 3) v (byte two (i + 2) (v / 256) (byte one (i + 1) (v / 2 ^ 16) (byte l i (v / 2 ^ 24) h.bytes))) }
  where
    byte : (m : List ℕ) (j n : ℕ) → Below 256 m → Below 256 (set m j (n % 256))
    byte m j n hm = below_set 256 (n % 256) (omega arith) m j hm

module _ (k : Core) (h : IsCore k) where
  counter_word : (p : Option ℕ) (pc : ℕ) → IsPending p → counter_of p pc < 2 ^ 32
  counter_word None pc hp = omega arith
  counter_word (Some t) pc hp = hp

  pub moved : (p : Option ℕ) → IsPending p → IsCore (moved_of k p)
  moved p hp = search (h, hp, counter_word k.pending k.pc h.pending_word)

  pub skipped : IsCore (skipped_of k)
  skipped = search (arith, h)

  pub flagged : (f : Flags) → IsFlags f → IsCore (with_flags k f)
  flagged f hf = search (h, hf)

  pub remaindered : (n : ℕ) → n < 2 ^ 32 → IsCore (with_remainder k n)
  remaindered n hn = search (h, hn)

  pub accumulated : (n : ℕ) → n < 2 ^ 32 → IsCore (with_accumulator k n)
  accumulated n hn = search (h, hn)

  pub with_mode_lem : (n : ℕ) → IsCore (with_mode k n)
  with_mode_lem n = search (arith, h)

  pub with_flag_register_lem : (n : ℕ) → IsCore (with_flag_register k n)
  with_flag_register_lem n = search (arith, h)
