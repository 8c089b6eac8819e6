-- What is read from memory fits: words of 16 bits, and longs of 32.
-- Assumes nothing.
use Rattle.std.proofs.Common.{ℕ, ◌+◌, ◌-◌, ◌%◌, ◌^◌, ◌<◌, Bool, true, false, cond, eqb, ltb, length, arith, Option, Some, None, Result, Ok, Err}
use Rattle.answers.specs.declared.Fault.{Fault}
use Rattle.processor.specs.Processor.{Processor}
use Rattle.memory.specs.Memory.{no_word, low_of, immediate_of, word_at, fetch_of}
use Rattle.places.specs.declared.Place.{Place}
use Rattle.places.specs.declared.Place.TheVariants as M
use Rattle.gpu_core.specs.declared.Core.{Core}
use Rattle.gpu_core.specs.Machine.{Memory}
use Rattle.gpu_core.specs.Types.{HoldsBytes, IsCore}
use Rattle.loads.specs.Loads.{immediate_in, counter_in, load_of}

abbrev WordFits : Result ℕ Fault → Type 0
WordFits (Ok w) = w < 2 ^ 16
WordFits (Err f) = Unit {0}

abbrev pub LongFits : Result ℕ Fault → Type 0
LongFits (Ok n) = n < 2 ^ 32
LongFits (Err f) = Unit {0}

lower : (f g : Result ℕ Fault) → WordFits f → WordFits g → LongFits (low_of f g)
lower (Ok a) (Ok b) hf hg = omega arith
lower (Ok a) (Err f) hf hg = tt
lower (Err f) g hf hg = tt

module _ (P : Processor) (k : Core) (hk : IsCore k) (memory : Memory) (h : HoldsBytes memory) where
  fetched : (pc : ℕ) → WordFits (fetch_of P memory.ram pc)
  fetched pc = go (ltb pc P.base) (eqb (pc % 2) 1) (ltb (pc - P.base + 1) (length memory.ram))
    where
      go : (s t u : Bool) → WordFits (cond s no_word (cond t no_word (cond u (Ok (word_at memory.ram (pc - P.base))) no_word)))
      go true t u = tt
      go false true u = tt
      go false false true = let i = pc - P.base in omega (arith, h.ram_bytes.bytes i, h.ram_bytes.bytes (i + 1))
      go false false false = tt

  pub immediate_fits : (p : Option ℕ) → LongFits (immediate_in P k memory p)
  unfolding immediate_of
  immediate_fits (Some t) = tt
  immediate_fits None =
      lower (fetch_of P memory.ram ((k.pc + 2) % 2 ^ 32)) (fetch_of P memory.ram ((k.pc + 4) % 2 ^ 32)) (fetched _) (fetched _)

  pub counter_fits : (p : Option ℕ) → LongFits (counter_in k p)
  counter_fits (Some t) = tt
  counter_fits None = hk.pc_word

  pub load_fits : (p : Result Place Fault) → LongFits (load_of k memory p)
  load_fits (Ok (M.Ram at)) = omega (arith, h.ram_bytes.bytes at, h.ram_bytes.bytes (at + 1), h.ram_bytes.bytes (at + 2), h.ram_bytes.bytes (at + 3))
  load_fits (Ok M.Flags) = omega arith
  load_fits (Ok M.Control) = omega arith
  load_fits (Ok M.Divide) = hk.remainder_word
  load_fits (Err f) = tt
