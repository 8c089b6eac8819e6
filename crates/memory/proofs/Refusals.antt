-- A fetch refuses by one fault alone, at every processor.
-- Assumes nothing.
use Rattle.std.proofs.Common.{◌≡◌, ℕ, ◌+◌, ◌-◌, ◌%◌, Bool, true, false, cond, eqb, ltb, List, length, Ok, Err}
use Rattle.answers.specs.declared.Fault.{Fault}
use Rattle.answers.specs.declared.Fault.TheVariants.{BadCounter}
use Rattle.processor.specs.Processor.{Processor}
use Rattle.memory.specs.Memory.{word_at, no_word, fetch_of}

pub counter_alone : (P : Processor) (ram : List ℕ) (pc : ℕ) (f : Fault) → fetch_of P ram pc ≡ Err f → f ≡ BadCounter
counter_alone P ram pc f = go (ltb pc P.base) (eqb (pc % 2) 1) (ltb (pc - P.base + 1) (length ram))
  where
    go : (s t u : Bool) → cond s no_word (cond t no_word (cond u (Ok (word_at ram (pc - P.base))) no_word)) ≡ Err f → f ≡ BadCounter
    go true t u e = cc
    go false true u e = cc
    go false false true e = cc
    go false false false e = cc
