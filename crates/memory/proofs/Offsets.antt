-- A counter told by its offset from the base modulo 2^32: whether it lies in local RAM, and where, at every sound processor.
-- Assumes nothing.
use Rattle.std.proofs.Common.{◌≡◌, ℕ, ◌+◌, ◌-◌, ◌*◌, ◌%◌, ◌^◌, ◌<◌, Bool, true, false, cond, eqb, ltb, List, length, refl, Ok, Err, arith, ltb-false, ltb-true, le-ltb, lt-ltb, ne_eqb, eqb-true}
use borrow.Author.Tests.{eqb-false}
use Rattle.processor.specs.Processor.{Processor, Sound}
use Rattle.memory.specs.Memory.{word_at, no_word, fetch_of, immediate_of}
use Rattle.answers.specs.declared.Fault.TheVariants.{BadCounter}

module _ (P : Processor) (sound : Sound P) where
  module _ (a at : ℕ) (e : (at + P.base) % 2 ^ 32 ≡ a) (fits : at < 2 ^ 32) where
    module _ (ram : List ℕ) (whole : length ram ≡ P.size) where
      pub word_inside : at % 2 ≡ 0 → at < P.size → fetch_of P ram a ≡ Ok (word_at ram at)
      word_inside even h =
          let d : a - P.base ≡ at = omega (arith, sound.top) in
          rw (le-ltb a P.base (omega (arith, sound.top)), ne_eqb (a % 2) 1 (λ o. omega (arith, o, sound.top, sound.base_aligned)), d, lt-ltb (at + 1) (length ram) (omega (arith, sound.size_aligned)))

      pub word_outside : (at % 2 ≡ 0 → at < P.size → ⊥) → fetch_of P ram a ≡ no_word
      word_outside h = go (ltb a P.base) (eqb (a % 2) 1) (ltb (a - P.base + 1) (length ram)) refl refl refl
        where
          go : (s t u : Bool) → ltb a P.base ≡ s → eqb (a % 2) 1 ≡ t → ltb (a - P.base + 1) (length ram) ≡ u → cond s no_word (cond t no_word (cond u (Ok (word_at ram (a - P.base))) no_word)) ≡ no_word
          go true t u es et eu = refl
          go false true u es et eu = refl
          go false false false es et eu = refl
          go false false true es et eu =
              let l = ltb-false a P.base es in
              let even = eqb-false (a % 2) 1 et in
              let below = ltb-true (a - P.base + 1) (length ram) eu in
              absurd (h (omega (arith, even, sound.top, sound.base_aligned)) (omega (arith, sound.top)))

  -- the long behind pc, by the offset of its first word
  module _ (pc at : ℕ) (e : (at + P.base) % 2 ^ 32 ≡ (pc + 2) % 2 ^ 32) (fits : at < 2 ^ 32) (ram : List ℕ) (whole : length ram ≡ P.size) where
    pub long_inside : at % 2 ≡ 0 → at + 3 < P.size → immediate_of P ram pc ≡ Ok (word_at ram (at + 2) * 2 ^ 16 + word_at ram at)
    unfolding immediate_of
    long_inside even h =
        rw (word_inside _ at e fits ram whole even (omega arith), word_inside ((pc + 4) % 2 ^ 32) (at + 2) (omega arith) (omega (arith, sound.top)) ram whole (omega arith) (omega arith))

    pub long_outside : (at % 2 ≡ 0 → at + 3 < P.size → ⊥) → immediate_of P ram pc ≡ Err BadCounter
    unfolding immediate_of
    long_outside h = go (eqb (at % 2) 0) (ltb at P.size) refl refl
      where
        go : (s t : Bool) → eqb (at % 2) 0 ≡ s → ltb at P.size ≡ t → immediate_of P ram pc ≡ Err BadCounter
        go false t es et = rw (word_outside _ at e fits ram whole (λ even l. eqb-false (at % 2) 0 es even))
        go true false es et = rw (word_outside _ at e fits ram whole (λ even l. omega (arith, l, ltb-false at P.size et)))
        go true true es et =
            let even = eqb-true (at % 2) 0 es in
            let l = ltb-true at P.size et in
            rw (word_inside _ at e fits ram whole even l, word_outside ((pc + 4) % 2 ^ 32) (at + 2) (omega arith) (omega (arith, sound.top, sound.flags_below, sound.size_aligned)) ram whole (λ two below. h even (omega (arith, below, sound.size_aligned))))
