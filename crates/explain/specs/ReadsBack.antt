-- What the run program and the loading check print is explained as it was meant: by its own number, address and steps.
use Rattle.std.specs.Prelude.{ℕ, ◌^◌, ◌<◌, ◌≡◌}
use Rattle.text.specs.Bytes.{bytes}
use Rattle.lines.specs.Lines.{check_lines}
use Rattle.card.specs.declared.Card.{Card}
use Rattle.card.specs.Text.{card_text}
use Rattle.template.specs.Fill.{filled}
use Rattle.sentences.specs.Table.{run_text, check_text}
use Rattle.advice.specs.Explanation.{explanation_of}

-- The fields of a card are numbers of 32 bits.
pub record Fits (card : Card) : Type 0 where
  pub answer : card.answer < 2 ^ 32
  pub steps : card.steps < 2 ^ 32
  pub pc : card.pc < 2 ^ 32
  pub flags : card.flags < 2 ^ 32
  pub remainder : card.remainder < 2 ^ 32
  pub accumulator : card.accumulator < 2 ^ 32

pub record ReadsBack : Type 0 where
  pub cards : (card : Card) → Fits card → explanation_of (card_text card) ≡ filled (bytes (run_text card.answer)) card.pc card.steps
  pub checks : (answer address : ℕ) → answer < 2 ^ 32 → address < 2 ^ 32
      → explanation_of (check_lines answer address) ≡ filled (bytes (check_text answer)) address 0
