-- What is written of a reading is the explanation of the text that was so read.
-- Assumes nothing.
use Prim.Native.Nat.{ℕ}
use mathlib.Core.Path.{◌≡◌, sym, ap, ◌∙◌}
use mathlib.Core.List.{List}
use Rattle.std.proofs.Common.{Result}
use Rattle.parser.specs.declared.Reading.{Reading}
use Rattle.parser.specs.declared.NotRead.{NotRead}
use Rattle.parser.specs.Readings.{reading_of}
use Rattle.advice.specs.Explanation.{said, explanation_of}

pub explained : (text : List ℕ) {written : List ℕ} {v : Result Reading NotRead} → reading_of text ≡ v → written ≡ said v → written ≡ explanation_of text
unfolding explanation_of
explained text e w = w ∙ ap said (sym e)
