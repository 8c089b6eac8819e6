-- What is said of a text that the run program or the loading check printed, or of any other.
use Rattle.std.specs.Prelude.{ℕ, Result, Ok, Err, List}
use Rattle.text.specs.Bytes.{bytes}
use Rattle.parser.specs.declared.Reading.{Reading}
use Rattle.parser.specs.declared.Reading.TheVariants.{Card, Check}
use Rattle.parser.specs.declared.NotRead.{NotRead}
use Rattle.parser.specs.declared.NotRead.TheVariants.{Damaged, NotACard}
use Rattle.parser.specs.Readings.{reading_of}
use Rattle.template.specs.Fill.{filled}
use Rattle.sentences.specs.Table.{run_text, check_text, damaged, no_card}

-- The card's own address is its counter. The check counts no steps.
abbrev pub said : Result Reading NotRead → List ℕ
said (Ok (Card answer steps pc)) = filled (bytes (run_text answer)) pc steps
said (Ok (Check answer address)) = filled (bytes (check_text answer)) address 0
said (Err (Damaged line)) = filled (bytes damaged) 0 line
said (Err NotACard) = filled (bytes no_card) 0 0

unfoldable pub explanation_of : List ℕ → List ℕ
explanation_of text = said (reading_of text)
