-- What a text says: the card of a run, the answer of the loading check, or neither.
use Rattle.std.specs.Prelude.{ℕ, Some, None, Result, Ok, Err, ok_or, List, [], ◌∷◌}
use Rattle.parser.specs.declared.Reading.{Reading}
use Rattle.parser.specs.declared.Reading.TheVariants.{Card, Check}
use Rattle.parser.specs.declared.NotRead.{NotRead}
use Rattle.parser.specs.declared.NotRead.TheVariants.{Damaged, NotACard}
use Rattle.scanner.specs.Lines.{Line, decimal, hexadecimal, line_in}

-- Goes on with what was read, or keeps what is wrong with the text.
infixl 10 ◌>>=◌
abbrev pub ◌>>=◌ : {A B : Type 0} → Result A NotRead → (A → Result B NotRead) → Result B NotRead
Ok a >>= go = go a
Err wrong >>= go = Err wrong

abbrev pub at_end : List ℕ → NotRead → Reading → Result Reading NotRead
at_end [] wrong whole = Ok whole
at_end (c ∷ cs) wrong whole = Err wrong

-- The check prints its answer and, as the second line, an address.
unfoldable pub check_reading : ℕ → List ℕ → Result Reading NotRead
check_reading answer t = do
  (address, t) ← ok_or (line_in hexadecimal "address=" t) (Damaged 2)
  at_end t (Damaged 3) (Check answer address)

-- The lines of a card behind its steps.
unfoldable pub card_reading : ℕ → ℕ → List ℕ → Result Reading NotRead
card_reading answer steps t = do
  (pc, t) ← ok_or (line_in hexadecimal "pc=" t) (Damaged 3)
  (flags, t) ← ok_or (line_in hexadecimal "flags=" t) (Damaged 4)
  (remainder, t) ← ok_or (line_in hexadecimal "remain=" t) (Damaged 5)
  (accumulator, t) ← ok_or (line_in hexadecimal "acc=" t) (Damaged 6)
  at_end t (Damaged 7) (Card answer steps pc)

-- Behind the answer come the lines of a card, which begin with its steps, or that of the check.
abbrev pub rest_reading : ℕ → List ℕ → Line → Result Reading NotRead
rest_reading answer t (Some (steps, rest)) = card_reading answer steps rest
rest_reading answer t None = check_reading answer t

-- A text that does not begin with a line answer= is no card.
unfoldable pub reading_of : List ℕ → Result Reading NotRead
reading_of t = do
  (answer, t) ← ok_or (line_in decimal "answer=" t) NotACard
  rest_reading answer t (line_in decimal "steps=" t)
