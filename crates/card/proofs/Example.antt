-- The example card of 01, letter by letter, and the decimals of the least and the largest number: by computing.
-- Assumes nothing.
use Rattle.std.proofs.Common.{◌≡◌, [], ◌∷◌, refl}
use Rattle.text.specs.Bytes.{bytes}
use Rattle.lines.specs.Lines.{line_of}
use Rattle.text.specs.Digits.{hex_digits, decimal_digits, decimal_of}
use Rattle.card.specs.Text.{card_text}

example : card_text (record { answer = 1; steps = 3; pc = 15740938; flags = 0; remainder = 0; accumulator = 0 }) ≡
    -- answer=1
    97 ∷ 110 ∷ 115 ∷ 119 ∷ 101 ∷ 114 ∷ 61 ∷ 49 ∷ 10 ∷
    -- steps=3
    115 ∷ 116 ∷ 101 ∷ 112 ∷ 115 ∷ 61 ∷ 51 ∷ 10 ∷
    -- pc=00F0300A
    112 ∷ 99 ∷ 61 ∷ 48 ∷ 48 ∷ 70 ∷ 48 ∷ 51 ∷ 48 ∷ 48 ∷ 65 ∷ 10 ∷
    -- flags=00000000
    102 ∷ 108 ∷ 97 ∷ 103 ∷ 115 ∷ 61 ∷ 48 ∷ 48 ∷ 48 ∷ 48 ∷ 48 ∷ 48 ∷ 48 ∷ 48 ∷ 10 ∷
    -- remain=00000000
    114 ∷ 101 ∷ 109 ∷ 97 ∷ 105 ∷ 110 ∷ 61 ∷ 48 ∷ 48 ∷ 48 ∷ 48 ∷ 48 ∷ 48 ∷ 48 ∷ 48 ∷ 10 ∷
    -- acc=00000000
    97 ∷ 99 ∷ 99 ∷ 61 ∷ 48 ∷ 48 ∷ 48 ∷ 48 ∷ 48 ∷ 48 ∷ 48 ∷ 48 ∷ 10 ∷ []
unfolding bytes card_text line_of decimal_of decimal_digits hex_digits
example = refl

least : decimal_of 0 ≡ 48 ∷ []
unfolding decimal_of decimal_digits
least = refl

largest : decimal_of 4294967295 ≡ 52 ∷ 50 ∷ 57 ∷ 52 ∷ 57 ∷ 54 ∷ 55 ∷ 50 ∷ 57 ∷ 53 ∷ []
unfolding decimal_of decimal_digits
largest = refl
