-- The code tells the text behind a line by the place at which it starts, counted from the start of the whole text.
use Rattle.std.specs.Prelude.{ℕ, ◌-◌, Option, Some, None, List, length}
use Rattle.scanner.specs.Lines.{Line}

-- A line of the text s, with its place. No line begins at the end of a text or beyond it.
abbrev pub placed_in : List ℕ → Line → Option (ℕ × ℕ)
placed_in s (Some (n, rest)) = Some (n, length s - length rest)
placed_in s None = None
