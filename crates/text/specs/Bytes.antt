-- A text in quotes as its bytes. Every text here is ASCII, so that a character's code is its byte.
use Rattle.std.specs.Prelude.{ℕ, List, [], ◌∷◌}
use Prim.Native.Char.{code}
use Prim.Native.String.{String, [] as end, ◌∷◌ as ◌before◌}

unfoldable pub bytes : String → List ℕ
bytes end = []
bytes (c before s) = code c ∷ bytes s
