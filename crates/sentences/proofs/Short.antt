-- Each text of the table is short enough, by computing.
-- Assumes nothing.
use Rattle.std.proofs.Common.{◌≡◌, ℕ, ◌≤◌, Bool, true, false, cond, List, [], ◌∷◌, refl}
use borrow.Author.Tests.{leb-true}
use lib.Dec.{eqb, leb}
use Prim.Native.String.{String}
use Rattle.text.specs.Bytes.{bytes}
use Rattle.template.specs.Fill.{room_of}
use Rattle.sentences.specs.Table.{Row, run_rows, check_rows, call_rows, unknown_text, text_in, run_text, check_text, call_text}

abbrev Short : String → Type 0
Short text = room_of (bytes text) ≤ 1024

-- Each text of the rows, by a test that computes.
all_short : List Row → Bool
all_short [] = true
all_short (r ∷ rs) = cond (leb (room_of (bytes r.text)) 1024) (all_short rs) false

found : (rs : List Row) (n : ℕ) (otherwise : String) → all_short rs ≡ true → Short otherwise → Short (text_in rs n otherwise)
unfolding text_in all_short
found [] n otherwise rows h = h
found (r ∷ rs) n otherwise rows h = go (leb (room_of (bytes r.text)) 1024) (eqb n r.number) refl rows (λ later. found rs n otherwise later h) where
  go : (s b : Bool) → leb (room_of (bytes r.text)) 1024 ≡ s → cond s (all_short rs) false ≡ true → (all_short rs ≡ true → Short (text_in rs n otherwise)) → Short (cond b r.text (text_in rs n otherwise))
  go true true e rows later = leb-true _ 1024 e
  go true false e rows later = later rows
  go false b e rows later = cc

call : (n : ℕ) → Short (call_text n)
unfolding call_text call_rows bytes room_of all_short
call n = found call_rows n unknown_text refl (leb-true _ 1024 refl)

pub run : (n : ℕ) → room_of (bytes (run_text n)) ≤ 1024
unfolding run_text run_rows bytes room_of all_short
run n = found run_rows n (call_text n) refl (call n)

pub check : (n : ℕ) → room_of (bytes (check_text n)) ≤ 1024
unfolding check_text check_rows bytes room_of all_short
check n = found check_rows n (call_text n) refl (call n)
