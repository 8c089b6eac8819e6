-- Each arm of the match is a row of the table.
use Rattle.std.proofs.Common.{◌≡◌, ℕ, ap, arith, ne_eqb, sym}
use Rattle.text.specs.Bytes.{bytes}
use Rattle.sentences.specs.Table.{call_rows, text_in, call_text, unknown_text}
use Rattle.sentences.proofs.text_of_call.Goals as goal

pub returns-in-31 : goal.returns-in-31
unfolding call_rows text_in call_text bytes
returns-in-31 c = rw c.in-31.is

pub returns-in-32 : goal.returns-in-32
unfolding call_rows text_in call_text bytes
returns-in-32 c = rw c.in-32.is

pub returns-in-33 : goal.returns-in-33
unfolding call_rows text_in call_text bytes
returns-in-33 c = rw c.in-33.is

pub returns-in-34 : goal.returns-in-34
unfolding call_rows text_in call_text bytes
returns-in-34 c = rw c.in-34.is

pub returns-in-35 : goal.returns-in-35
unfolding call_rows text_in call_text bytes
returns-in-35 c = rw c.in-35.is

-- A number that no row has.
unknown : (n : ℕ) → (n ≡ 31 → ⊥) → (n ≡ 32 → ⊥) → (n ≡ 33 → ⊥) → (n ≡ 34 → ⊥) → (n ≡ 35 → ⊥) → call_text n ≡ unknown_text
unfolding call_rows text_in call_text
unknown n a b c d e = simp (ne_eqb n 31 a, ne_eqb n 32 b, ne_eqb n 33 c, ne_eqb n 34 d, ne_eqb n 35 e)

pub returns-in_default : goal.returns-in_default
unfolding bytes
returns-in_default c = sym (ap bytes (unknown c.args.answer (omega arith) (omega arith) (omega arith) (omega arith) (omega arith)))
