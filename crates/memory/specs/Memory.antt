-- Local RAM, over a processor's constants: a list of bytes, "longs and words high byte first".
use Rattle.std.specs.Prelude.{ℕ, ◌+◌, ◌-◌, ◌*◌, ◌/◌, ◌%◌, ◌^◌, cond, List, length, ◌==◌, nat_lt, slice_index, slice_set, Result, Ok, Err}
use Rattle.answers.specs.declared.Fault.{Fault}
use Rattle.answers.specs.declared.Fault.TheVariants.{BadCounter}
use Rattle.processor.specs.Processor.{Processor}

abbrev pub word_at : List ℕ → ℕ → ℕ
word_at ram i = slice_index ram i * 256 + slice_index ram (i + 1)

abbrev pub long_at : List ℕ → ℕ → ℕ
long_at ram i =
    slice_index ram i * 2 ^ 24 + slice_index ram (i + 1) * 2 ^ 16 + slice_index ram (i + 2) * 256 + slice_index ram (i + 3)

abbrev pub put_long : List ℕ → ℕ → ℕ → List ℕ
put_long ram i v =
    slice_set (slice_set (slice_set (slice_set ram i (v / 2 ^ 24 % 256)) (i + 1) (v / 2 ^ 16 % 256)) (i + 2) (v / 256 % 256)) (i + 3) (v % 256)

-- "counter odd, or instruction not wholly in local RAM"
abbrev pub no_word : Result ℕ Fault
no_word = Err BadCounter

-- The word at a counter.
abbrev pub fetch_of : Processor → List ℕ → ℕ → Result ℕ Fault
fetch_of P ram pc =
    cond (nat_lt pc P.base) no_word
    (cond (pc % 2 == 1) no_word
    (cond (nat_lt (pc - P.base + 1) (length ram)) (Ok (word_at ram (pc - P.base))) no_word))

-- "MOVEI is followed by the low word, then the high word."
abbrev pub high_of : ℕ → Result ℕ Fault → Result ℕ Fault
high_of low (Ok high) = Ok (high * 2 ^ 16 + low)
high_of low (Err f) = Err f

abbrev pub low_of : Result ℕ Fault → Result ℕ Fault → Result ℕ Fault
low_of (Ok low) second = high_of low second
low_of (Err f) second = Err f

unfoldable pub immediate_of : Processor → List ℕ → ℕ → Result ℕ Fault
immediate_of P ram pc = low_of (fetch_of P ram ((pc + 2) % 2 ^ 32)) (fetch_of P ram ((pc + 4) % 2 ^ 32))
