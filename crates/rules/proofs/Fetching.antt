-- Fetching sees the code: an instruction that ends in the code is fetched from RAM as the code has it.
-- Assumes nothing.
use Rattle.std.proofs.Common.{◌≡◌, ℕ, ◌+◌, ◌-◌, ◌*◌, ◌%◌, ◌^◌, ◌≤◌, List, length, take, refl, Ok, ◌∙◌, ap₂, arith, get_or-take, le-ltb, lt-ltb, ne_eqb}
use lib.Seq.{take-set-le}
use Rattle.processor.specs.Processor.{Processor, Sound}
use Rattle.memory.specs.Memory.{word_at, put_long, fetch_of, immediate_of}
use Rattle.items.specs.declared.Shape.{Shape}
use Rattle.items.specs.declared.Shape.TheVariants.{Other, Movei, MovePc, Jr, Jump, Load, Store}
use Rattle.items.specs.Items.{bytes_of}
use Rattle.rules.specs.Reading.{shape_at, Reads, first, next}

bytes_even : (s : Shape) → bytes_of s % 2 ≡ 0
bytes_even Other = refl
bytes_even (Movei d v) = refl
bytes_even MovePc = refl
bytes_even (Jr n c) = refl
bytes_even (Jump r c) = refl
bytes_even (Load m) = refl
bytes_even (Store m) = refl

-- an instruction has an even address, from the base on
pub reads_even : {P : Processor} {code : List ℕ} {X : Type 0} {x₀ : X} {flow : ℕ → X → X} {a : ℕ} {x : X} → P.base % 4 ≡ 0 → Reads P code X x₀ flow a x → (a % 2 ≡ 0) × (P.base ≤ a)
reads_even b first = (omega arith, omega arith)
reads_even {P} {code} b (next {a} r l) =
    let q = reads_even b r in
    (omega (arith, bytes_even (shape_at P code a), q.0), omega (arith, q.1))

-- a word in the first n bytes
pub word_same : (n : ℕ) (ram : List ℕ) (i : ℕ) → i + 2 ≤ n → word_at (take n ram) i ≡ word_at ram i
word_same n ram i h =
    ap₂ (λ (x y : ℕ). x * 256 + y) (get_or-take n ram i 0 (omega arith)) (get_or-take n ram (i + 1) 0 (omega arith))

module _ (P : Processor) (ram : List ℕ) (whole : length ram ≡ P.size) where
  pub fetched : (a : ℕ) → a % 2 ≡ 0 → P.base ≤ a → a + 2 ≤ P.base + P.size → fetch_of P ram a ≡ Ok (word_at ram (a - P.base))
  fetched a even low high =
      rw (le-ltb a P.base low, ne_eqb (a % 2) 1 (λ e. omega arith), lt-ltb (a - P.base + 1) (length ram) (omega arith))

  -- the long behind a MOVEI
  pub fetched_long : Sound P → (a : ℕ) → a % 2 ≡ 0 → P.base ≤ a → a + 6 ≤ P.base + P.size → immediate_of P ram a ≡ Ok (word_at ram (a - P.base + 4) * 2 ^ 16 + word_at ram (a - P.base + 2))
  unfolding immediate_of
  fetched_long sound a even low high =
      let two : (a + 2) % 2 ^ 32 ≡ a + 2 = omega (arith, sound.top) in
      let four : (a + 4) % 2 ^ 32 ≡ a + 4 = omega (arith, sound.top) in
      let i : a + 2 - P.base ≡ a - P.base + 2 = omega arith in
      let j : a + 4 - P.base ≡ a - P.base + 4 = omega arith in
      rw (two, four, fetched (a + 2) (omega arith) (omega arith) (omega arith), fetched (a + 4) (omega arith) (omega arith) (omega arith), i, j)

-- a store behind the first n bytes leaves them
pub behind : (n : ℕ) (ram : List ℕ) (i v : ℕ) → n ≤ i → take n (put_long ram i v) ≡ take n ram
behind n ram i v h =
    take-set-le n _ (i + 3) _ (omega arith)
    ∙ take-set-le n _ (i + 2) _ (omega arith)
    ∙ take-set-le n _ (i + 1) _ (omega arith)
    ∙ take-set-le n ram i _ h
