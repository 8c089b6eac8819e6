-- The code read straight through: what stands at each address, and what is carried along from one instruction to the next.
use Rattle.std.specs.Prelude.{ℕ, ◌+◌, ◌-◌, ◌<◌, Bool, true, false, List, length, Option}
use Rattle.items.specs.declared.Item.{Item}
use Rattle.items.specs.declared.Shape.{Shape}
use Rattle.items.specs.declared.Shape.TheVariants.{Movei, MovePc, Jr, Jump}
use Rattle.items.specs.Items.{item_of, shape_of, bytes_of}
use Rattle.processor.specs.Processor.{Processor}

-- rule 4's "JR, JUMP, MOVEI or MOVE PC"
abbrev pub breaks_slot : Shape → Bool
breaks_slot (Jr n c) = true
breaks_slot (Jump r c) = true
breaks_slot (Movei d v) = true
breaks_slot MovePc = true
breaks_slot _ = false

module _ (P : Processor) (code : List ℕ) where
  -- the first address behind the code
  abbrev pub end_of : ℕ
  end_of = P.base + length code

  unfoldable pub item_at : ℕ → Option Item
  item_at a = item_of P code (a - P.base)

  abbrev pub shape_at : ℕ → Shape
  shape_at a = shape_of (item_at a)

  -- the address of the instruction after the one at a
  abbrev pub after : ℕ → ℕ
  after a = a + bytes_of (shape_at a)

  -- what is carried along where nothing is learnt: the instruction before
  abbrev pub before : ℕ → Option Item → Option Item
  before a p = item_at a

-- Reading straight through comes to the address a, and carries x there. `flow a x` is what the instruction at a makes of x.
pub data Reads (P : Processor) (code : List ℕ) (X : Type 0) (x₀ : X) (flow : ℕ → X → X) : ℕ → X → Type 0 where
  first : Reads P code X x₀ flow P.base x₀
  next : {a : ℕ} {x : X} → Reads P code X x₀ flow a x → a < end_of P code → Reads P code X x₀ flow (after P code a) (flow a x)
