-- What stands in the code, told by its offset from the start.
use Rattle.std.specs.Prelude.{ℕ, ◌≤◌, ◌<◌, ◌≡◌, List, length, Option}
use Rattle.processor.specs.Processor.{Processor}
use Rattle.items.specs.declared.Item.{Item}
use Rattle.items.specs.Items.{item_of}

-- t stands at the offset i of code that fits RAM
pub record Here (P : Processor) (code : List ℕ) (i : ℕ) (t : Option Item) : Type 0 where
  pub fits : length code ≤ P.size
  pub inside : i < length code
  pub same : t ≡ item_of P code i
