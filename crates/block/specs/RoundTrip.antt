-- Reading a block and writing it undo each other.
use Rattle.std.specs.Prelude.{◌≡◌, ℕ, true, List}
use Rattle.machine.specs.declared.State.{State}
use Rattle.block.specs.Block.{is_valid, state_at, put_state}

-- What holds of s, the state read from a block: written back it gives the same block, if the rules let that through.
pub record RestoresBlock (block : List ℕ) (s : State) : Type 0 where
  pub back : is_valid block ≡ true → put_state block s ≡ block

-- What holds of a block that s was written to: the rules let it through, and the state read from it is s.
pub record RestoresState (s : State) (block : List ℕ) : Type 0 where
  pub valid : is_valid block ≡ true
  pub back : state_at block ≡ s
