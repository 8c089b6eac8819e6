-- Demand 3 as the kiosk's C program meets it: one call after another on two buffers, with an admitted program.
use Rattle.std.specs.Prelude.{◌≡◌, ℕ, ◌%◌, ◌≤◌, true, List, [], ◌∷◌, length, take}
use Rattle.processor.specs.Processor.{gpu}
use Rattle.machine.specs.Run.{budget_limit}
use Rattle.gpu_core.specs.Machine.{Memory}
use Rattle.gpu_core.specs.Types.{IsBytes, IsMemory}
use Rattle.rules.specs.Check.{check_of}
use Rattle.rules.specs.Rules.{IsStart}
use Rattle.rules.specs.Safety.{StartState}
use Rattle.block.specs.Block.{block_length, pc_index, block_long, is_valid, state_at}
use Rattle.calls.specs.Call.{Call, called, call_of, check_reply}

-- The buffers before the next call: each call goes on with what the one before left in them, and nobody else writes there.
unfoldable pub after_calls : List ℕ → Call → Call
after_calls [] c = c
after_calls (budget ∷ budgets) c = after_calls budgets (call_of c.memory c.block budget)

-- What the kiosk hands over at the start: RAM with the admitted code at its start, whatever stands behind it, and a valid block of
-- "any state that is running, with the counter at the first instruction and no jump pending".
pub record HandedOver (admitted : List ℕ) (C : ℕ) (memory : Memory) (block : List ℕ) : Type 0 where
  -- that the two buffers hold bytes is what `gpu_run` promises of them
  pub is_memory : IsMemory gpu.size memory
  pub whole_block : length block ≡ block_length
  pub block_bytes : IsBytes block
  pub same_code : take C memory.ram ≡ take C admitted
  pub valid : is_valid block ≡ true
  pub begins : StartState gpu (state_at block)

-- What a call gives: the answer, the low byte of the reply, is 0 or 1; the code is in RAM byte for byte; and the counter in
-- the block is an instruction start.
pub record SafeCall (code : List ℕ) (c : Call) : Type 0 where
  pub answers : c.reply % 256 ≤ 1
  pub same_code : take (length code) c.memory.ram ≡ code
  pub at_start : IsStart gpu code (block_long c.block pc_index)

-- Of a program that the check replied 0 to, every call with an allowed budget gives this, whatever calls came before.
pub record Display : Type 0 where
  pub shows : (admitted : List ℕ) (C : ℕ) → check_reply (check_of gpu admitted C) ≡ 0 → (memory : Memory) (block : List ℕ) → HandedOver admitted C memory block
      → (budgets : List ℕ) (budget : ℕ) → budget ≤ budget_limit
      → SafeCall (take C admitted) (after_calls (budget ∷ []) (after_calls budgets (called 0 memory block)))
