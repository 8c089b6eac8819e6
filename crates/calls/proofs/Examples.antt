-- That the claim about a display is not vacuous: 01's card, handed over with the block of a machine that begins, is call-safe by every call,
-- and no assumption is left but the budget's limit.
-- Assumes nothing.
use Rattle.std.proofs.Common.{ℕ, ◌*◌, ◌≤◌, List, [], ◌∷◌, take, replicate, refl, ap, arith}
use Rattle.memory.specs.Memory.{put_long}
use Rattle.processor.specs.Processor.{gpu}
use Rattle.gpu_core.specs.Machine.{lent}
use Rattle.machine.specs.Run.{budget_limit}
use Rattle.rules.proofs.Examples.{card, card_admitted, card_memory, below, below_at}
use Rattle.block.specs.Block.{block_length, pc_index, status_index, longs, state_at}
use Rattle.calls.specs.Call.{called, check_reply}
use Rattle.calls.specs.Display.{after_calls, HandedOver, SafeCall}
use Rattle.calls.proofs.Calls.{display}

-- "starts at F03000h, running, all else zero"
pub start : List ℕ
start = put_long (put_long (replicate block_length 0) (4 * pc_index) gpu.base) (4 * status_index) 0x10000

handed_over : HandedOver card 16 (lent card) start
unfolding start below state_at longs
handed_over =
    record {
      is_memory = card_memory;
      whole_block = refl;
      block_bytes = record { bytes = below_at 256 (omega arith) start refl };
      same_code = refl;
      valid = refl;
      begins = record { runs = refl; at_first = refl; none_pending = refl };
    }

pub card_call_safe : (budgets : List ℕ) (budget : ℕ) → budget ≤ budget_limit → SafeCall (take 16 card) (after_calls (budget ∷ []) (after_calls budgets (called 0 (lent card) start)))
card_call_safe = display.shows card 16 (ap check_reply card_admitted) (lent card) start handed_over
