-- The call as it begins, and what follows.
-- Assumes nothing.
use Rattle.std.proofs.Common.{◌≡◌, ℕ, Bool, true, false, cond, List, length, Result, Ok, Err, nat_lt, refl}
use Rattle.std.specs.Prelude.{◌==◌}
use Rattle.processor.specs.Processor.{gpu}
use Rattle.answers.specs.Answers.{number_of}
use Rattle.answers.specs.declared.Answer.{Answer}
use Rattle.answers.specs.declared.Answer.TheVariants.{RamLength, BudgetLimit, BlockRule, BlockLength}
use Rattle.gpu_core.specs.Machine.{Memory}
use Rattle.machine.specs.declared.State.{State}
use Rattle.machine.specs.Run.{run_of, budget_limit}
use Rattle.block.specs.Block.{block_length, is_valid, state_at}
use Rattle.calls.specs.Call.{Call, called, ran_on, call_of}
use Rattle.kiosk.specs.Refusals.{admitted_of}

module _ (memory : Memory) (block : List ℕ) (budget : ℕ) where
  abbrev pub follows : Result State Answer → Call
  follows (Ok s) = ran_on block (run_of gpu memory s budget)
  follows (Err refused) = called (number_of refused) memory block

  pub told : call_of memory block budget ≡ follows (admitted_of memory.ram block budget)
  unfolding call_of admitted_of
  told = go (length memory.ram == gpu.size) (length block == block_length) (is_valid block) (nat_lt budget_limit budget)
    where
      go : (whole long valid above : Bool)
          → cond whole (cond long (cond valid (cond above (follows (Err BudgetLimit)) (follows (Ok (state_at block)))) (follows (Err BlockRule))) (follows (Err BlockLength))) (follows (Err RamLength))
          ≡ follows (cond whole (cond long (cond valid (cond above (Err BudgetLimit) (Ok (state_at block))) (Err BlockRule)) (Err BlockLength)) (Err RamLength))
      go false long valid above = refl
      go true false valid above = refl
      go true true false above = refl
      go true true true false = refl
      go true true true true = refl
