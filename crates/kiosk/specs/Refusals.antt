-- How a call of gpu_run begins: refused, or from the state in the block.
use Rattle.std.specs.Prelude.{ℕ, cond, List, length, Result, Ok, Err, ◌==◌, nat_lt}
use Rattle.processor.specs.Processor.{gpu}
use Rattle.answers.specs.declared.Answer.{Answer}
use Rattle.answers.specs.declared.Answer.TheVariants.{RamLength, BudgetLimit, BlockRule, BlockLength}
use Rattle.machine.specs.declared.State.{State}
use Rattle.machine.specs.Run.{budget_limit}
use Rattle.block.specs.Block.{block_length, is_valid, state_at}

-- "Order for a run: 31, 35, 34, 32."
unfoldable pub admitted_of : List ℕ → List ℕ → ℕ → Result State Answer
admitted_of ram block budget =
    cond (length ram == gpu.size)
    (cond (length block == block_length)
    (cond (is_valid block) (cond (nat_lt budget_limit budget) (Err BudgetLimit) (Ok (state_at block))) (Err BlockRule))
    (Err BlockLength))
    (Err RamLength)
