-- The call: "The same run is called from the kiosk's C program with RAM, a budget and a state block of 276 bytes".
use Rattle.std.specs.Prelude.{ℕ, ◌+◌, ◌*◌, cond, List, length, ◌==◌, nat_lt}
use Rattle.processor.specs.Processor.{gpu}
use Rattle.answers.specs.Answers.{number_of}
use Rattle.answers.specs.declared.Answer.TheVariants.{RamLength, BudgetLimit, BlockRule, BlockLength}
use Rattle.verdicts.specs.Verdicts.{Verdict, verdict_number, verdict_address}
use Rattle.gpu_core.specs.Machine.{Memory}
use Rattle.machine.specs.Run.{Result, run_of, budget_limit}
use Rattle.block.specs.Block.{block_length, is_valid, state_at, put_state}

-- The reply, and memory and the block after the call.
pub record Call : Type 0 where
  pub reply : ℕ
  pub memory : Memory
  pub block : List ℕ

abbrev pub called : ℕ → Memory → List ℕ → Call
called reply memory block = record { reply = reply; memory = memory; block = block }

-- "The 64-bit reply is answer + 256 × steps."
abbrev pub ran_on : List ℕ → Result → Call
ran_on block r =
    called (number_of r.ran.answer + 256 * r.ran.steps) r.memory (put_state block r.ran.state)

-- "Order for a run: 31, 35, 34, 32."
unfoldable pub call_of : Memory → List ℕ → ℕ → Call
call_of memory block budget =
    cond (length memory.ram == gpu.size)
    (cond (length block == block_length)
    (cond (is_valid block)
    (cond (nat_lt budget_limit budget) (called (number_of BudgetLimit) memory block) (ran_on block (run_of gpu memory (state_at block) budget)))
    (called (number_of BlockRule) memory block))
    (called (number_of BlockLength) memory block))
    (called (number_of RamLength) memory block)

-- The check's reply: answer + 256 × address.
abbrev pub check_reply : Verdict → ℕ
check_reply v = verdict_number v + 256 * verdict_address v
