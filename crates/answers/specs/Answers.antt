-- How instructions end, and the answers of a run, each with paper 01's number.
use Rattle.std.specs.Prelude.{ℕ, Result, Ok, Err}
use Rattle.answers.specs.declared.Fault.{Fault}
use Rattle.answers.specs.declared.Fault.TheVariants.{NotBuilt, BadCounter, Misaligned, Unmapped, JumpPending}
use Rattle.answers.specs.declared.Activity.{Activity}
use Rattle.answers.specs.declared.Activity.TheVariants as A
use Rattle.answers.specs.declared.Answer.{Answer}
use Rattle.answers.specs.declared.Answer.TheVariants.{Running, Stopped, Faulted, RamLength, BudgetLimit, BlockRule, BlockLength}

-- "A fault is a number, other than 31, from the order for a step: here 11 to 15."
abbrev pub fault_of : Fault → ℕ
fault_of NotBuilt = 11
fault_of BadCounter = 12
fault_of Misaligned = 13
fault_of Unmapped = 14
fault_of JumpPending = 15

-- "Numbers that come back", but for those of the loading check.
abbrev pub number_of : Answer → ℕ
number_of Running = 0
number_of Stopped = 1
number_of (Faulted f) = fault_of f
number_of RamLength = 31
number_of BudgetLimit = 32
number_of BlockRule = 34
number_of BlockLength = 35

-- How an instruction ended: completed, and whether the machine runs on; or why it was not completed.
abbrev pub End : Type 0
End = Result Activity Fault

-- What a run answers whose instructions ended so: "A stop on the last budgeted step gives 1".
abbrev pub answer_of : End → Answer
answer_of (Ok A.Running) = Running
answer_of (Ok A.Stopped) = Stopped
answer_of (Err f) = Faulted f
