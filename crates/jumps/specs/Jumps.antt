-- What comes of a jump.
use Rattle.std.specs.Prelude.{ℕ, cond, Option, Some, None, Ok}
use Rattle.branch.specs.Jump.{taken_of}
use Rattle.answers.specs.declared.Fault.TheVariants.{JumpPending}
use Rattle.answers.specs.declared.Activity.TheVariants as A
use Rattle.gpu_core.specs.declared.Core.{Core}
use Rattle.gpu_core.specs.Core.{moved_of}
use Rattle.outcome.specs.Outcome.{Moved, moved_with, faulted_of, done_of}

-- "A taken jump makes the target pending"; 15 is "JR, JUMP, MOVEI or MOVE PC while a jump is pending".
abbrev pub jump_of : Core → Option ℕ → ℕ → ℕ → Moved
jump_of k (Some t) condition target = faulted_of JumpPending k
jump_of k None condition target =
    cond (taken_of condition k.flags) (moved_with (Ok A.Running) (moved_of k (Some target))) (done_of k)
