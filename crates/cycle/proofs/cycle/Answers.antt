-- `cycle` meets its contract: one more instruction by how it ended, and nothing behind the budget.
use Rattle.std.proofs.Common.{Ok, sym, ◌∙◌, arith, rules}
use Rattle.answers.specs.declared.Activity.TheVariants as A
use Rattle.cycle.proofs.Runs.{spent, one}
use Rattle.cycle.proofs.cycle.Goals as goal

pub returns-in-Ok-Stopped : goal.returns-in-Ok-Stopped
returns-in-Ok-Stopped c =
    sym (one _ _ _ _ (omega (arith, c.loop-steps-test.true)) _ (Ok A.Stopped) (search rules) _ _ _ _ c.advance-end.ensures ∙ search rules) ∙ c.loop-steps.invariant

pub returns-in-Err : goal.returns-in-Err
returns-in-Err c =
    sym (one _ _ _ _ (omega (arith, c.loop-steps-test.true)) _ _ c.in-Err.is _ _ _ _ c.advance-end.ensures ∙ rw c.in-Err.is) ∙ c.loop-steps.invariant

pub loop-steps-preserved : goal.loop-steps-preserved
loop-steps-preserved c =
    sym (one _ _ _ _ (omega (arith, c.loop-steps-test.true)) _ (Ok A.Running) (search rules) _ _ _ _ c.advance-end.ensures) ∙ c.loop-steps.invariant

pub returns : goal.returns
returns c = sym (spent _ _ _ _ (omega (arith, c.loop-steps-test.false, c.loop-steps.auto.steps-end))) ∙ c.loop-steps.invariant
