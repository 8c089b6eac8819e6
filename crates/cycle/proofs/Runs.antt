-- How a run goes on: once the budget is spent, and by how an instruction ended.
-- Assumes nothing.
use Rattle.std.proofs.Common.{◌≡◌, ℕ, suc, ◌+◌, ◌-◌, ◌<◌, List, ap, ◌∙◌, arith, Ok}
use Rattle.processor.specs.Processor.{Processor}
use Rattle.answers.specs.declared.Activity.TheVariants as A
use Rattle.answers.specs.Answers.{End}
use Rattle.gpu_core.specs.declared.Core.{Core}
use Rattle.gpu_core.specs.Machine.{Memory, Machine, machine_with}
use Rattle.outcome.specs.Outcome.{moved_with, outcome_with}
use Rattle.cpu.specs.Step.{advance_of}
use Rattle.cycle.specs.Runs.{followed_by, runs_of}

module _ (P : Processor) (budget n : ℕ) (m : Machine) where
  pub spent : n ≡ budget → runs_of P (budget - n) n m ≡ record { end = Ok A.Running; steps = budget; machine = m }
  unfolding runs_of
  spent e = let z : budget - n ≡ 0 = omega arith in rw (z, e)

  -- by how the instruction ended
  pub one : n < budget → (end t : End) → end ≡ t → (k : Core) (a o : List ℕ) (memory : Memory) → outcome_with (moved_with end k) a o memory ≡ advance_of P m
      → runs_of P (budget - n) n m ≡ followed_by t n (machine_with a o k memory) (runs_of P (budget - (n + 1)) (n + 1) (machine_with a o k memory))
  unfolding runs_of
  one more end t so k a o memory took =
      let e : budget - n ≡ suc (budget - (n + 1)) = omega arith in ap (λ b. runs_of P b n m) e ∙ rw (← took, so)
