-- The check's answers, each with paper 01's number and the address told.
use Rattle.std.specs.Prelude.{ℕ, ◌+◌, cond, eqb, Result, Ok, Err}
use Rattle.verdicts.specs.declared.Rule.{Rule}
use Rattle.verdicts.specs.declared.Rule.TheVariants.{AllBuilt, JrTarget, JumpTarget, DelaySlot, Ending, Access}
use Rattle.verdicts.specs.declared.Refusal.{Refusal}
use Rattle.verdicts.specs.declared.Refusal.TheVariants.{RamLength, CodeLength, Broken}

-- What the check answers: the code is admitted, or why not.
abbrev pub Verdict : Type 0
Verdict = Result (Unit {0}) Refusal

-- The rules under "The six loading rules".
abbrev pub rule_number : Rule → ℕ
rule_number AllBuilt = 1
rule_number JrTarget = 2
rule_number JumpTarget = 3
rule_number DelaySlot = 4
rule_number Ending = 5
rule_number Access = 6

-- and back, for a number from 1 to 6
abbrev pub rule_of : ℕ → Rule
rule_of n =
    cond (eqb n 1) AllBuilt (cond (eqb n 2) JrTarget (cond (eqb n 3) JumpTarget (cond (eqb n 4) DelaySlot (cond (eqb n 5) Ending Access))))

-- 21 to 26 are "loading rule 1 to 6 broken", 31 is "RAM length is not 4,096", and 33 is
-- "code length not 4 to 4,096, or not a multiple of 4".
abbrev pub verdict_number : Verdict → ℕ
verdict_number (Ok u) = 0
verdict_number (Err RamLength) = 31
verdict_number (Err CodeLength) = 33
verdict_number (Err (Broken r a)) = 20 + rule_number r

-- "with the instruction's address"; "0, 31 and 33 tell address 0."
abbrev pub verdict_address : Verdict → ℕ
verdict_address (Ok u) = 0
verdict_address (Err RamLength) = 0
verdict_address (Err CodeLength) = 0
verdict_address (Err (Broken r a)) = a
