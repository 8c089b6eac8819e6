-- `lowest_here` meets its contract. The loop's invariant: what is looked for is among the rules that are left.
use Rattle.std.proofs.Common.{◌≡◌, ◌+◌, drop}
use Rattle.processor.specs.Processor.{gpu}
use Rattle.passes.specs.Passes.{lowest_in, lowest_of, test_of}
use Rattle.passes.proofs.Least.{Still}
use Rattle.passes.proofs.tests.lowest_here.Given as goal

abbrev pub invariant-loop-rule : goal.invariant-loop-rule
invariant-loop-rule l =
    let test = Still l.lowest (λ rule. test_of gpu l.at.marked.now.code.now rule (gpu.base + l.at.offset) l.at.before) in
    lowest_of test ≡ lowest_in test (drop l.rule-index l.rule-items)
