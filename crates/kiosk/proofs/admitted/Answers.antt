-- `admitted` meets its contract: the refusals in their order.
use Rattle.std.proofs.Common.{◌≡◌, length, sym, ◌∙◌, arith, le-ltb, lt-ltb, eq-eqb, ne_eqb}
use Rattle.machine.specs.Run.{budget_limit}
use Rattle.kiosk.specs.Refusals.{admitted_of}
use Rattle.kiosk.proofs.admitted.Goals as goal

pub returns-then-ram-ne-SIZE-clause-value : goal.returns-then-ram-ne-SIZE-clause-value
unfolding admitted_of
returns-then-ram-ne-SIZE-clause-value c = rw (ne_eqb _ _ c.if-ram-ne-SIZE.true)

pub returns-then-block-ne-BLOCK_LENGTH-clause-value : goal.returns-then-block-ne-BLOCK_LENGTH-clause-value
unfolding admitted_of
returns-then-block-ne-BLOCK_LENGTH-clause-value c =
    let whole : length c.args.ram.now ≡ 4096 = omega arith in
    rw (eq-eqb _ _ whole, ne_eqb _ _ c.if-block-ne-BLOCK_LENGTH.true)

pub returns-then-not-is_valid-clause-value : goal.returns-then-not-is_valid-clause-value
unfolding admitted_of
returns-then-not-is_valid-clause-value c =
    let whole : length c.args.ram.now ≡ 4096 = omega arith in
    let long : length c.args.block.now ≡ 276 = omega arith in
    rw (eq-eqb _ _ whole, eq-eqb _ _ long, sym c.is_valid.ensures ∙ c.if-not-is_valid.true)

pub returns-then-budget-gt-BUDGET_LIMIT-clause-value : goal.returns-then-budget-gt-BUDGET_LIMIT-clause-value
unfolding admitted_of
returns-then-budget-gt-BUDGET_LIMIT-clause-value c =
    let whole : length c.args.ram.now ≡ 4096 = omega arith in
    let long : length c.args.block.now ≡ 276 = omega arith in
    rw (eq-eqb _ _ whole, eq-eqb _ _ long, sym c.is_valid.ensures ∙ c.if-not-is_valid.false, lt-ltb budget_limit c.args.budget (omega (arith, c.if-budget-gt-BUDGET_LIMIT.true)))

pub returns-clause-value : goal.returns-clause-value
unfolding admitted_of
returns-clause-value c =
    let whole : length c.args.ram.now ≡ 4096 = omega arith in
    let long : length c.args.block.now ≡ 276 = omega arith in
    rw (eq-eqb _ _ whole, eq-eqb _ _ long, sym c.is_valid.ensures ∙ c.if-not-is_valid.false, le-ltb budget_limit c.args.budget (omega (arith, c.if-budget-gt-BUDGET_LIMIT.false)), c.read.ensures.value)
