-- `number` meets its contract: the place behind the line feed.
use Rattle.std.proofs.Common.{arith, ℕ, ◌+◌, ◌≡◌, Some, length, sym, ap, ◌∙◌}
use lib.ListN.{length-drop}
use Rattle.scanner.specs.Places.{placed_in}
use Rattle.scanner.proofs.Steps.{whole}
use Rattle.scanner.proofs.number.Goals as goal

pub returns-else-count-f : goal.returns-else-count-f
returns-else-count-f c =
    let at_end : length c.in_ok-text.text.now + c.args.at ≡ length c.args.s.now = c.in_ok-text.ensures.lookup.0.3 in
    let more = c.loop-count-test.true in
    ap (λ i. Some (c.loop-count.n, i)) (omega (arith, length-drop {A = ℕ}))
    ∙ ap (placed_in _) (sym (whole _ _ _ _ _ more c.if-c-eq10.true c.if-count-f.false) ∙ c.loop-count.invariant)
