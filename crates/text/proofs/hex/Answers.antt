-- The digits that are taken off stand behind those of what is left, and together they are those of n.
use Rattle.std.proofs.Common.{◌≡◌, ◌-◌, ◌∙◌, ap, length, arith}
use Rattle.arrayvec.proofs.ArrayVecLemmas.{items-with_items}
use Rattle.text.specs.Digits.{hex_digits}
use Rattle.text.proofs.Digits.{hex_taken_off}
use Rattle.text.proofs.hex.Goals as goal

pub loop-preserved : goal.loop-preserved
loop-preserved g c =
    let e = hex_taken_off g.row.K c.loop.counter c.loop.rest c.loop.digits.items (omega arith) in
    (grind arith, cc)

pub returns : goal.returns
unfolding hex_digits
returns g c =
    let e : g.row.K - c.loop.counter ≡ 0 = omega arith in
    items-with_items _ _ (omega (arith, c.reverse.ensures.len, ap length c.deref_mut.ensures.value))
    ∙ c.reverse.ensures.after
    ∙ rw c.deref_mut.ensures.value (rw e at c.loop.invariant.1)
