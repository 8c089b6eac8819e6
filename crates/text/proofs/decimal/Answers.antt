-- The digits that are taken off stand behind those of what is left, and together they are those of n: at most ten.
use Rattle.std.proofs.Common.{ap, arith, length, length-append, ◌∙◌}
use Rattle.std.proofs.lemmas.List.{length-reverse, reverse-append}
use Rattle.arrayvec.proofs.ArrayVecLemmas.{items-with_items}
use Rattle.text.proofs.Digits.{one, taken_off, ten_length, at_most_ten}
use Rattle.text.proofs.decimal.Goals as goal

pub push-requires : goal.push-requires
push-requires c =
    grind (arith, length-append, length-reverse, ap length c.loop-rest.invariant, at_most_ten c.args.n, ten_length)

pub loop-rest-preserved : goal.loop-rest-preserved
loop-rest-preserved c = let e = taken_off c.loop-rest.rest c.loop-rest.digits.items (omega arith) (omega arith) in cc

pub push-requires-2 : goal.push-requires-2
push-requires-2 c =
    grind (arith, length-append, length-reverse, ap length c.loop-rest.invariant, at_most_ten c.args.n, one)

pub returns : goal.returns
returns c =
    items-with_items _ _ (omega (arith, c.reverse.ensures.len, ap length c.deref_mut.ensures.value))
    ∙ c.reverse.ensures.after
    ∙ rw (c.deref_mut.ensures.value, c.push-2.ensures.items, c.digit-2.ensures, reverse-append)
    (rw (one c.loop-rest.rest (omega arith)) at c.loop-rest.invariant)
