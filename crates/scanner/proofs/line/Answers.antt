-- `line` meets its contract: what is behind the key is behind the place and the key's length.
use Rattle.std.proofs.Common.{arith, ◌+◌, ◌-◌, ◌≡◌, length, drop, sym, ap, ◌∙◌, drop-drop}
use Rattle.scanner.specs.Lines.{number_in, keyed_in}
use Rattle.scanner.specs.Places.{placed_in}
use Rattle.scanner.proofs.Steps.{key_same, slice_behind}
use Rattle.scanner.proofs.line.Goals as goal

pub returns : goal.returns
returns c =
    let here : c.in_ok-get.field-0.now ≡ drop c.args.at c.args.s.now = c.in_ok-get.ensures.lookup.0.2 ∙ slice_behind c.args.s.now c.args.at in
    let place : length c.args.s.now - length c.in_ok-behind.behind.now ≡ c.args.at + length c.args.key.now = omega (arith, c.in_ok-get.ensures.lookup.0.3, c.in_ok-behind.ensures.cases.2) in
    let behind = ap (λ i. drop i c.args.s.now) place ∙ sym (drop-drop _ c.args.at _) ∙ ap (drop _) (sym here) in
    c.number.ensures
    ∙ ap (placed_in _) (ap (number_in _ 0 0) behind ∙ sym (key_same _ _ _ c.in_ok-behind.ensures.cases.0) ∙ ap (keyed_in _ _) here)
