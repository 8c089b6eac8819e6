-- `mark_code` meets its contract: what is marked and what is left to read make up the starts, and the targets.
use Prim.Native.Nat.{ℕ, ◌+◌}
use native.Mathlib.Omega.{arith}
use mathlib.Core.Path.{◌≡◌, sym, subst, ◌∙◌, ap}
use mathlib.Core.Bool.{◌||◌}
use mathlib.Core.Logic.{inl, inr}
use lib.ListN.{length}
use Rattle.std.proofs.Common.{None}
use Rattle.processor.specs.Processor.{gpu}
use Rattle.items.specs.Items.{shape_of, bytes_of}
use Rattle.rules.specs.Check.{leads, is_start, is_target}
use Rattle.reading.specs.Marks.{mark_count, mark_at, tells, Near}
use Rattle.reading.proofs.Offsets.{item_at_lem}
use Rattle.reading.proofs.Marking.{Marked, marked_first, marked_on, marked_carry, marked_past, mark_at_lem, length_mark, or_false}
use Rattle.reading.proofs.mark_code.Goals as goal
use Rattle.reading.proofs.mark_code.Goals.{in-Some, in_default}

pub loop-i-init : goal.loop-i-init
loop-i-init c =
    let e = c.requires in (
      omega arith,
      ap length e.1,
      ap length e.2,
      subst (Marked _ _ _ _ _ _ _ 0 None) (sym e.1) (marked_first _ _ _ _ _ _ _ (mark_count gpu)),
      subst (Marked _ _ _ _ _ _ _ 0 None) (sym e.2) (marked_first _ _ _ _ _ _ _ (mark_count gpu)),
    )

pub loop-i-preserved : goal.loop-i-preserved
loop-i-preserved c =
    let l = c.loop-i in
    let h = c.loop-i-test.true in
    let g = c.item_at-t.ensures in
    let z = c.size-i.ensures.0 ∙ ap bytes_of c.shape_of-s.ensures in
    let e = c.set_mark.ensures in
    let f : length c.match-target.targets ≡ length l.targets =
    elim c.match-target.branch [
      | in-Some w ↦ ap length (w.targets-is ∙ w.set_mark-in-Some.ensures) ∙ length_mark gpu l.targets w.in-Some.to
      | in_default w ↦ ap length w.targets-is
    ] in
    let m : (t : ℕ) → Near gpu t → mark_at gpu c.match-target.targets t ≡ (mark_at gpu l.targets t || tells c.target.result t) =
    λ t n. elim c.match-target.branch [
      | in-Some w ↦
          rw w.in-Some.is (ap (λ n. mark_at gpu n t) (w.targets-is ∙ w.set_mark-in-Some.ensures) ∙ mark_at_lem gpu l.targets w.in-Some.to t l.invariant.2 (inr n))
      | in_default w ↦ rw (w.in_default.is, or_false) (ap (λ n. mark_at gpu n t) w.targets-is)
    ] in (
      omega arith,
      ap length e ∙ length_mark gpu l.starts (gpu.base + l.i) ∙ l.invariant.1,
      f ∙ l.invariant.2,
      marked_carry _ _ _ _ _ _ _ _ _ (item_at_lem gpu _ l.i ∙ sym g)
          (marked_on _ _ _ _ _ _ _ l.i l.p l.starts _ _ l.invariant.3 h g _ z
          (λ t s. ap (λ n. mark_at gpu n t) e ∙ mark_at_lem gpu l.starts (gpu.base + l.i) t l.invariant.1 (inl (record { low = omega arith; high = omega arith })))),
      marked_carry _ _ _ _ _ _ _ _ _ (item_at_lem gpu _ l.i ∙ sym g)
          (marked_on _ _ _ _ _ _ _ l.i l.p l.targets _ _ l.invariant.4 h g _ z
          (λ t s.
          m t s
          ∙ ap (λ b. mark_at gpu l.targets t || b)
          (c.target.ensures.target t
          ∙ ap (λ q. leads (gpu.base + l.i) q c.shape_of-s.result t) c.shape_of.ensures
          ∙ ap (λ q. leads (gpu.base + l.i) (shape_of l.p) q t) (c.shape_of-s.ensures ∙ ap shape_of (g ∙ sym (item_at_lem gpu _ l.i)))))),
    )

pub returns : goal.returns
unfolding is_start is_target
returns c =
    let l = c.loop-i in
    let h = c.loop-i-test.false in (
      record { starts = λ t. marked_past _ _ _ _ _ _ _ l.i l.p l.starts l.invariant.3 h t tt },
      record { targets = λ t s. marked_past _ _ _ _ _ _ _ l.i l.p l.targets l.invariant.4 h t s },
    )
