-- `gpu_run` meets its contract: as it begins, then the run between reading and writing the block.
use Rattle.std.proofs.Common.{sym, ◌∙◌, ap}
use Rattle.gpu_core.specs.Machine.{lent}
use Rattle.kiosk.proofs.Refusals.{follows, told}
use Rattle.kiosk.proofs.gpu_run.Goals as goal

pub returns-in-Err-clause-block_after : goal.returns-in-Err-clause-block_after
returns-in-Err-clause-block_after c =
    let a = c.args in
    rw c.from.ensures (sym (told (lent a.ram.now) a.block.now a.budget ∙ ap (follows (lent a.ram.now) a.block.now a.budget) (sym c.admitted.ensures.value ∙ c.in-Err.is)))

pub returns-in-Ok-clause-block_after : goal.returns-in-Ok-clause-block_after
returns-in-Ok-clause-block_after c =
    let a = c.args in
    rw (c.from-in-Ok.ensures, c.write.ensures.block_after)
    (sym (told (lent a.ram.now) a.block.now a.budget ∙ ap (follows (lent a.ram.now) a.block.now a.budget) (sym c.admitted.ensures.value ∙ c.in-Ok.is) ∙ rw (← c.run-r.ensures.ram_after)))
