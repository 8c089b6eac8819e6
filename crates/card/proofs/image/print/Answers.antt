-- `print` meets its contract: the run from the start state, told, and written.
use Rattle.std.proofs.Common.{ap, ◌∙◌}
use Rattle.processor.specs.Processor.{gpu}
use Rattle.gpu_core.specs.Machine.{lent}
use Rattle.machine.specs.Run.{run_of}
use Rattle.card.specs.Image.{image_budget, printed_of, printed_from}
use Rattle.card.proofs.image.print.Goals as goal

pub returns : goal.returns
unfolding printed_of
returns c =
    rw (c.write.ensures, c.told.ensures)
    (ap printed_from c.run-r.ensures.ram_after
    ∙ ap (λ t. printed_from (run_of gpu (lent c.args.ram.now) t image_budget)) c.start.ensures)
