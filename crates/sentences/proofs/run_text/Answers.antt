use Rattle.sentences.proofs.Short.{run}
use Rattle.sentences.proofs.run_text.Goals as goal

pub fill-requires : goal.fill-requires
fill-requires c = rw c.text_of_run.ensures (run _)
