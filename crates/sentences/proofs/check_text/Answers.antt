use Rattle.sentences.proofs.Short.{check}
use Rattle.sentences.proofs.check_text.Goals as goal

pub fill-requires : goal.fill-requires
fill-requires c = rw c.text_of_check.ensures (check _)
