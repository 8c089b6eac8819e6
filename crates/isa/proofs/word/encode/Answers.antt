-- The word of the form is the instruction's, and the law holds of every instruction.
use Rattle.std.proofs.Common.{◌∙◌, ap}
use Rattle.isa.specs.Words.{word_in}
use Rattle.isa.proofs.RoundTrip.{encodes}
use Rattle.isa.proofs.word.encode.Goals as goal

pub returns-clause-encodes : goal.returns-clause-encodes
returns-clause-encodes c = encodes c.args.i (c.word_in.ensures ∙ ap word_in c.form.ensures)
