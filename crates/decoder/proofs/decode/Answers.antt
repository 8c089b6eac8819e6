-- `decode` meets its contract: it looks the fields up, and the laws hold of every word.
use Rattle.isa.proofs.RoundTrip.{decodes}
use Rattle.decoder.proofs.decode.Goals as goal

pub returns-clause-decodes : goal.returns-clause-decodes
returns-clause-decodes c =
    let e = c.decoded_at.ensures in
    decodes c.args.word c.ranges.word.fits e
