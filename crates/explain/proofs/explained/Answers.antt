-- `explained` meets its contract.
use Rattle.explain.proofs.RoundTrip.{reads_back}
use Rattle.explain.proofs.explained.Goals as goal

pub returns-clause-reads_back : goal.returns-clause-reads_back
returns-clause-reads_back c = reads_back
