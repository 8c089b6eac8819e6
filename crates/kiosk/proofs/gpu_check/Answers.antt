-- `gpu_check` meets its contract.
use Rattle.calls.proofs.Calls.{display}
use Rattle.kiosk.proofs.gpu_check.Goals as goal

pub returns-clause-display : goal.returns-clause-display
returns-clause-display c =
    let k = c.check-answer.ensures in
    display
