-- What every run promises beside its answer.
-- Assumes nothing.
use Rattle.processor.specs.Processor.{gpu}
use Rattle.processor.proofs.Instances.{gpu_sound}
use Rattle.rows.specs.Rows.{RowsHold}
use Rattle.rows.proofs.Rows.{rows_hold}
use Rattle.machine.specs.Laws.{Laws}
use Rattle.machine.proofs.Laws.{laws}

pub promised : Laws gpu × RowsHold
promised = (laws gpu gpu_sound, rows_hold)
