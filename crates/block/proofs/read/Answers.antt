-- `read` meets its contract: each long where the definition has it, and the flags by their setters.
use Rattle.gpu_core.proofs.Bytes.{is_bytes}
use Rattle.block.specs.Block.{longs, state_at}
use Rattle.block.proofs.RoundTrip.{reads}
use Rattle.block.proofs.read.Goals as goal

pub returns : goal.returns
unfolding state_at longs
returns c =
    let r = reads (is_bytes _ c.shared_slice_known-1.given)
    (simp (c.with_n.ensures, c.with_c.ensures, c.with_z.ensures, c.activity.ensures, c.long_at-4.ensures, c.long_at-3.ensures, c.pending.ensures, c.long_at-2.ensures, c.long_at.ensures, c.long_at-status.ensures, c.read_bank-b1.ensures, c.read_bank-b0.ensures)) in
    record { value = r.0; restores_block = r.1 }
