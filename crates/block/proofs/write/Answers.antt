-- `write` meets its contract: each part where the definition has it, and the law holds of every state.
use Rattle.machine.proofs.Typed.{is_state}
use Rattle.block.proofs.Restored.{in_parts, writes}
use Rattle.block.proofs.write.Goals as goal

pub returns : goal.returns
returns c =
    let l = c.args.block.now in
    let s = is_state _ _ c.well_formed.1.0 in
    let w = writes c.args.s s l c.requires
    (rw (c.write_rest.ensures, c.write_longs-2.ensures, c.write_longs.ensures) (in_parts c.args.s s l c.requires)) in
    record { block_after = w.0; restores_state = w.1 }
