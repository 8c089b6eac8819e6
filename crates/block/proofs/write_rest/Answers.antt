-- `write_rest` meets its contract: one long after the other.
use Rattle.std.proofs.Common.{◌≡◌, ℕ, Option, Some, None, refl}
use Rattle.std.specs.Option.{unwrap_or}
use Rattle.gpu_core.specs.Core.{target_of}
use Rattle.block.specs.Block.{put_longs}
use Rattle.block.proofs.write_rest.Goals as goal

target_told : (p : Option ℕ) → unwrap_or p 0 ≡ target_of p
target_told None = refl
target_told (Some t) = refl

pub returns : goal.returns
unfolding put_longs
returns c =
    rw (c.put_long-5.ensures, c.status.ensures, c.put_long-4.ensures, c.put_long-3.ensures, c.put_long-2.ensures, c.unwrap_or.ensures, target_told c.args.s.pending, c.put_long.ensures)
