use Rattle.std.proofs.Common.{◌≡◌, [], arith, append-nil, append_assoc, drop, drop_of_length-le, length-append}
use Rattle.template.specs.Fill.{filled}
use Rattle.template.proofs.Filling.{width, room, one_more}
use Rattle.template.proofs.fill.Goals as goal

pub write_byte-requires : goal.write_byte-requires
write_byte-requires c = grind (arith, room)

pub loop-byte-preserved : goal.loop-byte-preserved
loop-byte-preserved c = grind (arith, width, room, one_more, append_assoc, length-append)

pub returns : goal.returns
unfolding filled
returns c =
    let end : drop c.loop-byte.byte-index c.args.text.now ≡ [] = drop_of_length-le c.args.text.now (omega arith) in
    rw (end, append-nil) at c.loop-byte.invariant.0
