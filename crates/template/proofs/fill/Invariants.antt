-- What is written, and behind it the rest filled in, is the whole; and there is room for the rest.
use Rattle.std.proofs.Common.{◌≡◌, ◌+◌, ◌++◌, ◌≤◌, drop, length}
use Rattle.template.specs.Fill.{filled, room_of}
use Rattle.template.proofs.fill.Given as goal

abbrev pub invariant-loop-byte : goal.invariant-loop-byte
invariant-loop-byte l =
    let rest = drop l.byte-index l.text in
    (l.out.items ++ filled rest l.address l.count ≡ filled l.text l.address l.count) × (length l.out.items + room_of rest ≤ 1024)
