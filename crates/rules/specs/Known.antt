-- "Known" in rule 6: each active register has a range and a yes or no for "multiple of 4".
use Rattle.std.specs.Prelude.{ℕ, cond, List, slice_set, Option, Some, None}
use Rattle.class.specs.declared.Address.{Address}
use Rattle.class.specs.declared.Address.TheVariants.{At, Offset, Indexed}
use Rattle.class.specs.declared.Class.{Class}
use Rattle.class.specs.declared.Class.TheVariants as C
use Rattle.processor.specs.Processor.{Processor}
use Rattle.ranges.specs.declared.Range.{Range}
use Rattle.ranges.specs.Ranges.{full, unknown, range_at, exact_range, and_range, sum_range, less_range, shifted_range, is_exactly}
use Rattle.items.specs.declared.Item.{Item}

-- "address sums: ends added"
abbrev pub address_range : List Range → Address → Range
address_range k (At r) = range_at k r
address_range k (Offset r n) = sum_range (range_at k r) (exact_range n)
address_range k (Indexed r s) = sum_range (range_at k r) (range_at k s)

-- What is known after an instruction: "MOVE copies"; "after a STORE to F02100h, all are 0 to 2^32−1 and no";
-- "Any other write to a register: full, no."
module _ (P : Processor) where
  abbrev pub transfer : Class → ℕ → List Range → List Range
  transfer C.Quiet v k = k
  transfer (C.Write d) v k = slice_set k d full
  transfer (C.Moveq n d) v k = slice_set k d (exact_range n)
  transfer (C.Movei d) v k = slice_set k d (exact_range v)
  transfer (C.Move s d) v k = slice_set k d (range_at k s)
  transfer (C.And s d) v k = slice_set k d (and_range (range_at k d) (range_at k s))
  transfer (C.Add s d) v k = slice_set k d (sum_range (range_at k d) (range_at k s))
  transfer (C.AddQuick n d) v k = slice_set k d (sum_range (range_at k d) (exact_range n))
  transfer (C.SubQuick n d) v k = slice_set k d (less_range (range_at k d) n)
  transfer (C.Shlq n d) v k = slice_set k d (shifted_range n)
  transfer (C.Load m d) v k = slice_set k d full
  transfer (C.Store m d) v k = cond (is_exactly (address_range k m) P.flags) unknown k
  transfer (C.MovePc d) v k = slice_set k d full
  transfer (C.Jump s c) v k = k
  transfer (C.Jr n c) v k = k

  unfoldable pub transfer_of : Option Item → List Range → List Range
  transfer_of None k = k
  transfer_of (Some i) k = transfer i.class i.long k
