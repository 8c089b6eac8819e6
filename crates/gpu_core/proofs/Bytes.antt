-- What owning a slice of bytes tells of it.
-- Assumes nothing.
use Rattle.std.proofs.Common.{ℕ, List, get_or, w8, Fits}
use Rattle.gpu_core.specs.Machine.{lent}
use Rattle.gpu_core.specs.Types.{IsBytes, HoldsBytes}

pub is_bytes : (l : List ℕ) → ((i : ℕ) → Fits w8 (get_or l i 0)) → IsBytes l
is_bytes l h = record { bytes = λ i. (h i).fits }

pub holds_bytes : (ram : List ℕ) → ((i : ℕ) → Fits w8 (get_or ram i 0)) → HoldsBytes (lent ram)
holds_bytes ram h = record { ram_bytes = is_bytes ram h }
