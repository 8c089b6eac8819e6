-- What a range is to contracts: the numbers from the lower end to the upper end, and whether they are known to be multiples of 4.
use Rattle.std.specs.Prelude.{ℕ, Bool}

pub record Interval : Type 0 where
  pub low : ℕ
  pub high : ℕ
  pub aligned : Bool
