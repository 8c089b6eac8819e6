-- A range of numbers, with a yes or no for "multiple of 4", and what is known of the results of operations on such numbers.
use Rattle.std.specs.Prelude.{ℕ, ◌+◌, ◌-◌, ◌%◌, ◌^◌, min, Bool, false, cond, ◌&&◌, ◌||◌, List, eqb, ltb, leb, get_or, replicate}
use Rattle.ranges.specs.declared.Range.{Range}

-- the highest register content
abbrev pub most : ℕ
most = 2 ^ 32 - 1

-- "all are 0 to 2^32−1 and no"
abbrev pub full : Range
full = record { low = 0; high = most; aligned = false }

abbrev pub unknown : List Range
unknown = replicate 32 full

abbrev pub range_at : List Range → ℕ → Range
range_at k r = get_or k r full

-- "MOVEI and MOVEQ set the exact value and its own yes or no"
abbrev pub exact_range : ℕ → Range
exact_range v = record { low = v; high = v; aligned = eqb (v % 4) 0 }

-- "AND: from 0 to the smaller upper end, yes if either is yes."
abbrev pub and_range : Range → Range → Range
and_range x y = record { low = 0; high = min x.high y.high; aligned = x.aligned || y.aligned }

-- "ends added, or the full range if the upper sum passes 2^32−1; yes if both parts are"
abbrev pub sum_range : Range → Range → Range
sum_range x y =
    record {
      low = cond (ltb most (x.high + y.high)) 0 (x.low + y.low);
      high = cond (ltb most (x.high + y.high)) most (x.high + y.high);
      aligned = x.aligned && y.aligned;
    }

-- "ends less n if the lower end is at least n, else full; yes if both are"
abbrev pub less_range : Range → ℕ → Range
less_range x n =
    record {
      low = cond (leb n x.low) (x.low - n) 0;
      high = cond (leb n x.low) (x.high - n) most;
      aligned = x.aligned && eqb (n % 4) 0;
    }

-- "SHLQ by 2 or more: full, yes."
abbrev pub shifted_range : ℕ → Range
shifted_range n = record { low = 0; high = most; aligned = leb 2 n }

abbrev pub is_exactly : Range → ℕ → Bool
is_exactly x n = eqb x.low n && eqb x.high n
