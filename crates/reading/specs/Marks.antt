-- Marks of addresses, one for each offset from the base: what an array of them says of the code.
use Rattle.std.specs.Prelude.{ℕ, ◌+◌, ◌-◌, ◌≤◌, ◌<◌, ◌≡◌, Bool, true, false, cond, List, eqb, ltb, get_or, set, replicate, Option, Some, None}
use Rattle.processor.specs.Processor.{Processor}
use Rattle.items.specs.declared.Shape.{Shape}
use Rattle.rules.specs.Check.{holds, leads, is_start, is_target}

module _ (P : Processor) where
  -- how many addresses have a mark: those of RAM, and a few behind it, where the last instruction may end
  abbrev pub mark_count : ℕ
  mark_count = P.size + 8

  -- where nothing is marked yet
  abbrev pub unmarked : List Bool
  unmarked = replicate mark_count false

  unfoldable pub mark_at : List Bool → ℕ → Bool
  mark_at marks t =
      cond (ltb t P.base) false (cond (ltb (t - P.base) mark_count) (get_or marks (t - P.base) false) false)

  unfoldable pub mark : List Bool → ℕ → List Bool
  mark marks t =
      cond (ltb t P.base) marks (cond (ltb (t - P.base) mark_count) (set marks (t - P.base) true) marks)

  -- the addresses that have a mark
  pub record Near (t : ℕ) : Type 0 where
    pub low : P.base ≤ t
    pub high : t < P.base + mark_count

  pub record MarksStarts (code : List ℕ) (marks : List Bool) : Type 0 where
    pub starts : (t : ℕ) → mark_at marks t ≡ is_start P code t

  pub record MarksTargets (code : List ℕ) (marks : List Bool) : Type 0 where
    pub targets : (t : ℕ) → Near t → mark_at marks t ≡ is_target P code t

-- whether a value is there, and is t
abbrev pub tells : Option ℕ → ℕ → Bool
tells None t = false
tells (Some v) t = eqb v t

-- v is the value of a MOVEI into r
pub record MovedInto (p : Shape) (r : ℕ) (v : Option ℕ) : Type 0 where
  pub value : (t : ℕ) → tells v t ≡ holds p r (λ u. eqb u t)

-- r is the target of an instruction of the shape s at a, after one of the shape p
pub record Targets (a : ℕ) (p s : Shape) (r : Option ℕ) : Type 0 where
  pub target : (t : ℕ) → tells r t ≡ leads a p s t
