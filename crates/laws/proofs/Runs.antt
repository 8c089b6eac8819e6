-- Laws of instructions one after another, over the processor.
-- Assumes nothing.
use Rattle.std.proofs.Common.{◌≡◌, ℕ, zero, suc, ◌+◌, ◌<◌, sym, refl, ap, ◌∙◌, add-zero, suc-add, zero-add, arith, Ok, Err}
use Rattle.processor.specs.Processor.{Processor, Sound}
use Rattle.answers.specs.declared.Fault.{Fault}
use Rattle.answers.specs.Answers.{End}
use Rattle.answers.specs.declared.Activity.TheVariants as A
use Rattle.gpu_core.specs.Machine.{Machine}
use Rattle.gpu_core.specs.Types.{IsMachine}
use Rattle.cpu.specs.Step.{advance_of}
use Rattle.cycle.specs.Runs.{Runs, followed_by, runs_of}
use Rattle.laws.proofs.Instruction.{advanced}

pub not_stopped : ◌≡◌ {A = End} (Ok A.Stopped) (Ok A.Running) → ⊥
not_stopped e = let z : ◌≡◌ {A = ℕ} 0 1 = cc in omega arith

not_faulted : (f : Fault) → ◌≡◌ {A = End} (Err f) (Ok A.Running) → ⊥
not_faulted f e = let z : ◌≡◌ {A = ℕ} 0 1 = cc in omega arith

module _ (P : Processor) where
  -- what every instruction keeps, every run keeps
  pub kept : (K : Machine → Type 0) → ((m : Machine) → K m → K (advance_of P m).machine) → (b n : ℕ) (m : Machine) → K m → K (runs_of P b n m).machine
  unfolding runs_of
  kept K keeps zero n m k = k
  kept K keeps (suc b) n m k = go (advance_of P m).end (kept K keeps b (n + 1) _ (keeps m k))
    where
      rest : Runs
      rest = runs_of P b (n + 1) (advance_of P m).machine

      go : (e : End) → K rest.machine → K (followed_by e n (advance_of P m).machine rest).machine
      go (Ok A.Running) later = later
      go (Ok A.Stopped) later = keeps m k
      go (Err f) later = keeps m k

  pub typed : Sound P → (b n : ℕ) (m : Machine) → IsMachine P.size m → IsMachine P.size (runs_of P b n m).machine
  typed sound = kept (IsMachine P.size) (λ m h. (advanced P m h sound).typed)

  -- a run of a whose instructions are all completed, and one of b after it, are a run of a + b
  pub runs_add : (a b n : ℕ) (m : Machine) → (runs_of P a n m).end ≡ (Ok A.Running) → ((runs_of P a n m).steps ≡ n + a) × (runs_of P (a + b) n m ≡ runs_of P b (n + a) (runs_of P a n m).machine)
  unfolding runs_of
  runs_add zero b n m e = (omega arith, rw (zero-add b, add-zero n))
  runs_add (suc a) b n m e = rw suc-add (go (advance_of P m).end (runs_add a b (n + 1) to) e)
    where
      to : Machine
      to = (advance_of P m).machine

      rest : Runs
      rest = runs_of P a (n + 1) to

      go : (t : End) → (rest.end ≡ (Ok A.Running) → (rest.steps ≡ n + 1 + a) × (runs_of P (a + b) (n + 1) to ≡ runs_of P b (n + 1 + a) rest.machine))
          → let r = followed_by t n to rest in r.end ≡ (Ok A.Running) → (r.steps ≡ n + suc a) × (followed_by t n to (runs_of P (a + b) (n + 1) to) ≡ runs_of P b (n + suc a) r.machine)
      go (Ok A.Running) later e =
          let sum : n + 1 + a ≡ n + suc a = omega arith in
          let l = later e in
          (l.0 ∙ sum, l.1 ∙ ap (λ k. runs_of P b k rest.machine) sum)
      go (Ok A.Stopped) later e = absurd (not_stopped e)
      go (Err f) later e = absurd (not_faulted f e)

  -- a run that ended before is the same with any larger budget
  pub runs_cut : (a b n : ℕ) (m : Machine) → ((runs_of P a n m).end ≡ (Ok A.Running) → ⊥) → runs_of P (a + b) n m ≡ runs_of P a n m
  unfolding runs_of
  runs_cut zero b n m e = absurd (e refl)
  runs_cut (suc a) b n m e = rw suc-add (go (advance_of P m).end (runs_cut a b (n + 1) to) e)
    where
      to : Machine
      to = (advance_of P m).machine

      rest : Runs
      rest = runs_of P a (n + 1) to

      go : (t : End) → ((rest.end ≡ (Ok A.Running) → ⊥) → runs_of P (a + b) (n + 1) to ≡ rest) → ((followed_by t n to rest).end ≡ (Ok A.Running) → ⊥) → followed_by t n to (runs_of P (a + b) (n + 1) to) ≡ followed_by t n to rest
      go (Ok A.Running) later e = later e
      go (Ok A.Stopped) later e = refl
      go (Err f) later e = refl

  -- steps counted before make no difference but to the count
  pub counted : (b k n : ℕ) (m : Machine) → let r = runs_of P b n m in runs_of P b (k + n) m ≡ record { end = r.end; steps = k + r.steps; machine = r.machine }
  unfolding runs_of
  counted zero k n m = refl
  counted (suc b) k n m = go (advance_of P m).end (ap (λ i. runs_of P b i to) sum ∙ counted b k (n + 1) to)
    where
      to : Machine
      to = (advance_of P m).machine

      sum : k + n + 1 ≡ k + (n + 1)
      sum = omega arith

      rest : Runs
      rest = runs_of P b (n + 1) to

      go : (t : End) → runs_of P b (k + n + 1) to ≡ record { end = rest.end; steps = k + rest.steps; machine = rest.machine }
          → let r = followed_by t n to rest in followed_by t (k + n) to (runs_of P b (k + n + 1) to) ≡ record { end = r.end; steps = k + r.steps; machine = r.machine }
      go (Ok A.Running) later = later
      go (Ok A.Stopped) later = ap (λ i. record { end = (Ok A.Stopped); steps = i; machine = to }) sum
      go (Err f) later = refl

  -- A run that ends in a fault: the steps before it, all completed, and the instruction that stands there then.
  pub record Faulty (b n : ℕ) (m : Machine) (r : Runs) : Type 0 where
    pub made : ℕ
    pub count : r.steps ≡ n + made
    pub within : made < b
    pub before : runs_of P made n m ≡ record { end = (Ok A.Running); steps = r.steps; machine = r.machine }
    pub again : advance_of P r.machine ≡ record { end = r.end; machine = r.machine }

  pub faulty : Sound P → (b n : ℕ) (m : Machine) → IsMachine P.size m → (f : Fault) → (runs_of P b n m).end ≡ Err f → Faulty b n m (runs_of P b n m)
  unfolding runs_of
  faulty sound zero n m h f e = absurd (not_faulted f (sym e))
  faulty sound (suc b) n m h f e = go (advance_of P m).end refl (faulty sound b (n + 1) to (advanced P m h sound).typed f) e
    where
      to : Machine
      to = (advance_of P m).machine

      rest : Runs
      rest = runs_of P b (n + 1) to

      go : (t : End) → (advance_of P m).end ≡ t → (rest.end ≡ Err f → Faulty b (n + 1) to rest) → (followed_by t n to rest).end ≡ Err f → Faulty (suc b) n m (followed_by t n to rest)
      go (Ok A.Running) is later e =
          let l = later e in
          record { made = suc l.made; count = omega (arith, l.count); within = omega (arith, l.within); before = rw is l.before; again = l.again }
      go (Ok A.Stopped) is later e = let z : ◌≡◌ {A = ℕ} 0 1 = cc in absurd (omega arith)
      go (Err g) is later e =
          let u = (advanced P m h sound).untouched g is in
          record { made = 0; count = omega arith; within = omega arith; before = rw u; again = ap (advance_of P) u ∙ rw (← is) }
