-- The laws of runs, from those of instructions one after another: a run is such instructions on the machine of a state.
-- Assumes nothing.
use Rattle.std.proofs.Common.{◌≡◌, ℕ, ◌+◌, ◌<◌, ◌≤◌, Bool, true, false, cond, eqb, ltb, length, sym, refl, ap, ◌∙◌, subst, arith, ltb-false, ltb-true, le-ltb, lt-ltb, eq-eqb, ne_eqb, eqb-true, Ok, Err}
use borrow.Author.Tests.{eqb-false}
use Rattle.processor.specs.Processor.{Processor, Sound}
use Rattle.answers.specs.declared.Fault.{Fault}
use Rattle.answers.specs.declared.Fault.TheVariants.{NotBuilt, BadCounter, Misaligned, Unmapped, JumpPending}
use Rattle.answers.specs.Answers.{End}
use Rattle.answers.specs.declared.Answer.TheVariants as R
use Rattle.answers.specs.Answers.{number_of, answer_of}
use Rattle.answers.specs.declared.Activity.{Activity}
use Rattle.answers.specs.declared.Activity.TheVariants as A
use Rattle.gpu_core.specs.Machine.{Memory}
use Rattle.gpu_core.specs.Types.{HoldsBytes, IsMemory, IsMachine}
use Rattle.cycle.specs.Runs.{Runs, runs_of}
use Rattle.laws.proofs.Runs as runs
use Rattle.machine.specs.declared.State.{State}
use Rattle.machine.specs.State.{machine_of, state_of, IsState}
use Rattle.machine.specs.Run.{budget_limit, Result, result, counted, refused, activity_of, result_of, started_of, run_of}
use Rattle.machine.specs.Laws.{IsRefusal, IsFault, Spends, LeftBefore, Laws}
use Rattle.machine.proofs.Machines.{machine_state, machine_typed, left_typed}

-- no instruction ends with the number of a refusal
pub end_small : (e : End) → number_of (answer_of e) < 31
end_small (Ok A.Running) = omega arith
end_small (Ok A.Stopped) = omega arith
end_small (Err NotBuilt) = omega arith
end_small (Err BadCounter) = omega arith
end_small (Err Misaligned) = omega arith
end_small (Err Unmapped) = omega arith
end_small (Err JumpPending) = omega arith

module _ (P : Processor) (memory : Memory) (s : State) where
  -- a run that is not refused
  pub ran : (budget : ℕ) → length memory.ram ≡ P.size → budget ≤ budget_limit → run_of P memory s budget ≡ started_of P memory s budget s.activity
  unfolding run_of
  ran budget whole allowed = rw (eq-eqb (length memory.ram) P.size whole, le-ltb budget_limit budget allowed)

  pub refused_length : (budget : ℕ) → (length memory.ram ≡ P.size → ⊥) → run_of P memory s budget ≡ refused R.RamLength s memory
  unfolding run_of
  refused_length budget other = rw (ne_eqb (length memory.ram) P.size other)

  pub refused_budget : (budget : ℕ) → length memory.ram ≡ P.size → budget_limit < budget → run_of P memory s budget ≡ refused R.BudgetLimit s memory
  unfolding run_of
  refused_budget budget whole above = rw (eq-eqb (length memory.ram) P.size whole, lt-ltb budget_limit budget above)

  -- what holds of a run by which way it goes: refused, stopped before, or instructions one after another
  pub by_way : (C : Result → Type 0) (budget : ℕ) → ((length memory.ram ≡ P.size → ⊥) → C (refused R.RamLength s memory))
      → (budget_limit < budget → C (refused R.BudgetLimit s memory))
      → (length memory.ram ≡ P.size → s.activity ≡ A.Stopped → C (result R.Stopped 0 s memory))
      → (length memory.ram ≡ P.size → budget ≤ budget_limit → s.activity ≡ A.Running → C (result_of (runs_of P budget 0 (machine_of s memory)))) → C (run_of P memory s budget)
  unfolding run_of
  by_way C budget other above stopped made = go (eqb (length memory.ram) P.size) (ltb budget_limit budget) s.activity refl refl refl
    where
      go : (t u : Bool) (x : Activity) → eqb (length memory.ram) P.size ≡ t → ltb budget_limit budget ≡ u → s.activity ≡ x
          → C (cond t (cond u (refused R.BudgetLimit s memory) (started_of P memory s budget x)) (refused R.RamLength s memory))
      go true true x e f g = above (ltb-true _ _ f)
      go true false A.Stopped e f g = stopped (eqb-true _ _ e) g
      go true false A.Running e f g = made (eqb-true _ _ e) (ltb-false _ _ f) g
      go false u x e f g = other (eqb-false _ _ e)

module _ (P : Processor) (sound : Sound P) (memory : Memory) (s : State) (bytes : HoldsBytes memory) (is : IsState s) where
  module _ (whole : length memory.ram ≡ P.size) where
    -- instructions one after another leave a machine
    abbrev after : ℕ → Runs
    after a = runs_of P a 0 (machine_of s memory)

    start_typed : IsMachine P.size (machine_of s memory)
    start_typed = machine_typed P.size s memory is (record { whole = whole; bytes = bytes })

    after_typed : (a : ℕ) → IsMachine P.size (after a).machine
    after_typed a = runs.typed P sound a 0 (machine_of s memory) start_typed

    -- a run from what they left
    from_there : (a b : ℕ) → b ≤ budget_limit → run_of P (after a).machine.memory (state_of A.Running (after a).machine) b ≡ result_of (runs_of P b 0 (after a).machine)
    from_there a b allowed =
        ran P (after a).machine.memory (state_of A.Running (after a).machine) b (after_typed a).memory_typed.whole allowed
        ∙ ap (λ m. result_of (runs_of P b 0 m)) (machine_state A.Running (after a).machine (after_typed a).core_typed)

    module _ (running : s.activity ≡ A.Running) where
      pub begun : (budget : ℕ) → budget ≤ budget_limit → run_of P memory s budget ≡ result_of (after budget)
      begun budget allowed = ran P memory s budget whole allowed ∙ ap (started_of P memory s budget) running

      -- "both as they stood before the faulty instruction"
      met : (budget : ℕ) → budget ≤ budget_limit → (f : Fault) → (after budget).end ≡ Err f → LeftBefore P memory s (result_of (after budget))
      unfolding runs_of
      met budget allowed f e =
          let l = runs.faulty P sound budget 0 (machine_of s memory) start_typed f e in
          let made : (after budget).steps ≡ l.made = omega (arith, l.count) in
          rw e
          (record {
            before = begun (after budget).steps (omega (arith, l.within)) ∙ rw made (ap result_of l.before ∙ rw made);
            again = from_there budget 1 (omega arith) ∙ rw (l.again, e);
          })

      added : (a b : ℕ) → a + b ≤ budget_limit → (e : End) → (after a).end ≡ e → (after a).steps ≡ a
          → result_of (after (a + b)) ≡ counted a (run_of P (after a).machine.memory (state_of (activity_of e) (after a).machine) b)
      added a b allowed (Ok A.Running) e steps =
          let l = runs.runs_add P a b 0 (machine_of s memory) e in
          let zero_first : 0 + a ≡ a + 0 = omega arith in
          ap result_of (l.1 ∙ ap (λ k. runs_of P b k (after a).machine) zero_first ∙ runs.counted P b a 0 (after a).machine)
          ∙ ap (counted a) (sym (from_there a b (omega arith)))
      added a b allowed (Ok A.Stopped) e steps =
          let none : a ≡ a + 0 = omega arith in
          ap result_of (runs.runs_cut P a b 0 (machine_of s memory) (λ c. runs.not_stopped (sym e ∙ c)))
          ∙ rw (e, steps, ran P (after a).machine.memory (state_of A.Stopped (after a).machine) b (after_typed a).memory_typed.whole (omega arith))
          (ap (λ k. result R.Stopped k (state_of A.Stopped (after a).machine) (after a).machine.memory) none)
      added a b allowed (Err f) e steps =
          let l = runs.faulty P sound a 0 (machine_of s memory) start_typed f e in absurd (omega (arith, l.count, l.within))

  -- what a run leaves is memory and a state again
  pub left : length memory.ram ≡ P.size → (budget : ℕ) → IsMemory P.size (run_of P memory s budget).memory × IsState (run_of P memory s budget).ran.state
  left whole budget =
      by_way P memory s (λ r. IsMemory P.size r.memory × IsState r.ran.state) budget (λ other. same) (λ above. same) (λ whole stopped. same)
      (λ whole allowed running.
      let t = after_typed whole budget in
      (t.memory_typed, left_typed P.size (activity_of (after whole budget).end) (after whole budget).machine t))
    where
      same : IsMemory P.size memory × IsState s
      same = (record { whole = whole; bytes = bytes }, is)

pub laws : (P : Processor) → Sound P → Laws P
laws P sound = record { refusals = refusal; faults = fault; budgets = add; cut_short = cut }
  where
    refusal : (memory : Memory) (s : State) → HoldsBytes memory → IsState s → (budget : ℕ) → IsRefusal (run_of P memory s budget).ran.answer → run_of P memory s budget ≡ refused (run_of P memory s budget).ran.answer s memory
    refusal memory s bytes is budget =
        by_way P memory s (λ r. IsRefusal r.ran.answer → r ≡ refused r.ran.answer s memory) budget (λ other h. refl) (λ above h. refl) (λ whole stopped h. refl)
        (λ whole allowed running h. absurd (omega (arith, end_small (runs_of P budget 0 (machine_of s memory)).end)))

    fault : (memory : Memory) (s : State) → HoldsBytes memory → IsState s → (budget : ℕ) → IsFault (run_of P memory s budget).ran.answer → LeftBefore P memory s (run_of P memory s budget)
    fault memory s bytes is budget =
        by_way P memory s (λ r. IsFault r.ran.answer → LeftBefore P memory s r) budget
        (λ other h. absurd (omega (arith, h.at_most)))
        (λ above h. absurd (omega (arith, h.at_most)))
        (λ whole stopped h. absurd (omega (arith, h.at_least)))
        (λ whole allowed running h. go whole allowed running (runs_of P budget 0 (machine_of s memory)).end refl h)
      where
        go : length memory.ram ≡ P.size → budget ≤ budget_limit → s.activity ≡ A.Running → (e : End) → (runs_of P budget 0 (machine_of s memory)).end ≡ e → IsFault (answer_of (runs_of P budget 0 (machine_of s memory)).end)
            → LeftBefore P memory s (result_of (runs_of P budget 0 (machine_of s memory)))
        go whole allowed running (Ok A.Running) e h = absurd (omega (arith, (rw e at h).at_least))
        go whole allowed running (Ok A.Stopped) e h = absurd (omega (arith, (rw e at h).at_least))
        go whole allowed running (Err f) e h = met P sound memory s bytes is whole running budget allowed f e

    add : (memory : Memory) (s : State) → HoldsBytes memory → IsState s → (a b : ℕ) → a + b ≤ budget_limit → Spends a (run_of P memory s a) → run_of P memory s (a + b) ≡ counted a (run_of P (run_of P memory s a).memory (run_of P memory s a).ran.state b)
    add memory s bytes is a b allowed =
        by_way P memory s (λ r. r.ran.steps ≡ a → run_of P memory s (a + b) ≡ counted a (run_of P r.memory r.ran.state b)) a
        (λ other none. again none)
        (λ above none. again none)
        (λ whole stopped none. again none)
        (λ whole within running spent. begun P sound memory s bytes is whole running (a + b) allowed ∙ added P sound memory s bytes is whole running a b allowed _ refl spent)
      where
        zero_sum : (n : ℕ) → 0 + n ≡ n
        zero_sum n = omega arith

        again : 0 ≡ a → run_of P memory s (a + b) ≡ counted a (run_of P memory s b)
        again none =
            subst (λ (k : ℕ). run_of P memory s (k + b) ≡ counted k (run_of P memory s b)) none
            (ap (run_of P memory s) (zero_sum b) ∙ ap (λ k. result (run_of P memory s b).ran.answer k (run_of P memory s b).ran.state (run_of P memory s b).memory) (sym (zero_sum (run_of P memory s b).ran.steps)))

    cut : (memory : Memory) (s : State) (a b : ℕ) → a + b ≤ budget_limit → (run_of P memory s a).ran.steps < a → run_of P memory s (a + b) ≡ run_of P memory s a
    cut memory s a b allowed =
        by_way P memory s (λ r. r.ran.steps < a → run_of P memory s (a + b) ≡ r) a
        (λ other short. refused_length P memory s (a + b) other)
        (λ above short. absurd (omega arith))
        (λ whole stopped short. ran P memory s (a + b) whole allowed ∙ ap (started_of P memory s (a + b)) stopped)
        (λ whole within running short.
        ran P memory s (a + b) whole allowed
        ∙ ap (started_of P memory s (a + b)) running
        ∙ ap result_of (runs.runs_cut P a b 0 (machine_of s memory) (λ e. omega (arith, short, (runs.runs_add P a b 0 (machine_of s memory) e).0))))
