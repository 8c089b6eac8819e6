-- Demand 3: an admitted program's every run is safe. The invariant holds at the start, every step keeps it, and a run is steps.
-- Assumes nothing.
use Rattle.std.proofs.Common.{◌≡◌, ℕ, zero, suc, ◌+◌, ◌<◌, ◌≤◌, List, [], ◌∷◌, length, take, sym, refl, ap, ◌∙◌, subst, arith, length-take, eq-eqb, Ok, Err, None}
use Rattle.processor.specs.Processor.{Processor, Sound}
use Rattle.answers.specs.Answers.{End}
use Rattle.answers.specs.Answers.{number_of, answer_of}
use Rattle.answers.specs.declared.Activity.{Activity}
use Rattle.answers.specs.declared.Activity.TheVariants as A
use Rattle.gpu_core.specs.Machine.{Memory, Machine}
use Rattle.gpu_core.specs.Types.{IsMemory, IsMachine}
use Rattle.cpu.specs.Step.{advance_of}
use Rattle.cycle.specs.Runs.{Runs, followed_by, runs_of}
use Rattle.laws.proofs.Instruction.{IsCompleted, advanced}
use Rattle.machine.specs.declared.State.{State}
use Rattle.machine.specs.State.{machine_of, state_of, IsState}
use Rattle.machine.specs.Run.{budget_limit, Result, activity_of, started_of, run_of}
use Rattle.machine.proofs.Laws.{ran, by_way}
use Rattle.machine.proofs.Machines.{state_machine, machine_state, machine_typed}
use Rattle.rules.specs.Check.{check_of}
use Rattle.rules.specs.Reading.{first}
use Rattle.ranges.specs.Ranges.{unknown}
use Rattle.rules.specs.Rules.{IsInstruction, Knows, at_first, Rules}
use Rattle.rules.specs.Safety.{StartState, Loaded, Left, after_steps, after_runs, Kept, Safe, Demand3, Tells, GoesOn}
use Rattle.values.proofs.Booleans.{no_way}
use Rattle.ranges.proofs.Covers.{wide}
use Rattle.rules.proofs.Invariant.{by_fall, Inv}
use Rattle.rules.proofs.Step.{step}
use Rattle.rules.proofs.Exact.{admits_exactly, told}

-- a completed instruction tells 0 or 1
completed_small : (e : End) → IsCompleted e → number_of (answer_of e) ≤ 1
completed_small (Ok A.Running) h = omega arith
completed_small (Ok A.Stopped) h = omega arith
completed_small (Err f) h = absurd h

module _ (P : Processor) (sound : Sound P) (code : List ℕ) (small : length code ≤ P.size) (R : Rules P code) where
  -- what is carried from step to step
  record Holds (m : Machine) : Type 0 where
    inv : Inv P code m
    typed : IsMachine P.size m

  -- a machine as it is left, which may have stopped
  abbrev left_as : Activity → Machine → Left
  left_as x m = record { state = state_of x m; memory = m.memory }

  kept : (x : Activity) (m : Machine) → Holds m → Kept P code (left_as x m)
  kept x m h =
      record { same_code = h.inv.same_code; at_start = record { previous = h.inv.previous; is_instruction = h.inv.is_instruction } }

  -- a step of a running machine
  record Advanced (m : Machine) : Type 0 where
    completes : IsCompleted (advance_of P m).end
    holds : Holds (advance_of P m).machine

  advance : (m : Machine) → Holds m → Advanced m
  advance m h =
      let s = step P sound code small R m h.inv h.typed in
      let t = (advanced P m h.typed sound).typed in
      record { completes = s.0; holds = record { inv = s.1 (wide _ t.active_bank.registers t.active_bank.words); typed = t } }

  -- the same step of a state
  same_step : (m : Machine) → Holds m → (e : End) → (advance_of P m).end ≡ e → IsCompleted e → (k : ℕ) → after_steps P (suc k) m.memory (state_of A.Running m) ≡ after_steps P k (advance_of P m).machine.memory (state_of (activity_of e) (advance_of P m).machine)
  unfolding after_steps run_of runs_of
  same_step m h (Ok A.Running) e c k = rw (eq-eqb (length m.memory.ram) P.size h.typed.memory_typed.whole, machine_state A.Running m h.typed.core_typed, e)
  same_step m h (Ok A.Stopped) e c k = rw (eq-eqb (length m.memory.ram) P.size h.typed.memory_typed.whole, machine_state A.Running m h.typed.core_typed, e)
  same_step m h (Err f) e c k = absurd c

  -- what is so of r, a run from m with n steps counted already
  record SafeRun (n : ℕ) (m : Machine) (r : Runs) : Type 0 where
    more : ℕ
    counted : r.steps ≡ n + more
    completes : IsCompleted r.end
    keeps : (k : ℕ) → k ≤ more → Kept P code (after_steps P k m.memory (state_of A.Running m))
    ends : after_steps P more m.memory (state_of A.Running m) ≡ left_as (activity_of r.end) r.machine
    holds_then : Holds r.machine

  -- no step yet
  at_once : (m : Machine) → Holds m → (k : ℕ) → k ≤ 0 → Kept P code (after_steps P k m.memory (state_of A.Running m))
  unfolding after_steps
  at_once m h zero l = kept A.Running m h
  at_once m h (suc k) l = absurd (omega arith)

  -- one step first
  module _ (m : Machine) (h : Holds m) (e : End) (is : (advance_of P m).end ≡ e) (c : IsCompleted e) where
    later : (b : ℕ) → ((k : ℕ) → k ≤ b → Kept P code (after_steps P k (advance_of P m).machine.memory (state_of (activity_of e) (advance_of P m).machine))) → (k : ℕ) → k ≤ suc b → Kept P code (after_steps P k m.memory (state_of A.Running m))
    later b keeps zero l = at_once m h zero (omega arith)
    later b keeps (suc k) l = subst (Kept P code) (sym (same_step m h e is c k)) (keeps k (omega arith))

  following : (n : ℕ) (m : Machine) → Holds m → (e : End) → (advance_of P m).end ≡ e → IsCompleted e → Holds (advance_of P m).machine → (rest : Runs) → SafeRun (n + 1) (advance_of P m).machine rest → SafeRun n m (followed_by e n (advance_of P m).machine rest)
  following n m h (Ok A.Running) is c after rest l =
      record {
        more = suc l.more;
        counted = l.counted ∙ omega arith;
        completes = l.completes;
        keeps = later m h (Ok A.Running) is tt l.more l.keeps;
        ends = same_step m h (Ok A.Running) is tt l.more ∙ l.ends;
        holds_then = l.holds_then;
      }
  following n m h (Ok A.Stopped) is c after rest l =
      record { more = 1; counted = refl; completes = tt; keeps = later m h (Ok A.Stopped) is tt 0 here; ends = same_step m h (Ok A.Stopped) is tt 0 ∙ unfold after_steps in refl; holds_then = after }
    where
      here : (k : ℕ) → k ≤ 0 → Kept P code (after_steps P k (advance_of P m).machine.memory (state_of A.Stopped (advance_of P m).machine))
      here zero i = unfold after_steps in kept A.Stopped (advance_of P m).machine after
      here (suc k) i = absurd (omega arith)
  following n m h (Err f) is c after rest l = absurd c

  safe : (b n : ℕ) (m : Machine) → Holds m → SafeRun n m (runs_of P b n m)
  unfolding runs_of after_steps
  safe zero n m h = record { more = 0; counted = omega arith; completes = tt; keeps = at_once m h; ends = refl; holds_then = h }
  safe (suc b) n m h =
      let a = advance m h in
      following n m h (advance_of P m).end refl a.completes a.holds _ (safe b (n + 1) (advance_of P m).machine a.holds)

  begins : (memory : Memory) (s : State) → IsMemory P.size memory → IsState s → take (length code) memory.ram ≡ code → 0 < length code → StartState P s → Holds (machine_of s memory)
  begins memory s typed is same some b =
      let t = machine_typed P.size s memory is typed in
      record {
        inv =
            record {
              same_code = same;
              previous = None;
              is_instruction = subst (λ a. IsInstruction P code a None) (sym b.at_first) (record { read = first; inside = omega arith });
              known = unknown;
              knows = subst (λ a. Knows P code a unknown) (sym b.at_first) at_first;
              fits = wide _ t.active_bank.registers t.active_bank.words;
              came = by_fall (record { value = tt; pending = λ h. no_way h });
              slot = λ t h. let z : ◌≡◌ {A = ℕ} 0 1 = cc (b.none_pending, h) in absurd (omega arith);
            };
        typed = t;
      }

  -- a run of a state, where the invariant holds
  module _ (memory : Memory) (s : State) (h : Holds (machine_of s memory)) (budget : ℕ) where
    is_safe : (r : Result) → run_of P memory s budget ≡ r → number_of r.ran.answer ≤ 1 → ((k : ℕ) → k ≤ r.ran.steps → Kept P code (after_steps P k memory s))
        → after_steps P r.ran.steps memory s ≡ record { state = r.ran.state; memory = r.memory } → Safe P code memory s budget
    is_safe r e answers keeps ends = record { answers = rw e answers; keeps = λ k l. keeps k (omega (arith, l, ap (λ x. x.ran.steps) e)); ends = rw e ends }

    safe_run : budget ≤ budget_limit → Safe P code memory s budget
    safe_run allowed = go s.activity refl
      where
        go : (x : Activity) → s.activity ≡ x → Safe P code memory s budget
        go A.Stopped e =
            is_safe _ (ran P memory s budget h.typed.memory_typed.whole allowed ∙ ap (started_of P memory s budget) e) (omega arith) here (unfold after_steps in refl)
          where
            here : (k : ℕ) → k ≤ 0 → Kept P code (after_steps P k memory s)
            here zero l = unfold after_steps in subst (λ t. Kept P code (record { state = t; memory = memory })) (state_machine s memory) (kept s.activity (machine_of s memory) h)
            here (suc k) l = absurd (omega arith)
        go A.Running e =
            let r = safe budget 0 (machine_of s memory) h in
            let same : state_of A.Running (machine_of s memory) ≡ s = ap (λ x. state_of x (machine_of s memory)) (sym e) ∙ state_machine s memory in
            let count : (runs_of P budget 0 (machine_of s memory)).steps ≡ r.more = omega (arith, r.counted) in
            is_safe _ (ran P memory s budget h.typed.memory_typed.whole allowed ∙ ap (started_of P memory s budget) e) (completed_small (runs_of P budget 0 (machine_of s memory)).end r.completes)
            (λ k l. subst (λ t. Kept P code (after_steps P k memory t)) same (r.keeps k (omega (arith, l, count))))
            (ap (λ k. after_steps P k memory s) count ∙ ap (after_steps P r.more memory) (sym same) ∙ r.ends)

    -- and after it: a refused run changes nothing
    holds_after : Holds (machine_of (run_of P memory s budget).ran.state (run_of P memory s budget).memory)
    holds_after =
        by_way P memory s (λ r. Holds (machine_of r.ran.state r.memory)) budget (λ other. h) (λ above. h) (λ whole stopped. h)
        (λ whole allowed running.
        let then = (safe budget 0 (machine_of s memory) h).holds_then in
        subst Holds (sym (machine_state (activity_of (runs_of P budget 0 (machine_of s memory)).end) (runs_of P budget 0 (machine_of s memory)).machine then.typed.core_typed)) then)

  safe_runs : (budgets : List ℕ) (memory : Memory) (s : State) → Holds (machine_of s memory) → (budget : ℕ) → budget ≤ budget_limit
      → Safe P code (after_runs P budgets memory s).memory (after_runs P budgets memory s).state budget
  unfolding after_runs
  safe_runs [] memory s h budget allowed = safe_run memory s h budget allowed
  safe_runs (b ∷ budgets) memory s h budget allowed = safe_runs budgets _ _ (holds_after memory s h b) budget allowed

-- every run of an admitted program, after any others
display : (P : Processor) → Sound P → (admitted : List ℕ) (C : ℕ) → check_of P admitted C ≡ Ok tt → (memory : Memory) (s : State)
    → Loaded P admitted C memory s → (budgets : List ℕ) (budget : ℕ) → budget ≤ budget_limit
    → Safe P (take C admitted) (after_runs P budgets memory s).memory (after_runs P budgets memory s).state budget
display P sound admitted C e memory s l budgets =
    let p = (admits_exactly P admitted C).0 e in
    let r = p.1 in
    let len : length (take C admitted) ≡ C = omega (arith, length-take C admitted, p.0.whole_ram, p.0.at_most) in
    let small : length (take C admitted) ≤ P.size = omega (arith, p.0.at_most) in
    let h = begins P sound (take C admitted) small r memory s l.is_memory l.is_state (rw len l.same_code) (omega (arith, p.0.at_least)) l.begins in
    safe_runs P sound (take C admitted) small r budgets memory s h

pub demand3 : (P : Processor) → Sound P → Demand3 P
unfolding after_runs
demand3 P sound = record { exactly = admits_exactly P; safely = λ admitted C e memory s l. display P sound admitted C e memory s l [] }

pub tells : (P : Processor) → Tells P
tells P = record { told = told P }

pub goes_on : (P : Processor) → Sound P → GoesOn P
goes_on P sound = record { goes_on = display P sound }
