-- Every call of a display is safe. A call runs the state that the block holds, and the block that it leaves holds the state that
-- the run left; so what demand 3 says of runs, it says of calls.
-- Assumes nothing.
use Rattle.std.proofs.Common.{◌≡◌, ℕ, ◌<◌, ◌≤◌, true, ltb, List, [], ◌∷◌, length, take, sym, refl, ap, ◌∙◌, subst, arith, ltb-false, ltb-true, le-ltb, lt-ltb, eq-eqb, Ok, Err}
use Rattle.processor.specs.Processor.{gpu}
use Rattle.processor.proofs.Instances.{gpu_sound}
use Rattle.answers.specs.declared.Answer.TheVariants.{BudgetLimit}
use Rattle.gpu_core.specs.Machine.{Memory}
use Rattle.gpu_core.specs.Types.{IsMemory}
use Rattle.machine.specs.declared.State.{State}
use Rattle.machine.specs.State.{IsState}
use Rattle.machine.specs.Run.{budget_limit, refused, run_of}
use Rattle.machine.proofs.Laws.{refused_budget, left}
use Rattle.verdicts.specs.declared.Refusal.TheVariants.{RamLength, CodeLength, Broken}
use Rattle.verdicts.specs.Verdicts.{Verdict}
use Rattle.rules.specs.Rules.{IsStart}
use Rattle.rules.specs.Safety.{Loaded, after_runs, Kept, Safe}
use Rattle.values.proofs.Booleans.{by}
use Rattle.rules.proofs.Examples.{gpu_goes_on}
use Rattle.block.specs.Block.{block_length, pc_index, block_long, longs, is_valid, state_at, put_state}
use Rattle.block.proofs.Restored.{state_back, state_length, state_valid}
use Rattle.calls.specs.Call.{Call, called, ran_on, call_of, check_reply}
use Rattle.calls.specs.Display.{after_calls, HandedOver, SafeCall, Display}
use Rattle.calls.proofs.Typed.{state_typed}

-- a reply of 0 admits
admits : (v : Verdict) → check_reply v ≡ 0 → v ≡ Ok tt
admits (Ok u) e = refl
admits (Err RamLength) e = absurd (omega arith)
admits (Err CodeLength) e = absurd (omega arith)
admits (Err (Broken r a)) e = absurd (omega arith)

-- the block holds the state s
record Linked (memory : Memory) (block : List ℕ) (s : State) : Type 0 where
  room : length block ≡ block_length
  same : state_at block ≡ s
  ok : is_valid block ≡ true
  is_memory : IsMemory gpu.size memory
  is_state : IsState s

module _ {memory : Memory} {block : List ℕ} {s : State} (l : Linked memory block s) (budget : ℕ) where
  called_as : budget ≤ budget_limit → call_of memory block budget ≡ ran_on block (run_of gpu memory s budget)
  unfolding call_of
  called_as allowed =
      rw (eq-eqb (length memory.ram) gpu.size l.is_memory.whole, eq-eqb (length block) block_length l.room, l.ok, le-ltb budget_limit budget allowed)
      (ap (λ t. ran_on block (run_of gpu memory t budget)) l.same)

  refused_as : budget_limit < budget → (call_of memory block budget ≡ called 32 memory block) × (run_of gpu memory s budget ≡ refused BudgetLimit s memory)
  unfolding call_of
  refused_as above = (
    rw (eq-eqb (length memory.ram) gpu.size l.is_memory.whole, eq-eqb (length block) block_length l.room, l.ok, lt-ltb budget_limit budget above),
    refused_budget gpu memory s budget l.is_memory.whole above,
  )

  linked_after : Linked (run_of gpu memory s budget).memory (put_state block (run_of gpu memory s budget).ran.state) (run_of gpu memory s budget).ran.state
  linked_after =
      let t = (run_of gpu memory s budget).ran.state in
      let kept = left gpu gpu_sound memory s l.is_memory.bytes l.is_state l.is_memory.whole budget in
      let room : block_length ≤ length block = omega (arith, l.room) in
      record {
        room = state_length t kept.1 block room ∙ l.room;
        same = state_back t kept.1 block room;
        ok = state_valid t kept.1 block room;
        is_memory = kept.0;
        is_state = kept.1;
      }

  -- a call leaves what the run left; a refused one changes nothing
  goes_on : ((call_of memory block budget).memory ≡ (run_of gpu memory s budget).memory) × Linked (run_of gpu memory s budget).memory (call_of memory block budget).block (run_of gpu memory s budget).ran.state
  goes_on =
      by (ltb budget_limit budget)
      (λ t.
      let e = refused_as (ltb-true budget_limit budget t) in
      (ap (λ c. c.memory) e.0 ∙ sym (ap (λ r. r.memory) e.1), subst (λ r. Linked r.memory (call_of memory block budget).block r.ran.state) (sym e.1) (subst (λ c. Linked memory c.block s) (sym e.0) l)))
      (λ t.
      let e = called_as (ltb-false budget_limit budget t) in
      (ap (λ c. c.memory) e, subst (λ c. Linked (run_of gpu memory s budget).memory c.block (run_of gpu memory s budget).ran.state) (sym e) linked_after))

  -- what a safe run shows
  call_safe : {code : List ℕ} → Safe gpu code memory s budget → budget ≤ budget_limit → SafeCall code (call_of memory block budget)
  unfolding state_at longs
  call_safe {code} safe allowed =
      let kept = subst (Kept gpu code) safe.ends (safe.keeps (run_of gpu memory s budget).ran.steps (omega arith)) in
      let pc : block_long (put_state block (run_of gpu memory s budget).ran.state) pc_index ≡ (run_of gpu memory s budget).ran.state.pc = ap (λ t. t.pc) linked_after.same in
      subst (SafeCall code) (sym (called_as allowed))
      (record { answers = omega (arith, safe.answers); same_code = kept.same_code; at_start = subst (IsStart gpu code) (sym pc) kept.at_start })

-- calls one after another are runs one after another
along : (budgets : List ℕ) (c : Call) {s : State} → Linked c.memory c.block s
    → ((after_calls budgets c).memory ≡ (after_runs gpu budgets c.memory s).memory) × Linked (after_runs gpu budgets c.memory s).memory (after_calls budgets c).block (after_runs gpu budgets c.memory s).state
unfolding after_calls after_runs
along [] c l = (refl, l)
along (b ∷ budgets) c {s} l =
    let a = goes_on l b in
    let next = call_of c.memory c.block b in
    let to = (run_of gpu c.memory s b).ran.state in
    subst (λ r. ((after_calls budgets next).memory ≡ (after_runs gpu budgets r to).memory) × Linked (after_runs gpu budgets r to).memory (after_calls budgets next).block (after_runs gpu budgets r to).state) a.0
    (along budgets next (subst (λ r. Linked r next.block to) (sym a.0) a.1))

module _ {admitted : List ℕ} {C : ℕ} {memory : Memory} {block : List ℕ} (h : HandedOver admitted C memory block) where
  linked : Linked memory block (state_at block)
  linked =
      record { room = h.whole_block; same = refl; ok = h.valid; is_memory = h.is_memory; is_state = state_typed block h.block_bytes }

  loaded : Loaded gpu admitted C memory (state_at block)
  loaded =
      record { is_memory = h.is_memory; same_code = h.same_code; is_state = state_typed block h.block_bytes; begins = h.begins }

pub display : Display
unfolding after_calls
display =
    record {
      shows = λ admitted C e memory block h budgets budget allowed.
          let a = along budgets (called 0 memory block) (linked h) in
          let c = after_calls budgets (called 0 memory block) in
          let safe = gpu_goes_on.goes_on admitted C (admits _ e) memory (state_at block) (loaded h) budgets budget allowed in
          subst (λ r. SafeCall (take C admitted) (call_of r c.block budget)) (sym a.0) (call_safe a.1 budget safe allowed);
    }
