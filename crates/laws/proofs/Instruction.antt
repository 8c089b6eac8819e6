-- Every instruction keeps what holds of the machine's parts, and one that is not completed leaves the machine as it was, at every
-- sound processor: one walk over the effects.
-- Assumes nothing.
use Rattle.std.proofs.Common.{◌≡◌, ℕ, ◌/◌, ◌%◌, ◌^◌, ◌<◌, Bool, true, false, cond, eqb, List, sym, refl, subst, length-set, Option, Some, None, Result, Ok, Err}
use Rattle.branch.specs.Jump.{taken_of}
use Rattle.isa.specs.declared.Instr.{Instr}
use Rattle.values.specs.Results.{flags_of}
use Rattle.processor.specs.Processor.{Processor, Sound}
use Rattle.memory.specs.Memory.{fetch_of}
use Rattle.places.specs.Places.{place_of}
use Rattle.places.specs.declared.Place.{Place}
use Rattle.places.specs.declared.Place.TheVariants as M
use Rattle.effect.specs.Effects.{effect_of, effect_in}
use Rattle.effect.specs.declared.Effect.{Effect}
use Rattle.effect.specs.declared.Effect.TheVariants as E
use Rattle.effect.specs.declared.Operands.{Operands}
use Rattle.effect.proofs.Widths.{flags_fit}
use Rattle.effect.proofs.EffectWidths.{OperandsFit, EffectFits, effect_fits}
use Rattle.answers.specs.declared.Fault.{Fault}
use Rattle.answers.specs.Answers.{End}
use Rattle.answers.specs.declared.Activity.TheVariants as A
use Rattle.gpu_core.specs.declared.Core.{Core}
use Rattle.gpu_core.specs.Core.{moved_of}
use Rattle.gpu_core.specs.Machine.{Machine, machine_with}
use Rattle.gpu_core.specs.Types.{IsBank, IsCore, IsMachine}
use Rattle.outcome.specs.Outcome.{moved_with, faulted_of, done_of, Outcome, unwritten, writes}
use Rattle.jumps.specs.Jumps.{jump_of}
use Rattle.loads.specs.Loads.{immediate_in, counter_in, load_of}
use Rattle.stores.specs.Stores.{same_bank, store_of}
use Rattle.cpu.specs.Step.{receives, apply_of, effected_of, operands_of, execute_of, fetched_of, advance_of}
use Rattle.laws.proofs.Core.{bank_set, bytes_put, moved, skipped, flagged, remaindered, accumulated, with_mode_lem, with_flag_register_lem}
use Rattle.laws.proofs.Longs.{LongFits, immediate_fits, counter_fits, load_fits}

-- an instruction that stops the machine is completed too
abbrev pub IsCompleted : End → Type 0
IsCompleted (Ok A.Running) = Unit {0}
IsCompleted (Ok A.Stopped) = Unit {0}
IsCompleted (Err f) = ⊥

module _ (P : Processor) (m : Machine) (h : IsMachine P.size m) where
  -- what comes of an instruction is a machine again, and the same one where it faults
  pub record Keeps (o : Outcome) : Type 0 where
    pub typed : IsMachine P.size o.machine
    pub untouched : (f : Fault) → o.end ≡ Err f → o.machine ≡ m

  completes : {o : Outcome} → IsCompleted o.end → IsMachine P.size o.machine → Keeps o
  completes is t = record { typed = t; untouched = λ f e. absurd (subst IsCompleted e is) }

  faults : (f : Fault) → Keeps (unwritten m (faulted_of f m.core))
  faults f = record { typed = h; untouched = λ g e. refl }

  -- a new active bank and core, with the other bank and memory as they were
  leaves : (a : List ℕ) (k : Core) → IsBank a → IsCore k → IsMachine P.size (machine_with a m.other k m.memory)
  leaves a k ha hk =
      record { active_bank = ha; other_bank = h.other_bank; core_typed = hk; memory_typed = h.memory_typed }

  -- an instruction of one word that makes the core k of this one, before the counter moves
  resting : (k : Core) → IsCore k → Keeps (unwritten m (done_of k))
  resting k hk = completes tt (leaves m.active _ h.active_bank (moved k hk None tt))

  writing : (d n : ℕ) (k : Core) → n < 2 ^ 32 → IsCore k → Keeps (writes m d n (done_of k))
  writing d n k hn hk = completes tt (leaves _ _ (bank_set m.active (d % 32) n hn h.active_bank) (moved k hk None tt))

  receiving : (next : Core) → IsCore next → (d : ℕ) (v : Result ℕ Fault) → LongFits v → Keeps (receives m next d v)
  receiving next hk d (Ok n) hn = completes tt (leaves _ next (bank_set m.active (d % 32) n hn h.active_bank) hk)
  receiving next hk d (Err f) hn = faults f

  jumping : (p : Option ℕ) (condition target : ℕ) → target < 2 ^ 32 → Keeps (unwritten m (jump_of m.core p condition target))
  jumping (Some t) condition target ht = faults _
  jumping None condition target ht = go (taken_of condition m.core.flags)
    where
      go : (t : Bool) → Keeps (unwritten m (cond t (moved_with (Ok A.Running) (moved_of m.core (Some target))) (done_of m.core)))
      go true = completes tt (leaves m.active _ h.active_bank (moved m.core h.core_typed (Some target) ht))
      go false = resting m.core h.core_typed

  -- the two banks stay, or change places
  exchanged : (k : Core) → IsCore k → (t : Bool) → IsMachine P.size (machine_with (cond t m.active m.other) (cond t m.other m.active) k m.memory)
  exchanged k hk true = leaves m.active k h.active_bank hk
  exchanged k hk false =
      record { active_bank = h.other_bank; other_bank = h.active_bank; core_typed = hk; memory_typed = h.memory_typed }

  storing : (n : ℕ) (p : Result Place Fault) → Keeps (store_of m n p)
  storing n (Ok (M.Ram at)) =
      completes tt
      (record {
        active_bank = h.active_bank;
        other_bank = h.other_bank;
        core_typed = moved m.core h.core_typed None tt;
        memory_typed = record { whole = simp length-set h.memory_typed.whole; bytes = record { ram_bytes = bytes_put m.memory.ram at n h.memory_typed.bytes.ram_bytes } };
      })
  storing n (Ok M.Flags) =
      completes tt (exchanged _ (moved _ (with_flag_register_lem m.core h.core_typed n) None tt) (same_bank m.core n))
  storing n (Ok M.Control) = go (eqb (n % 2) 0)
    where
      go : (t : Bool) → Keeps (unwritten m (moved_with (cond t (Ok A.Stopped) (Ok A.Running)) (moved_of m.core None)))
      go true = completes tt (leaves m.active _ h.active_bank (moved m.core h.core_typed None tt))
      go false = resting m.core h.core_typed
  storing n (Ok M.Divide) = resting _ (with_mode_lem m.core h.core_typed n)
  storing n (Err f) = faults f

  applied : (e : Effect) → EffectFits e → Keeps (apply_of P m e)
  unfolding apply_of
  applied E.Nothing f = resting _ h.core_typed
  applied (E.Write d r) f = writing d _ _ f.value_fits (flagged m.core h.core_typed (flags_of r) (flags_fit r f))
  applied (E.Keep d n) f = writing d n _ f h.core_typed
  applied (E.Flags g) f = resting _ (flagged m.core h.core_typed g f)
  applied (E.Divide d q) f = writing d _ _ f.0 (remaindered m.core h.core_typed q.remainder f.1)
  applied (E.Product r) f =
      resting _ (flagged _ (accumulated m.core h.core_typed r.value f.value_fits) (flags_of r) (flags_fit r f))
  applied (E.Accumulate n) f = resting _ (accumulated m.core h.core_typed n f)
  applied (E.ToOther d n) f =
      completes tt
      (record {
        active_bank = h.active_bank;
        other_bank = bank_set m.other (d % 32) n f h.other_bank;
        core_typed = moved m.core h.core_typed None tt;
        memory_typed = h.memory_typed;
      })
  applied (E.FromOther s d) f = writing d _ _ (h.other_bank.words (s % 32)) h.core_typed
  applied (E.Immediate d) f =
      receiving _ (skipped m.core h.core_typed) d (immediate_in P m.core m.memory m.core.pending) (immediate_fits P m.core h.core_typed m.memory h.memory_typed.bytes m.core.pending)
  applied (E.Counter d) f =
      receiving _ (moved m.core h.core_typed None tt) d (counter_in m.core m.core.pending) (counter_fits P m.core h.core_typed m.memory h.memory_typed.bytes m.core.pending)
  applied (E.Jump condition target) f = jumping m.core.pending condition target f
  applied (E.Load d address) f =
      receiving _ (moved m.core h.core_typed None tt) d (load_of m.core m.memory (place_of P address)) (load_fits P m.core h.core_typed m.memory h.memory_typed.bytes (place_of P address))
  applied (E.Store address n) f = storing n (place_of P address)

  module _ (sound : Sound P) where
    executed : (w : ℕ) → Keeps (execute_of P m w)
    unfolding execute_of
    executed w = go (P.decode w) refl
      where
        x : Operands
        x = operands_of m.active m.core (w / 32 % 32) (w % 32)

        fits : OperandsFit x
        fits =
            record {
              s_fits = h.active_bank.words (w / 32 % 32);
              d_fits = h.active_bank.words (w % 32);
              acc_fits = h.core_typed.accumulator_word;
              n_fits = h.core_typed.flag_bits.n_bit;
              c_fits = h.core_typed.flag_bits.c_bit;
            }

        go : (d : Result Instr Fault) → P.decode w ≡ d → Keeps (effected_of P m (effect_in d m.active x))
        go (Ok i) e =
            let l = sound.decodes w i e in
            applied _ (subst (λ j. EffectFits (effect_of j m.active x)) (sym l.is) (effect_fits m.active x fits l.opcode (w / 32 % 32) (w % 32)))
        go (Err f) e = faults f

    pub advanced : Keeps (advance_of P m)
    unfolding advance_of
    advanced = go (fetch_of P m.memory.ram m.core.pc)
      where
        go : (f : Result ℕ Fault) → Keeps (fetched_of P m f)
        go (Ok w) = executed w
        go (Err f) = faults f
