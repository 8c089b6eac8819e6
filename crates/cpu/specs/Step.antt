-- One instruction of a running machine: what comes of it.
use Rattle.std.specs.Prelude.{ℕ, ◌/◌, ◌%◌, List, slice_index, slice_set, None, Result, Ok, Err}
use Rattle.answers.specs.declared.Fault.{Fault}
use Rattle.answers.specs.declared.Activity.TheVariants as A
use Rattle.values.specs.Results.{flags_of}
use Rattle.effect.specs.Effects.{effect_in}
use Rattle.effect.specs.declared.Effect.{Effect}
use Rattle.effect.specs.declared.Effect.TheVariants as E
use Rattle.effect.specs.declared.Operands.{Operands}
use Rattle.processor.specs.Processor.{Processor}
use Rattle.memory.specs.Memory.{fetch_of}
use Rattle.places.specs.Places.{place_of}
use Rattle.gpu_core.specs.declared.Core.{Core}
use Rattle.gpu_core.specs.Core.{moved_of, skipped_of, with_flags, with_remainder, with_accumulator}
use Rattle.gpu_core.specs.Machine.{Machine}
use Rattle.outcome.specs.Outcome.{moved_with, faulted_of, done_of, Outcome, outcome_with, unwritten, writes}
use Rattle.jumps.specs.Jumps.{jump_of}
use Rattle.loads.specs.Loads.{immediate_in, counter_in, load_of}
use Rattle.stores.specs.Stores.{store_of}

-- What was read becomes register d, and the core the next one; or the instruction is not completed.
abbrev pub receives : Machine → Core → ℕ → Result ℕ Fault → Outcome
receives m next d (Ok n) = writes m d n (moved_with (Ok A.Running) next)
receives m next d (Err f) = unwritten m (faulted_of f m.core)

-- What an effect does to the machine.
unfoldable pub apply_of : Processor → Machine → Effect → Outcome
apply_of P m E.Nothing = unwritten m (done_of m.core)
apply_of P m (E.Write d r) = writes m d r.value (done_of (with_flags m.core (flags_of r)))
apply_of P m (E.Keep d n) = writes m d n (done_of m.core)
apply_of P m (E.Flags f) = unwritten m (done_of (with_flags m.core f))
apply_of P m (E.Divide d q) = writes m d q.quotient (done_of (with_remainder m.core q.remainder))
apply_of P m (E.Product r) = unwritten m (done_of (with_flags (with_accumulator m.core r.value) (flags_of r)))
apply_of P m (E.Accumulate n) = unwritten m (done_of (with_accumulator m.core n))
apply_of P m (E.ToOther d n) = outcome_with (done_of m.core) m.active (slice_set m.other (d % 32) n) m.memory
apply_of P m (E.FromOther s d) = writes m d (slice_index m.other (s % 32)) (done_of m.core)
apply_of P m (E.Immediate d) = receives m (skipped_of m.core) d (immediate_in P m.core m.memory m.core.pending)
apply_of P m (E.Counter d) = receives m (moved_of m.core None) d (counter_in m.core m.core.pending)
apply_of P m (E.Jump condition target) = unwritten m (jump_of m.core m.core.pending condition target)
apply_of P m (E.Load d address) = receives m (moved_of m.core None) d (load_of m.core m.memory (place_of P address))
apply_of P m (E.Store address n) = store_of m n (place_of P address)

-- What an instruction does to the machine; the refusal of a word that is none leaves it.
abbrev pub effected_of : Processor → Machine → Result Effect Fault → Outcome
effected_of P m (Ok e) = apply_of P m e
effected_of P m (Err f) = unwritten m (faulted_of f m.core)

-- What an instruction reads, by its source and destination fields.
abbrev pub operands_of : List ℕ → Core → ℕ → ℕ → Operands
operands_of a k s d =
    record { s = slice_index a s; d = slice_index a d; pc = k.pc; z = k.flags.z; n = k.flags.n; c = k.flags.c; acc = k.accumulator; mode = k.mode }

-- The instruction of the word w.
unfoldable pub execute_of : Processor → Machine → ℕ → Outcome
execute_of P m w = effected_of P m (effect_in (P.decode w) m.active (operands_of m.active m.core (w / 32 % 32) (w % 32)))

-- "Fetching gives the word or the refusal, and later work takes only a word."
abbrev pub fetched_of : Processor → Machine → Result ℕ Fault → Outcome
fetched_of P m (Ok w) = execute_of P m w
fetched_of P m (Err f) = unwritten m (faulted_of f m.core)

-- "For a step: 31, stopped, 12 for the first word, 11, 15, 12 for the rest, 13, 14": 31 and stopped are the run's.
unfoldable pub advance_of : Processor → Machine → Outcome
advance_of P m = fetched_of P m (fetch_of P m.memory.ram m.core.pc)
