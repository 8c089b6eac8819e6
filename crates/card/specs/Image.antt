-- The run program: "It reads standard input as RAM, starts at F03000h, running, all else zero, budget 1,000,000".
use Rattle.std.specs.Prelude.{ℕ, List}
use Rattle.processor.specs.Processor.{gpu}
use Rattle.answers.specs.Answers.{number_of}
use Rattle.gpu_core.specs.Core.{flag_register_of}
use Rattle.gpu_core.specs.Machine.{Memory}
use Rattle.machine.specs.declared.Ran.{Ran}
use Rattle.machine.specs.State.{core_of, start_state}
use Rattle.machine.specs.Run.{Result, run_of}
use Rattle.card.specs.declared.Card.{Card}
use Rattle.card.specs.Text.{card_text}

-- "answer and steps in decimal; counter, F02100h value, remainder and accumulator"
abbrev pub card_of : Ran → Card
card_of r =
    record { answer = number_of r.answer; steps = r.steps; pc = r.state.pc; flags = flag_register_of (core_of r.state); remainder = r.state.remainder; accumulator = r.state.accumulator }

-- The text, and memory after the run.
pub record Printed : Type 0 where
  pub text : List ℕ
  pub memory : Memory

abbrev pub printed : List ℕ → Memory → Printed
printed text memory = record { text = text; memory = memory }

abbrev pub printed_from : Result → Printed
printed_from r = printed (card_text (card_of r.ran)) r.memory

abbrev pub image_budget : ℕ
image_budget = 1000000

-- "Bad length prints answer 31 and the start state": a run that is refused leaves the state as it was.
unfoldable pub printed_of : Memory → Printed
printed_of memory = printed_from (run_of gpu memory (start_state gpu) image_budget)
