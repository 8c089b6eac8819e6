-- The GPU's constants and decoding are what the proofs ask of a processor.
-- Assumes nothing.
use Rattle.std.proofs.Common.{◌≡◌, ℕ, ◌/◌, ◌%◌, Bool, true, false, cond, eqb, refl, arith, Ok}
use Rattle.isa.specs.declared.Instr.{Instr}
use Rattle.isa.specs.Words.{no_instruction, instruction_at, built, decoded_at, decode_of}
use Rattle.processor.specs.Processor.{gpu, Listed, Sound}

decodes : (w : ℕ) (i : Instr) → decode_of w ≡ Ok i → Listed w i
unfolding decoded_at instruction_at
decodes w i = go (built (w / 1024) (eqb (w / 32 % 32) 0) (eqb (w % 32) 0))
  where
    go : (t : Bool) → cond t (Ok (instruction_at (w / 1024) (w / 32 % 32) (w % 32))) no_instruction ≡ Ok i → Listed w i
    go true e = record { opcode = w / 1024; is = cc }
    go false e = let z : ◌≡◌ {A = ℕ} 0 1 = cc in absurd (omega arith)

pub gpu_sound : Sound gpu
gpu_sound =
    record {
      base_aligned = refl;
      size_aligned = refl;
      top = omega arith;
      flags_below = omega arith;
      control_below = omega arith;
      divide_below = omega arith;
      decodes = decodes;
    }
