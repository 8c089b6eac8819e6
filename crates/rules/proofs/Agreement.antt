-- An instruction's class and its effect agree: what the rules say that it writes, reads or reaches is what a step does.
-- Assumes nothing.
use Rattle.std.proofs.Common.{◌≡◌, ℕ, ◌+◌, ◌-◌, ◌*◌, ◌/◌, ◌%◌, ◌^◌, ◌≤◌, List, get_or, sym, refl, ap, ◌∙◌, subst, arith, Result, Ok, Err}
use lib.Bits.{bit_and}
use Rattle.answers.specs.declared.Fault.{Fault}
use Rattle.field.proofs.Bounds.{quick_most}
use Rattle.field.specs.Fields.{quick_of, signed_field_of}
use Rattle.isa.specs.declared.Instr.{Instr}
use Rattle.isa.specs.Table.{instructions}
use Rattle.branch.specs.Jump.{jr_target_of}
use Rattle.shifter.specs.Shift.{left_of}
use Rattle.class.specs.declared.Address.{Address}
use Rattle.class.specs.declared.Address.TheVariants.{At, Offset, Indexed}
use Rattle.class.specs.declared.Class.{Class}
use Rattle.class.specs.declared.Class.TheVariants as C
use Rattle.class.specs.Classes.{class_of}
use Rattle.effect.specs.Effects.{address_of, effect_of, effect_in}
use Rattle.effect.specs.declared.Operands.{Operands}
use Rattle.effect.specs.declared.Effect.{Effect}
use Rattle.effect.specs.declared.Effect.TheVariants as E
use Rattle.effect.proofs.EffectWidths.{Each, ◌⊗◌, found}
use Rattle.processor.specs.Processor.{Processor, Sound}
use Rattle.items.specs.Items.{built, item_in, class_in, long_in}

-- what an effect writes to the active bank, where it touches neither RAM nor the counter: nothing, a value in a register, or in a
-- register what the other bank has
pub data BankWrite : Type 0 where
  nothing : BankWrite
  value : ℕ → ℕ → BankWrite
  other : ℕ → BankWrite
  -- it touches RAM or the counter
  beyond : BankWrite

abbrev pub bank_write : Effect → BankWrite
bank_write E.Nothing = nothing
bank_write (E.Write d r) = value (d % 32) r.value
bank_write (E.Keep d n) = value (d % 32) n
bank_write (E.Flags f) = nothing
bank_write (E.Divide d q) = value (d % 32) q.quotient
bank_write (E.Product r) = nothing
bank_write (E.Accumulate n) = nothing
bank_write (E.ToOther d n) = nothing
bank_write (E.FromOther s d) = other (d % 32)
bank_write (E.Immediate d) = beyond
bank_write (E.Counter d) = beyond
bank_write (E.Jump c t) = beyond
bank_write (E.Load d address) = beyond
bank_write (E.Store address n) = beyond

-- nothing is written
abbrev pub Silent : BankWrite → Type 0
Silent nothing = Unit {0}
Silent (value d n) = ⊥
Silent (other d) = ⊥
Silent beyond = ⊥

-- register r gets a value of which Q holds; of what comes from the other bank nothing is known
abbrev pub Gives : ℕ → (ℕ → Type 0) → BankWrite → Type 0
Gives r Q nothing = ⊥
Gives r Q (value d n) = (d ≡ r) × Q n
Gives r Q (other d) = (d ≡ r) × ((n : ℕ) → Q n)
Gives r Q beyond = ⊥

-- anything, or one value
abbrev pub Any : ℕ → Type 0
Any n = Unit {0}

abbrev pub One : ℕ → ℕ → Type 0
One v n = n ≡ v

module _ (a : List ℕ) (pc : ℕ) where
  -- the address that an access reaches, from the active bank
  abbrev pub reached : Address → ℕ
  reached (At r) = get_or a r 0
  reached (Offset r n) = (get_or a r 0 + n) % 2 ^ 32
  reached (Indexed r s) = (get_or a r 0 + get_or a s 0) % 2 ^ 32

  abbrev pub Agrees : Class → Effect → Type 0
  Agrees C.Quiet e = Silent (bank_write e)
  Agrees (C.Write d) e = Gives d Any (bank_write e)
  Agrees (C.Moveq n d) e = Gives d (One n) (bank_write e)
  Agrees (C.Movei d) e = (d % 32 ≡ d) × (e ≡ E.Immediate d)
  Agrees (C.Move s d) e = Gives d (One (get_or a s 0)) (bank_write e)
  Agrees (C.And s d) e = Gives d (One (bit_and (get_or a d 0) (get_or a s 0))) (bank_write e)
  Agrees (C.Add s d) e = Gives d (One ((get_or a d 0 + get_or a s 0) % 2 ^ 32)) (bank_write e)
  Agrees (C.AddQuick n d) e = Gives d (One ((get_or a d 0 + n) % 2 ^ 32)) (bank_write e)
  Agrees (C.SubQuick n d) e = (n ≤ 32) × Gives d (One ((get_or a d 0 + 2 ^ 32 - n) % 2 ^ 32)) (bank_write e)
  Agrees (C.Shlq n d) e = Gives d (One (left_of (get_or a d 0) n).value) (bank_write e)
  Agrees (C.Load m d) e = (d % 32 ≡ d) × (e ≡ E.Load d (reached m))
  Agrees (C.Store m d) e = e ≡ E.Store (reached m) (get_or a d 0)
  Agrees (C.MovePc d) e = (d % 32 ≡ d) × (e ≡ E.Counter d)
  Agrees (C.Jump r c) e = e ≡ E.Jump c (get_or a r 0)
  Agrees (C.Jr n c) e = e ≡ E.Jump c (jr_target_of pc (signed_field_of n))

-- the operands are the contents of the registers that two fields name
module _ (a : List ℕ) (s d : ℕ) (x : Operands) (es : x.s ≡ get_or a s 0) (ed : x.d ≡ get_or a d 0) (small : d % 32 ≡ d) where
  -- in the order of the table
  each : Each (λ i. Agrees a x.pc (class_of i) (effect_of i a x)) (instructions s d)
  each =
      (small, ap (λ n. n % 2 ^ 32) (omega (arith, es, ed)))
      ⊗ (small, tt)
      ⊗ (small, ap (λ n. (n + quick_of s) % 2 ^ 32) ed)
      ⊗ (small, ap (λ n. (n + quick_of s) % 2 ^ 32) ed)
      ⊗ (small, tt)
      ⊗ (small, tt)
      ⊗ (quick_most s ⊗ (small, ap (λ n. (n + 2 ^ 32 - quick_of s) % 2 ^ 32) ed))
      ⊗ (quick_most s ⊗ (small, ap (λ n. (n + 2 ^ 32 - quick_of s) % 2 ^ 32) ed))
      ⊗ (small, tt)
      ⊗ (small, ap (λ n. bit_and n x.s) ed ∙ ap (bit_and (get_or a d 0)) es)
      ⊗ (small, tt)
      ⊗ (small, tt)
      ⊗ (small, tt)
      ⊗ tt
      ⊗ (small, tt)
      ⊗ (small, tt)
      ⊗ (small, tt)
      ⊗ (small, tt)
      ⊗ tt
      ⊗ (small, tt)
      ⊗ tt
      ⊗ (small, tt)
      ⊗ (small, tt)
      ⊗ (small, tt)
      ⊗ (small, ap (λ n. (left_of n (quick_of s)).value) ed)
      ⊗ (small, tt)
      ⊗ (small, tt)
      ⊗ (small, tt)
      ⊗ (small, tt)
      ⊗ (small, tt)
      ⊗ tt
      ⊗ tt
      ⊗ (small, tt)
      ⊗ (small, tt)
      ⊗ (small, es)
      ⊗ (small, refl)
      ⊗ tt
      ⊗ (small, λ n. tt)
      ⊗ (small, refl)
      ⊗ (small, ap (E.Load d) es)
      ⊗ (small, refl)
      ⊗ (small, refl)
      ⊗ ap (λ n. E.Store n x.d) es ∙ ap (E.Store (get_or a s 0)) ed
      ⊗ ap (E.Store (address_of a 14 (4 * quick_of s))) ed
      ⊗ ap (E.Store (address_of a 15 (4 * quick_of s))) ed
      ⊗ (small, refl)
      ⊗ ap (E.Jump d) es
      ⊗ refl
      ⊗ (small, tt)
      ⊗ (small, tt)
      ⊗ tt
      ⊗ (small, ap (λ n. E.Load d (address_of a 14 n)) es)
      ⊗ (small, ap (λ n. E.Load d (address_of a 15 n)) es)
      ⊗ ap (λ n. E.Store (address_of a 14 n) x.d) es ∙ ap (E.Store (address_of a 14 (get_or a s 0))) ed
      ⊗ ap (λ n. E.Store (address_of a 15 n) x.d) es ∙ ap (E.Store (address_of a 15 (get_or a s 0))) ed
      ⊗ (small, tt)
      ⊗ tt

-- what stands at an address is of a class: it has an effect, which agrees with it, and the long behind it is the one that it has
module _ (P : Processor) (sound : Sound P) (a : List ℕ) (w : ℕ) (x : Operands) (es : x.s ≡ get_or a (w / 32 % 32) 0) (ed : x.d ≡ get_or a (w % 32) 0) where
  pub agrees : (long : ℕ) (c : Class) (v : ℕ) → item_in (P.decode w) long ≡ built c v → (f : Effect) × (effect_in (P.decode w) a x ≡ Ok f) × Agrees a x.pc c f × (long ≡ v)
  agrees long c v = go (P.decode w) refl
    where
      go : (t : Result Instr Fault) → P.decode w ≡ t → item_in t long ≡ built c v → (f : Effect) × (effect_in t a x ≡ Ok f) × Agrees a x.pc c f × (long ≡ v)
      go (Ok i) q e =
          let l = sound.decodes w i q in
          let h = found (λ j. Agrees a x.pc (class_of j) (effect_of j a x)) l.opcode tt (instructions (w / 32 % 32) (w % 32)) (each a (w / 32 % 32) (w % 32) x es ed (omega arith)) in
          let same : class_of i ≡ c = ap class_in e in
          (effect_of i a x, refl, subst (λ k. Agrees a x.pc k (effect_of i a x)) same (subst (λ j. Agrees a x.pc (class_of j) (effect_of j a x)) (sym l.is) h), ap long_in e)
      go (Err f) q e = let z : ◌≡◌ {A = ℕ} 0 1 = cc in absurd (omega arith)
