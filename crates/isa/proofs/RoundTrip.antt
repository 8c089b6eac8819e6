-- Decoding and encoding undo each other, and exactly the words that 01 calls built decode.
-- Assumes nothing.
use Prim.Native.Nat.{ℕ, ◌+◌, ◌*◌, ◌/◌, ◌%◌, ◌<◌}
use mathlib.Core.Path.{◌≡◌, refl, sym, ap, ◌∙◌}
use mathlib.Core.Bool.{Bool, true, false, cond, ◌||◌}
use mathlib.Core.List.{List, [], ◌∷◌}
use native.Mathlib.Omega.{arith}
use borrow.Author.Tests.{eqb-true, ltb-true, ne_eqb}
use lib.Dec.{eqb, ltb}
use Rattle.isa.specs.declared.Instr.{Instr}
use Rattle.isa.specs.declared.Instr.TheVariants.{Add, Addc, Addq, Addqt, Sub, Subc, Subq, Subqt, Neg, And, Or, Xor, Not, Btst, Bset, Bclr, Mult, Imult, Imultn, Resmac, Imacn, Div, Abs, Sh, Shlq, Shrq, Sha, Sharq, Ror, Rorq, Cmp, Cmpq, Sat8, Sat16, Move, Moveq, Moveta, Movefa, Movei, Load, LoadR14n, LoadR15n, Store, StoreR14n, StoreR15n, MovePc, Jump, Jr, Mtoi, Normi, Nop, LoadR14r, LoadR15r, StoreR14r, StoreR15r, Sat24}
use Rattle.std.proofs.Common.{Result, Ok}
use Rattle.answers.specs.declared.Fault.{Fault}
use Rattle.isa.specs.declared.form.Form.{Form}
use Rattle.isa.specs.Table.{form_of, instructions}
use Rattle.isa.specs.Words.{no_instruction, word_of, opcode_in, source_in, destination_in, one_of, unbuilt_opcodes, built, instruction_at, decoded_at, encode_of, decode_of}
use Rattle.isa.specs.RoundTrip.{WellFormed, is_decoded, built_word, Decodes, Encodes}
use Rattle.isa.proofs.Each.{each}

abbrev fields_in : Form → List ℕ
fields_in f = opcode_in f ∷ source_in f ∷ destination_in f ∷ []

-- the fields of a built word's instruction are the word's: one test over the 64 opcodes, for fields that are zero or not
module _ (s d : ℕ) where
  abbrev decoded : Bool → Bool → ℕ → List ℕ
  decoded t u op = cond (built op t u) (fields_in (form_of (instruction_at op (cond t 0 s) (cond u 0 d)))) []

  abbrev given : Bool → Bool → ℕ → List ℕ
  given t u op = cond (built op t u) (op ∷ cond t 0 s ∷ cond u 0 d ∷ []) []

  tested : (t u : Bool) (op : ℕ) → op < 64 → decoded t u op ≡ given t u op
  unfolding instruction_at
  tested true true = each (decoded true true) (given true true) 64 refl
  tested true false = each (decoded true false) (given true false) 64 refl
  tested false true = each (decoded false true) (given false true) 64 refl
  tested false false = each (decoded false false) (given false false) 64 refl

-- a number, told by whether it is zero
same : (n : ℕ) (t : Bool) → eqb n 0 ≡ t → cond t 0 n ≡ n
same n true e = sym (eqb-true n 0 e)
same n false e = refl

fields_kept : (op s d : ℕ) → op < 64 → built op (eqb s 0) (eqb d 0) ≡ true → fields_in (form_of (instruction_at op s d)) ≡ op ∷ s ∷ d ∷ []
fields_kept op s d h b =
    rw (b, same s (eqb s 0) refl, same d (eqb d 0) refl) at (tested s d (eqb s 0) (eqb d 0) op h)

-- the fields of a word are the three numbers it is made of
fields : (op s d : ℕ) → op < 64 → s < 32 → d < 32 → decode_of (word_of op s d) ≡ decoded_at op s d
fields op s d ho hs hd =
    let a : (op % 64 * 1024 + s % 32 * 32 + d % 32) / 1024 ≡ op = omega arith in
    let b : (op % 64 * 1024 + s % 32 * 32 + d % 32) / 32 % 32 ≡ s = omega arith in
    let c : (op % 64 * 1024 + s % 32 * 32 + d % 32) % 32 ≡ d = omega arith in
    rw (a, b, c)

-- an opcode that no instruction of a list has, told as a match's default tells it
abbrev pub NoneOf : Type 0 → ℕ → List Instr → Type 0
NoneOf known op [] = known
NoneOf known op (i ∷ is) = NoneOf (known × (op ≡ opcode_in (form_of i) → ⊥)) op is

abbrev has_row : ℕ → List Instr → Bool
has_row op [] = false
has_row op (i ∷ is) = eqb (opcode_in (form_of i)) op || has_row op is

none_of : (known : Type 0) (op : ℕ) (is : List Instr) → NoneOf known op is → known × (has_row op is ≡ false)
none_of known op [] h = (h, refl)
none_of known op (i ∷ is) h =
    let rest = none_of (known × (op ≡ opcode_in (form_of i) → ⊥)) op is h in
    let other = ne_eqb (opcode_in (form_of i)) op (λ e. rest.0.1 (sym e)) in
    (rest.0.0, rw other rest.1)

-- every opcode has a row or is not built
rows_or_not : (s d op : ℕ) → op < 64 → has_row op (instructions s d) || one_of op unbuilt_opcodes ≡ true
rows_or_not s d =
    each (λ op. has_row op (instructions s d) || one_of op unbuilt_opcodes) (λ op. true) 64 refl

pub no_row : (op s d : ℕ) → NoneOf Unit op (instructions s d) → decoded_at op s d ≡ no_instruction
unfolding decoded_at
no_row op s d h = go (ltb op 64) refl
  where
    go : (t : Bool) → ltb op 64 ≡ t → decoded_at op s d ≡ no_instruction
    go true e =
        let not_built : one_of op unbuilt_opcodes ≡ true = rw (none_of Unit op (instructions s d) h).1 at (rows_or_not s d op (ltb-true op 64 e)) in
        rw (e, not_built)
    go false e = rw e

module _ (w : ℕ) (small : w < 65536) where
  back_at : (i : Instr) → fields_in (form_of i) ≡ (w / 1024) ∷ (w / 32 % 32) ∷ (w % 32) ∷ [] → WellFormed i × (encode_of i ≡ w)
  back_at i e =
      let op : opcode_in (form_of i) ≡ w / 1024 = cc in
      let s : source_in (form_of i) ≡ w / 32 % 32 = cc in
      let d : destination_in (form_of i) ≡ w % 32 = cc in
      (rw (s, d) (omega arith, omega arith), rw (op, s, d) (omega arith))

  go : {r : Result Instr Fault} (t : Bool) → built_word w ≡ t → r ≡ cond t (Ok (instruction_at (w / 1024) (w / 32 % 32) (w % 32))) no_instruction → Decodes w r
  go true b e =
      record {
        is_built = ap is_decoded e ∙ sym b;
        back = λ i r.
            let same_instruction : instruction_at (w / 1024) (w / 32 % 32) (w % 32) ≡ i = cc in
            back_at i (ap (λ j. fields_in (form_of j)) (sym same_instruction) ∙ fields_kept (w / 1024) (w / 32 % 32) (w % 32) (omega arith) b);
      }
  go false b e =
      record {
        is_built = ap is_decoded e ∙ sym b;
        back = λ i r. let never : ◌≡◌ {A = ℕ} 0 1 = cc in absurd (omega arith);
      }

  pub decodes : {r : Result Instr Fault} → r ≡ decode_of w → Decodes w r
  unfolding decoded_at
  decodes e = go (built_word w) refl e

-- each instruction is found at its own fields
pub found : (i : Instr) → (ltb (opcode_in (form_of i)) 64 ≡ true) × (decoded_at (opcode_in (form_of i)) (source_in (form_of i)) (destination_in (form_of i)) ≡ Ok i)
unfolding decoded_at instruction_at
found (Add s d) = (refl, refl)
found (Addc s d) = (refl, refl)
found (Addq s d) = (refl, refl)
found (Addqt s d) = (refl, refl)
found (Sub s d) = (refl, refl)
found (Subc s d) = (refl, refl)
found (Subq s d) = (refl, refl)
found (Subqt s d) = (refl, refl)
found (Neg d) = (refl, refl)
found (And s d) = (refl, refl)
found (Or s d) = (refl, refl)
found (Xor s d) = (refl, refl)
found (Not d) = (refl, refl)
found (Btst s d) = (refl, refl)
found (Bset s d) = (refl, refl)
found (Bclr s d) = (refl, refl)
found (Mult s d) = (refl, refl)
found (Imult s d) = (refl, refl)
found (Imultn s d) = (refl, refl)
found (Resmac d) = (refl, refl)
found (Imacn s d) = (refl, refl)
found (Div s d) = (refl, refl)
found (Abs d) = (refl, refl)
found (Sh s d) = (refl, refl)
found (Shlq s d) = (refl, refl)
found (Shrq s d) = (refl, refl)
found (Sha s d) = (refl, refl)
found (Sharq s d) = (refl, refl)
found (Ror s d) = (refl, refl)
found (Rorq s d) = (refl, refl)
found (Cmp s d) = (refl, refl)
found (Cmpq s d) = (refl, refl)
found (Sat8 d) = (refl, refl)
found (Sat16 d) = (refl, refl)
found (Move s d) = (refl, refl)
found (Moveq s d) = (refl, refl)
found (Moveta s d) = (refl, refl)
found (Movefa s d) = (refl, refl)
found (Movei d) = (refl, refl)
found (Load s d) = (refl, refl)
found (LoadR14n s d) = (refl, refl)
found (LoadR15n s d) = (refl, refl)
found (Store s d) = (refl, refl)
found (StoreR14n s d) = (refl, refl)
found (StoreR15n s d) = (refl, refl)
found (MovePc d) = (refl, refl)
found (Jump s d) = (refl, refl)
found (Jr s d) = (refl, refl)
found (Mtoi s d) = (refl, refl)
found (Normi s d) = (refl, refl)
found Nop = (refl, refl)
found (LoadR14r s d) = (refl, refl)
found (LoadR15r s d) = (refl, refl)
found (StoreR14r s d) = (refl, refl)
found (StoreR15r s d) = (refl, refl)
found (Sat24 d) = (refl, refl)

pub encodes : (i : Instr) {r : ℕ} → r ≡ encode_of i → Encodes i r
encodes i e =
    record { back = λ h. ap decode_of e ∙ fields _ _ _ (ltb-true _ _ (found i).0) h.0 h.1 ∙ (found i).1 }
