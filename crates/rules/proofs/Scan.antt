-- A scan of the code is clear exactly if its test passes at every instruction, and else finds the first at which it fails.
-- Assumes nothing.
use Rattle.std.proofs.Common.{◌≡◌, ℕ, zero, suc, ◌+◌, ◌<◌, ◌≤◌, Bool, true, false, ltb, List, length, sym, refl, ap, ◌∙◌, arith, ltb-false, ltb-true, le-ltb, lt-ltb, Option, Some, None, is_some}
use Rattle.processor.specs.Processor.{Processor}
use Rattle.items.specs.declared.Shape.{Shape}
use Rattle.items.specs.declared.Shape.TheVariants.{Other, Movei, MovePc, Jr, Jump, Load, Store}
use Rattle.items.specs.Items.{bytes_of}
use Rattle.rules.specs.Reading.{end_of, shape_at, after, Reads, first, next}
use Rattle.rules.specs.Scan.{scan, first_bad}
use Rattle.values.proofs.Booleans.{by, no_way}

pub bytes_least : (s : Shape) → 2 ≤ bytes_of s
bytes_least Other = omega arith
bytes_least (Movei d v) = omega arith
bytes_least MovePc = omega arith
bytes_least (Jr n c) = omega arith
bytes_least (Jump r c) = omega arith
bytes_least (Load m) = omega arith
bytes_least (Store m) = omega arith

pub after_later : (P : Processor) (code : List ℕ) (a : ℕ) → a + 2 ≤ after P code a
after_later P code a = omega (arith, bytes_least (shape_at P code a))

-- a reading of the code that carries one thing goes wherever one that carries another does
pub reads_too : {P : Processor} {code : List ℕ} {X : Type 0} {x₀ : X} {flow : ℕ → X → X} {Y : Type 0} (y₀ : Y) (flow' : ℕ → Y → Y) {a : ℕ} {x : X}
    → Reads P code X x₀ flow a x → (y : Y) × Reads P code Y y₀ flow' a y
reads_too y₀ flow' first = (y₀, first)
reads_too y₀ flow' (next {a} r h) =
    let q = reads_too y₀ flow' r in
    (flow' a q.0, next q.1 h)

hit_inj : {b c : ℕ} → Some b ≡ Some c → b ≡ c
hit_inj e = cc

clear_hit : {A : Type 0} {f : ℕ} → None ≡ Some f → A
clear_hit e = no_way (ap is_some e)

module _ (P : Processor) (code : List ℕ) (X : Type 0) (x₀ : X) (flow : ℕ → X → X) (test : ℕ → X → Bool) where
  -- the ways a scan goes on
  pub scan_zero : (a : ℕ) (x : X) → scan P code X x₀ flow test 0 a x ≡ None
  unfolding scan
  scan_zero a x = refl

  pub scan_past : (n a : ℕ) (x : X) → end_of P code ≤ a → scan P code X x₀ flow test n a x ≡ None
  unfolding scan
  scan_past zero a x h = refl
  scan_past (suc n) a x h = rw (le-ltb a (end_of P code) h)

  pub scan_on : (n a : ℕ) (x : X) → a < end_of P code → test a x ≡ true
      → scan P code X x₀ flow test (suc n) a x ≡ scan P code X x₀ flow test n (after P code a) (flow a x)
  unfolding scan
  scan_on n a x h e = rw (lt-ltb a (end_of P code) h, e)

  pub scan_hit : (n a : ℕ) (x : X) → a < end_of P code → test a x ≡ false → scan P code X x₀ flow test (suc n) a x ≡ Some a
  unfolding scan
  scan_hit n a x h e = rw (lt-ltb a (end_of P code) h, e)

  clear_at : {a : ℕ} {x : X} → first_bad P code X x₀ flow test ≡ None → Reads P code X x₀ flow a x
      → (n : ℕ) × (end_of P code ≤ a + n) × (scan P code X x₀ flow test n a x ≡ None)
  unfolding first_bad
  clear_at e first = (length code, omega arith, e)
  clear_at e (next {a} {x} r h) = go (clear_at e r)
    where
      go : (n : ℕ) × (end_of P code ≤ a + n) × (scan P code X x₀ flow test n a x ≡ None)
          → (n : ℕ) × (end_of P code ≤ after P code a + n) × (scan P code X x₀ flow test n (after P code a) (flow a x) ≡ None)
      go (zero, l, s) = absurd (omega arith)
      go (suc n, l, s) =
          by (test a x)
          (λ t. (n, omega (arith, after_later P code a), sym (scan_on n a x h t) ∙ s))
          (λ t. clear_hit (sym s ∙ scan_hit n a x h t))

  -- a clear scan: the test passes at each instruction
  pub passes : first_bad P code X x₀ flow test ≡ None → {a : ℕ} {x : X} → Reads P code X x₀ flow a x → a < end_of P code → test a x ≡ true
  passes e {a} {x} r h = go (clear_at e r)
    where
      go : (n : ℕ) × (end_of P code ≤ a + n) × (scan P code X x₀ flow test n a x ≡ None) → test a x ≡ true
      go (zero, l, s) = absurd (omega arith)
      go (suc n, l, s) =
          by (test a x) (λ t. t)
          (λ t. clear_hit (sym s ∙ scan_hit n a x h t))

  -- an instruction at which the test fails
  pub record Fails : Type 0 where
    pub at : ℕ
    pub carried : X
    pub read : Reads P code X x₀ flow at carried
    pub inside : at < end_of P code
    pub fails : test at carried ≡ false

  pub is_found : Fails → is_some (first_bad P code X x₀ flow test) ≡ true
  is_found f = go (first_bad P code X x₀ flow test) refl
    where
      go : (b : Option ℕ) → first_bad P code X x₀ flow test ≡ b → is_some b ≡ true
      go (Some a) e = refl
      go None e = let z : ◌≡◌ {A = Bool} true false = sym (passes e f.read f.inside) ∙ f.fails in no_way (sym z)

  -- the scan from any instruction up to the one that it finds finds that one
  hit_at : {f : ℕ} → first_bad P code X x₀ flow test ≡ Some f → {a : ℕ} {x : X} → Reads P code X x₀ flow a x → a ≤ f → a < end_of P code
      → (n : ℕ) × (scan P code X x₀ flow test (suc n) a x ≡ Some f)
  unfolding first_bad
  hit_at {f} e first l h = go (length code) refl
    where
      go : (n : ℕ) → length code ≡ n → (k : ℕ) × (scan P code X x₀ flow test (suc k) P.base x₀ ≡ Some f)
      go zero q = absurd (omega arith)
      go (suc n) q = (n, rw (← q) e)
  hit_at {f} e (next {a} {x} r i) l h = go (hit_at e r (omega (arith, after_later P code a)) i)
    where
      go : (n : ℕ) × (scan P code X x₀ flow test (suc n) a x ≡ Some f) → (n : ℕ) × (scan P code X x₀ flow test (suc n) (after P code a) (flow a x) ≡ Some f)
      go (n, s) =
          by (test a x)
          (λ t. more n (sym (scan_on n a x i t) ∙ s))
          (λ t. absurd (omega (arith, hit_inj (sym (scan_hit n a x i t) ∙ s), after_later P code a)))
        where
          more : (n : ℕ) → scan P code X x₀ flow test n (after P code a) (flow a x) ≡ Some f
              → (n : ℕ) × (scan P code X x₀ flow test (suc n) (after P code a) (flow a x) ≡ Some f)
          more zero q = clear_hit (sym (scan_zero (after P code a) (flow a x)) ∙ q)
          more (suc n) q = (n, q)

  -- what a scan finds is the first: the test passes at each instruction before it, and fails at it
  pub passes_before : {f : ℕ} → first_bad P code X x₀ flow test ≡ Some f → {a : ℕ} {x : X} → Reads P code X x₀ flow a x → a < end_of P code → a < f → test a x ≡ true
  passes_before e {a} {x} r h l =
      let q = hit_at e r (omega arith) h in
      by (test a x) (λ t. t) (λ t. absurd (omega (arith, hit_inj (sym (scan_hit q.0 a x h t) ∙ q.1))))

  hit_from : {f : ℕ} (n : ℕ) {a : ℕ} {x : X} → Reads P code X x₀ flow a x → scan P code X x₀ flow test n a x ≡ Some f → (w : Fails) × (w.at ≡ f)
  hit_from {f} zero {a} {x} r e = clear_hit (sym (scan_zero a x) ∙ e)
  hit_from {f} (suc n) {a} {x} r e =
      by (ltb a (end_of P code))
      (λ t.
      let h = ltb-true a (end_of P code) t in
      by (test a x)
      (λ u. hit_from n (next r h) (sym (scan_on n a x h u) ∙ e))
      (λ u. (record { at = a; carried = x; read = r; inside = h; fails = u }, hit_inj (sym (scan_hit n a x h u) ∙ e))))
      (λ t. clear_hit (sym (scan_past (suc n) a x (ltb-false a (end_of P code) t)) ∙ e))

  pub fails_there : {f : ℕ} → first_bad P code X x₀ flow test ≡ Some f → (w : Fails) × (w.at ≡ f)
  unfolding first_bad
  fails_there e = hit_from (length code) first e

  pub finds : is_some (first_bad P code X x₀ flow test) ≡ true → Fails
  finds e = go (first_bad P code X x₀ flow test) refl e
    where
      go : (b : Option ℕ) → first_bad P code X x₀ flow test ≡ b → is_some b ≡ true → Fails
      go None q e = no_way e
      go (Some f) q e = (fails_there q).0
