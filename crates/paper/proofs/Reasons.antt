-- Rows of faults and reasons say the same: each row applies exactly when its reason holds, and the rows are in the order of their ranks. A number that is
-- given for a reason is the only one. Assumes nothing.
use Prim.Native.Nat.{ℕ, ◌%◌, ◌≤◌, ◌<◌}
use mathlib.Core.Bool.{Bool, true, false, cond, not, ◌&&◌, true≢false}
use mathlib.Core.List.{List, [], ◌∷◌}
use mathlib.Core.Logic.{inl, inr, ◌↔◌}
use mathlib.Core.Path.{◌≡◌, refl, sym, ap, subst, ◌∙◌}
use native.Mathlib.Omega.{arith}
use borrow.Author.Tests.{eqb-true, eq-eqb, ltb-true, lt-ltb, not-true}
use lib.Dec.{eqb, ltb}
use Rattle.decide.specs.Test.{Test, test, Holds, facts, passes, both, and_i, split, ◌≤?◌}
use Rattle.decide.specs.Refusal.{Fault, Given, ranked, in_order, chained, first_of}
use Rattle.decide.proofs.Cases.{by_cases, true_or_false}
use Rattle.decide.proofs.Given.{in_order_lem, first_exact}
use Rattle.wire.specs.Wire.{digits}
use Rattle.rpr.specs.Shape.{Bears}
use Rattle.paper.specs.Reasons.{RefusedWhen, refused, passed, CarriedOut}
use Rattle.station.specs.Calls.{flags_ok}
use Rattle.paper.specs.Acts.{YesNo}

-- ---- rows and their reasons

-- each row applies exactly when its reason holds, and bears its number
pub data Meant : List Fault → (ℕ → Type 0) → Type 1 where
  none : Meant [] CarriedOut
  row : {f : Fault} {fs : List Fault} {reason : Type 0} {others : ℕ → Type 0} → (f.applies ≡ true) ↔ reason → Meant fs others
      → Meant (f ∷ fs) (RefusedWhen f.number reason others)

first_row : {reason : Type 0} {others : ℕ → Type 0} (f : Fault) (rest : ℕ) (b : Bool) → f.applies ≡ b → (f.applies ≡ true) ↔ reason → others rest
    → RefusedWhen f.number reason others (cond b f.number rest)
first_row f rest true e exactly o = refused (exactly.0 e) refl
first_row f rest false e exactly o = passed (λ p. true≢false (sym (exactly.1 p) ∙ e)) o

-- then the number of the rows, tried one after the other, is given for the reasons
pub tried : {fs : List Fault} {given : ℕ → Type 0} → Meant fs given → given (chained fs)
tried none = refl
tried (row {f = f} {fs = fs} exactly rest) = first_row f (chained fs) f.applies refl exactly (tried rest)

-- a test that is denied, or not
pub denies : {P : Type 0} (b : Bool) → (b ≡ true) ↔ P → (not b ≡ true) ↔ (P → ⊥)
denies b exactly = (
  λ e p. true≢false (sym (exactly.1 p) ∙ not-true b e),
  λ n. by_cases (true_or_false b) (λ e. absurd (n (exactly.0 e))) (λ e. ap not e),
)

-- a test whose fact does not hold is false
pub denied_by : {b : Bool} {P : Type 0} → (b ≡ true → P) → (P → ⊥) → b ≡ false
denied_by {b} means n = by_cases (true_or_false b) (λ e. absurd (n (means e))) (λ e. e)

pub tests : (t : Test) → (test t ≡ true) ↔ Holds t
tests t = (facts t, passes t)

-- a test and a fact that says the same
pub tested : {P : Type 0} (t : Test) → Holds t ↔ P → (test t ≡ true) ↔ P
tested t same = (λ e. same.0 (facts t e), λ p. passes t (same.1 p))

-- a test of what is wrong, which is false exactly where the fact holds
pub faulted : {P : Type 0} (b : Bool) → (b ≡ false) ↔ P → (b ≡ true) ↔ (P → ⊥)
faulted b exactly = (
  λ e p. true≢false (sym e ∙ exactly.1 p),
  λ n. by_cases (true_or_false b) (λ e. e) (λ e. absurd (n (exactly.0 e))),
)

pub equal : (m n : ℕ) → (eqb m n ≡ true) ↔ (m ≡ n)
equal m n = (eqb-true m n, eq-eqb m n)

pub below : (m n : ℕ) → (ltb m n ≡ true) ↔ (m < n)
below m n = (ltb-true m n, lt-ltb m n)

pub both_exactly : {P Q : Type 0} (a b : Bool) → (a ≡ true) ↔ P → (b ≡ true) ↔ Q → ((a && b) ≡ true) ↔ (P × Q)
both_exactly a b p q = (λ e. (p.0 (both a b e).0, q.0 (both a b e).1), λ h. and_i a b (p.1 h.0) (q.1 h.1))

pub yes_no_lem : (x : ℕ) → (x ≤ 1) ↔ YesNo x
yes_no_lem x = (
  λ h. by_cases (split (x ≤? 0)) (λ z. inl (omega arith)) (λ z. inr (omega arith)),
  λ y. by_cases y (λ e. omega arith) (λ e. omega arith),
)

-- each of a tick's flags is yes or no
pub flags_exactly : (a b c : ℕ) → Holds (flags_ok a b c) ↔ (YesNo a × YesNo b × YesNo c)
flags_exactly a b c = (
  λ h. ((yes_no_lem a).0 h.0, (yes_no_lem b).0 h.1.0, (yes_no_lem c).0 h.1.1),
  λ h. ((yes_no_lem a).1 h.0, ((yes_no_lem b).1 h.1, (yes_no_lem c).1 h.2)),
)

-- ---- one number alone

-- a number that is given is the only one
abbrev pub Sole : (ℕ → Type 0) → Type 0
Sole given = (m n : ℕ) → given m → given n → m ≡ n

pub sole_none : Sole CarriedOut
sole_none m n e f = e ∙ sym f

pub sole_when : {number : ℕ} {reason : Type 0} {others : ℕ → Type 0} → Sole others → Sole (RefusedWhen number reason others)
sole_when s m n (refused r e) (refused q f) = e ∙ sym f
sole_when s m n (refused r e) (passed q f) = absurd (q r)
sole_when s m n (passed q f) (refused r e) = absurd (q r)
sole_when s m n (passed q e) (passed p f) = s m n e f

pub sole : {fs : List Fault} {given : ℕ → Type 0} → Meant fs given → Sole given
sole none = sole_none
sole (row exactly rest) = sole_when (sole rest)

-- the number of the row that counts is given
pub first_given : {given : ℕ → Type 0} (fs : List Fault) → Meant fs given → in_order fs ≡ true → given (first_of fs)
first_given {given} fs meant o = subst given (sym (in_order_lem fs o)) (tried meant)

-- the number of rows is the one that is given
pub number_of : {given : ℕ → Type 0} (fs : List Fault) → Meant fs given → in_order fs ≡ true → (n : ℕ) → given n → first_of fs ≡ n
number_of fs meant o n h = sole meant _ _ (first_given fs meant o) h

-- rows give a number exactly for their reasons, where theirs is given and no other is
pub given_exactly : {given : ℕ → Type 0} (fs : List Fault) → given (first_of fs) → Sole given → ranked fs ≡ true → (n : ℕ) → 0 < n → Given fs n ↔ given n
given_exactly {given} fs holds one r n p =
    let exact = first_exact fs r n p in
    (λ g. subst given (exact.is_given g) holds, λ h. exact.has_cause (one _ _ holds h))

pub given_for : {given : ℕ → Type 0} (fs : List Fault) → Meant fs given → ranked fs ≡ true → in_order fs ≡ true → (n : ℕ) → 0 < n → Given fs n ↔ given n
given_for fs meant r o = given_exactly fs (first_given fs meant o) (sole meant) r

-- ---- the bytes of an answer

-- a number that is not 0 is alone
pub refuses_alone : {number answer : ℕ} → Bears number answer → 0 < answer % 256 → digits 8 answer ≡ answer % 256 ∷ 0 ∷ 0 ∷ 0 ∷ 0 ∷ 0 ∷ 0 ∷ 0 ∷ []
refuses_alone {number} {answer} bears p =
    bears.others (subst (λ (n : ℕ). 0 < n) bears.byte_0 p) ∙ ap (λ (n : ℕ). n ∷ 0 ∷ 0 ∷ 0 ∷ 0 ∷ 0 ∷ 0 ∷ 0 ∷ []) (sym bears.byte_0)
