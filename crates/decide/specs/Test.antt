-- Tests on numbers that read both ways: `test t` is the Bool that code computes, and `Holds t` the same test as facts, which `omega` reads.
-- Assumes nothing.
use Rattle.std.specs.Prelude.{ℕ, ◌≤◌, ◌<◌, ◌⊎◌, ◌≡◌, refl, leb, ltb, eqb}
use mathlib.Core.Bool.{Bool, true, false, not, ◌&&◌, ◌||◌}
use Rattle.std.proofs.Common.{inl, inr, ⊎_elim, sym, ◌∙◌, leb-true, ltb-true, eqb-true, le-leb, lt-ltb, eq-eqb}
use Rattle.std.proofs.lemmas.Bool.{not-true, not-false}

infix 50 ◌≤?◌ ◌<?◌ ◌≡?◌
infixr 40 ◌∧?◌
infixr 30 ◌∨?◌
pub data Test : Type 0 where
  ◌≤?◌ : ℕ → ℕ → Test
  ◌<?◌ : ℕ → ℕ → Test
  ◌≡?◌ : ℕ → ℕ → Test
  ◌∧?◌ : Test → Test → Test
  ◌∨?◌ : Test → Test → Test

unfoldable pub test : Test → Bool
test (a ≤? b) = leb a b
test (a <? b) = ltb a b
test (a ≡? b) = eqb a b
test (p ∧? q) = test p && test q
test (p ∨? q) = test p || test q

abbrev pub Holds : Test → Type 0
Holds (a ≤? b) = a ≤ b
Holds (a <? b) = a < b
Holds (a ≡? b) = a ≡ b
Holds (p ∧? q) = Holds p × Holds q
Holds (p ∨? q) = Holds p ⊎ Holds q

-- r says whether P holds
abbrev pub Decides : Bool → Type 0 → Type 0
Decides true P = P
Decides false P = P → ⊥

pub both : (a b : Bool) → (a && b) ≡ true → (a ≡ true) × (b ≡ true)
both true b e = (refl, e)
both false b e = (e, absurd (mathlib.Core.Bool.false≢true e))

pub either : (a b : Bool) → (a || b) ≡ true → (a ≡ true) ⊎ (b ≡ true)
either true b e = inl refl
either false b e = inr e

pub and_i : (a b : Bool) → a ≡ true → b ≡ true → (a && b) ≡ true
and_i a b p q = rw (p, q)

or_l : (a b : Bool) → a ≡ true → (a || b) ≡ true
or_l a b p = rw p

pub or_r : (a b : Bool) → b ≡ true → (a || b) ≡ true
or_r true b p = refl
or_r false b p = p

-- the test is true: the facts
pub facts : (t : Test) → test t ≡ true → Holds t
unfolding test
facts (a ≤? b) e = leb-true a b e
facts (a <? b) e = ltb-true a b e
facts (a ≡? b) e = eqb-true a b e
facts (p ∧? q) e = (facts p (both (test p) (test q) e).0, facts q (both (test p) (test q) e).1)
facts (p ∨? q) e = ⊎_elim (λ h. inl (facts p h)) (λ h. inr (facts q h)) (either (test p) (test q) e)

-- the facts: the test is true
pub passes : (t : Test) → Holds t → test t ≡ true
unfolding test
passes (a ≤? b) h = le-leb a b h
passes (a <? b) h = lt-ltb a b h
passes (a ≡? b) h = eq-eqb a b h
passes (p ∧? q) h = and_i (test p) (test q) (passes p h.0) (passes q h.1)
passes (p ∨? q) (inl h) = or_l (test p) (test q) (passes p h)
passes (p ∨? q) (inr h) = or_r (test p) (test q) (passes q h)

-- code that decides the facts returns the test's value
pub decided : (t : Test) (r : Bool) → Decides r (Holds t) → r ≡ test t
decided t true d = sym (passes t d)
decided t false d = go (test t) refl
  where
    go : (b : Bool) → test t ≡ b → false ≡ test t
    go true e = absurd (d (facts t e))
    go false e = sym e

-- a test's value, as a fact or its negation
pub split : (t : Test) → Holds t ⊎ (Holds t → ⊥)
split t = go (test t) refl
  where
    go : (b : Bool) → test t ≡ b → Holds t ⊎ (Holds t → ⊥)
    go true e = inl (facts t e)
    go false e = inr (λ h. mathlib.Core.Bool.true≢false (sym (passes t h) ∙ e))

-- what `if !f()` tells where f returns the test's value: as it is left, and as it is taken
pub left : (t : Test) {r : Bool} → r ≡ test t → not r ≡ false → test t ≡ true
left t {r} e y = sym e ∙ not-false r y

pub taken : (t : Test) {r : Bool} → r ≡ test t → not r ≡ true → test t ≡ false
taken t {r} e n = sym e ∙ not-true r n

pub said : (t : Test) {r : Bool} → r ≡ test t → not r ≡ false → Holds t
said t e y = facts t (left t e y)

pub denied : (t : Test) {r : Bool} → r ≡ test t → not r ≡ true → Holds t → ⊥
denied t e n h = mathlib.Core.Bool.true≢false (sym (passes t h) ∙ taken t e n)
