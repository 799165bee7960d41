-- By what stands there: an item without a fault, a send of another size, or the end or a fault that is 2.
-- Assumes nothing.
use Rattle.std.specs.Prelude.{Ok, Err}
use Prim.Native.Nat.{ℕ}
use mathlib.Core.Bool.{true}
use mathlib.Core.Path.{◌≡◌, refl, sym, ap, ◌∙◌}
use native.Mathlib.Omega.{arith}
use mathlib.Core.List.{List}
use Rattle.decide.proofs.Cases.{by_cases}
use Rattle.decide.specs.declared.refusal.Refusal.{Refusal}
use Rattle.decide.specs.Number.{number_in, refusal_of}
use Rattle.record.specs.Step.{item_at}
use Rattle.record.proofs.Named.{item_named}
use Rattle.record.proofs.Steps.{step_end, step_faulty}
use Rattle.excerpt.proofs.Faults.{standing, faulty_there, item_none, item_told, SizeAlone}
use Rattle.excerpt.proofs.Last.{shape_whole, shape_none}
use Rattle.excerpt.proofs.shape_at.Goals as goal

-- the fault that was found is a send's size
sized : (mtu : ℕ) (xs : List ℕ) (at : ℕ) → item_at true mtu xs at ≡ Err (refusal_of 3) → SizeAlone xs at 3
sized mtu xs at e =
    by_cases (item_told mtu xs at 3 (faulty_there mtu xs at (refusal_of 3) e) (omega arith)) (λ z. absurd (omega arith)) (λ s. s)

pub overflow_add-result : goal.overflow_add-result
overflow_add-result c =
    let a = c.args in
    let size = sized a.mtu a.s.now a.at (sym c.event_at.ensures ∙ c.in-Err.is ∙ ap Err c.in-OutOfRange.is) in
    record { fits = omega (arith, size.there, c.well_formed) }

pub returns-in-Ok-Some : goal.returns-in-Ok-Some
returns-in-Ok-Some c =
    let a = c.args in
    let i = c.in-Ok-Some.item in
    let s = standing a.mtu a.s.now a.at i.kind i.number i.count i.next (sym c.event_at.ensures ∙ c.in-Ok-Some.is ∙ ap Ok c.in-Ok-Some.field-0-is) in
    sym (rw s.behind at (shape_whole a.mtu a.s.now a.at 0 _ _ s.stood.free (λ z. omega arith) s.told.count refl))

pub returns-in-Ok-None : goal.returns-in-Ok-None
returns-in-Ok-None c =
    let a = c.args in
    let e = sym c.event_at.ensures ∙ c.in-Ok-None.is ∙ ap Ok c.in-Ok-None.field-0-is in
    sym (shape_none a.mtu a.s.now a.at (item_none a.mtu a.s.now a.at (step_end true a.mtu a.s.now a.at e)))

pub returns-in-OutOfRange : goal.returns-in-OutOfRange
returns-in-OutOfRange c =
    let a = c.args in
    let e : item_at true a.mtu a.s.now a.at ≡ Err (refusal_of 3) = sym c.event_at.ensures ∙ c.in-Err.is ∙ ap Err c.in-OutOfRange.is in
    let size = sized a.mtu a.s.now a.at e in
    sym (shape_whole a.mtu a.s.now a.at 3 1 6 (faulty_there a.mtu a.s.now a.at (refusal_of 3) e) (λ z. omega arith) size.one size.six)

-- a fault by another name is told by another number
other : (r : Refusal) → refusal_of (number_in r) ≡ r → (r ≡ Refusal.OutOfRange → ⊥) → number_in r ≡ 3 → ⊥
other r e not n = not (sym e ∙ ap refusal_of n)

pub returns-in_default : goal.returns-in_default
returns-in_default c =
    let a = c.args in
    let f = c.in-Err.fault in
    let e = sym c.event_at.ensures ∙ c.in-Err.is in
    let some = (step_faulty true a.mtu a.s.now a.at f e).given in
    let there = faulty_there a.mtu a.s.now a.at f e in
    sym (shape_none a.mtu a.s.now a.at
    (by_cases (item_told a.mtu a.s.now a.at (number_in f) there some) (λ two. there ∙ two)
    (λ s. absurd (other f (rw e at (item_named true a.mtu a.s.now a.at)) c.in_default.not-OutOfRange s.three))))
