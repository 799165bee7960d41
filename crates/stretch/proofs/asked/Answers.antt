-- A stretch that runs past the end or backwards is 3, an empty one the empty summary; else what is found is answered.
-- Assumes nothing.
use Prim.Native.Nat.{ℕ, ◌≤◌, ◌<◌}
use mathlib.Core.List.{List}
use Rattle.shaper.specs.declared.Limits.{Limits}
use Rattle.index.specs.Tree.{top_level}
use Rattle.stretch.specs.declared.Found.{Found}
use Rattle.stretch.specs.Found.{source_of, found_in}
use mathlib.Core.Path.{◌≡◌, sym, ap, ◌∙◌}
use native.Mathlib.Omega.{arith}
use Rattle.decide.specs.Test.{passes}
use Rattle.shaper.specs.Limits.{limits_ok}
use Rattle.summary.proofs.Rows.{empty_made}
use Rattle.stretch.specs.Stretch.{found_answer, asked_of}
use Rattle.stretch.proofs.Answers.{asked_backwards, asked_past, asked_found, asked_empty}
use Rattle.stretch.proofs.asked.Goals as goal

-- what both halves came to is the answer
told : (l : Limits) (xs ix : List ℕ) (n first last : ℕ) → (first ≡ last → ⊥) → first ≤ last → last ≤ n →
    (found : Found) → found ≡ found_in (source_of l xs ix n) first last top_level 0 → asked_of l xs ix n first last ≡ found_answer l found
told l xs ix n first last apart forward within found e =
    let some : first < last = omega (arith, apart, forward) in
    asked_found l xs ix n first last some within
    ∙ ap (found_answer l) (sym e)

pub returns-then-last-first : goal.returns-then-last-first
returns-then-last-first c = let a = c.args in sym (asked_backwards a.limits a.s.now a.index.now a.n a.first a.last c.if-last-first.true)

pub returns-then-n-last : goal.returns-then-n-last
returns-then-n-last c = let a = c.args in sym (asked_past a.limits a.s.now a.index.now a.n a.first a.last c.if-n-last.true)

pub returns-then-first-last : goal.returns-then-first-last
returns-then-first-last c =
    let a = c.args in
    c.empty.ensures
    ∙ empty_made a.limits (passes (limits_ok a.limits) c.requires.0)
    ∙ sym (asked_empty a.limits a.s.now a.index.now a.n a.first a.last c.if-first-last.true c.if-n-last.false)

pub halved-requires : goal.halved-requires
halved-requires c =
    record { settings = c.requires.0; long = c.requires.1; few = c.requires.2; some = omega (arith, c.if-first-last.false, c.if-last-first.false); within = c.if-n-last.false }

pub returns-in-Nothing : goal.returns-in-Nothing
returns-in-Nothing c =
    let l = c.args.limits in
    c.empty-in-Nothing.ensures ∙ empty_made l (passes (limits_ok l) c.requires.0) ∙ sym (told c.args.limits c.args.s.now c.args.index.now c.args.n c.args.first c.args.last c.if-first-last.false c.if-last-first.false c.if-n-last.false _ c.halved.ensures ∙ ap (found_answer l) c.in-Nothing.is)

pub returns-in-Faulty : goal.returns-in-Faulty
returns-in-Faulty c = sym (told c.args.limits c.args.s.now c.args.index.now c.args.n c.args.first c.args.last c.if-first-last.false c.if-last-first.false c.if-n-last.false _ c.halved.ensures ∙ ap (found_answer c.args.limits) c.in-Faulty.is)

pub returns-in-Outside : goal.returns-in-Outside
returns-in-Outside c = sym (told c.args.limits c.args.s.now c.args.index.now c.args.n c.args.first c.args.last c.if-first-last.false c.if-last-first.false c.if-n-last.false _ c.halved.ensures ∙ ap (found_answer c.args.limits) c.in-Outside.is)

pub returns-in-Sum : goal.returns-in-Sum
returns-in-Sum c = sym (told c.args.limits c.args.s.now c.args.index.now c.args.n c.args.first c.args.last c.if-first-last.false c.if-last-first.false c.if-n-last.false _ c.halved.ensures ∙ ap (found_answer c.args.limits) c.in-Sum.is)
