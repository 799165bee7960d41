-- A summary's text is by what its events do from loLimit; a refusal's is its number.
-- Assumes nothing.
use Rattle.std.specs.Prelude.{Ok, Err}
use mathlib.Core.Path.{◌≡◌, sym, ap, ◌∙◌}
use Prim.Native.Nat.{ℕ}
use native.Mathlib.Omega.{arith}
use lib.ListN.{length}
use Rattle.decide.specs.declared.refusal.Refusal.{Refusal}
use Rattle.decide.specs.Number.{number_in}
use Rattle.summary.specs.declared.Summary.{Summary}
use Rattle.summary.specs.Answer.{settle_of, Answer, Outcome}
use Rattle.report.specs.Report.{refused_text, settled_text, printed_of}
use Rattle.report.proofs.put_answer.Goals as goal

summed : (a : Answer) (s : Summary) (o : Outcome) → a ≡ Ok s → o ≡ settle_of s s.limits.lo → printed_of a ≡ settled_text s o
unfolding printed_of
summed a s o e h = ap printed_of e ∙ ap (settled_text s) (sym h)

refused : (a : Answer) (r : Refusal) (n : ℕ) → a ≡ Err r → n ≡ number_in r → printed_of a ≡ refused_text n
unfolding printed_of
refused a r n e k = ap printed_of e ∙ ap refused_text (sym k)

pub put_settled-requires : goal.put_settled-requires
put_settled-requires c = omega (arith, ap length (summed c.args.answer _ _ c.in-Ok.is c.settle-outcome.ensures))

pub put_line-requires : goal.put_line-requires
put_line-requires c = omega (arith, ap length (refused c.args.answer _ _ c.in-Err.is c.number.ensures))

pub returns-in-Ok : goal.returns-in-Ok
returns-in-Ok c =
    let p = summed c.args.answer _ _ c.in-Ok.is c.settle-outcome.ensures in
    let a = c.put_settled.ensures in
    record { value = rw p a.value; s_after = rw p a.s_after }

pub returns-in-Err : goal.returns-in-Err
returns-in-Err c =
    let p = refused c.args.answer _ _ c.in-Err.is c.number.ensures in
    let a = c.put_line.ensures in
    record { value = rw p a.value; s_after = rw p a.s_after }
