-- Each way that the events go has its own text; what stands before the verdict is written first: `filled_more`.
-- Assumes nothing.
use Rattle.std.specs.Prelude.{Option, Some, None, Ok, Err}
use mathlib.Core.Path.{◌≡◌, refl, sym, ap, ◌∙◌}
use mathlib.Core.List.{◌++◌}
use Prim.Native.Nat.{ℕ, ◌≤◌}
use native.Mathlib.Omega.{arith}
use lib.ListN.{length, length-append}
use Rattle.decide.specs.declared.refusal.Refusal.{Refusal}
use Rattle.decide.specs.Number.{number_in}
use Rattle.summary.specs.declared.Summary.{Summary}
use Rattle.summary.specs.Answer.{Outcome}
use Rattle.report.specs.Text.{ascii, numeral, line}
use Rattle.report.specs.Report.{refused_text, started_text, settled_text}
use Rattle.report.proofs.Filled.{filled_more}
use Rattle.report.proofs.put_settled.Goals as goal

permitted : (s : Summary) (o : Outcome) (end : Option ℕ) (n : ℕ) → o ≡ Ok end → end ≡ Some n → settled_text s o ≡ started_text s ++ line (ascii " permitted end ") (numeral n)
unfolding settled_text
permitted s o end n e f = ap (settled_text s) (e ∙ ap Ok f)

not_permitted : (s : Summary) (o : Outcome) (end : Option ℕ) → o ≡ Ok end → end ≡ None → settled_text s o ≡ started_text s ++ ascii " not permitted\n"
unfolding settled_text
not_permitted s o end e f = ap (settled_text s) (e ∙ ap Ok f)

refused : (s : Summary) (o : Outcome) (r : Refusal) (n : ℕ) → o ≡ Err r → n ≡ number_in r → settled_text s o ≡ refused_text n
unfolding settled_text
refused s o r n e k = ap (settled_text s) e ∙ ap refused_text (sym k)

-- the lines before the verdict are part of the text
started_within : (s : Summary) (o : Outcome) (end : Option ℕ) → o ≡ Ok end → length (started_text s) ≤ length (settled_text s o)
started_within s o (Some n) e = omega (arith, ap length (permitted s o _ n e refl), length-append (started_text s) (line (ascii " permitted end ") (numeral n)))
started_within s o None e = omega (arith, ap length (not_permitted s o _ e refl), length-append (started_text s) (ascii " not permitted\n"))

pub put_started-verdict-requires : goal.put_started-verdict-requires
put_started-verdict-requires c = omega (arith, started_within c.args.summary c.args.outcome _ c.in-Ok.is)

pub put_line-requires : goal.put_line-requires
put_line-requires c =
    omega (arith, ap length (permitted c.args.summary c.args.outcome _ _ c.in-Ok.is c.in-Some.is) ∙ length-append (started_text _) (line _ _))

pub put_words-requires : goal.put_words-requires
put_words-requires c =
    omega (arith, ap length (not_permitted c.args.summary c.args.outcome _ c.in-Ok.is c.in-None.is) ∙ length-append (started_text _) _)

pub put_line-requires-in-Err : goal.put_line-requires-in-Err
put_line-requires-in-Err c = omega (arith, ap length (refused c.args.summary c.args.outcome _ _ c.in-Err.is c.number.ensures))

pub returns-in-Some : goal.returns-in-Some
returns-in-Some c =
    let p = permitted c.args.summary c.args.outcome _ _ c.in-Ok.is c.in-Some.is in
    let l = ap length p ∙ length-append (started_text _) (line _ _) in
    let a = c.put_started-verdict.ensures in
    let b = c.put_line.ensures in
    let f = filled_more _ _ _ _ _ _ _ _ (a.value, a.s_after) (b.value, b.s_after) (omega (arith, l)) in
    record { value = rw p f.0; s_after = rw p f.1 }

pub returns-in-None : goal.returns-in-None
returns-in-None c =
    let p = not_permitted c.args.summary c.args.outcome _ c.in-Ok.is c.in-None.is in
    let l = ap length p ∙ length-append (started_text _) _ in
    let a = c.put_started-verdict.ensures in
    let b = c.put_words.ensures in
    let f = filled_more _ _ _ _ _ _ _ _ (a.value, a.s_after) (b.value, b.s_after) (omega (arith, l)) in
    record { value = rw p f.0; s_after = rw p f.1 }

pub returns-in-Err : goal.returns-in-Err
returns-in-Err c =
    let p = refused c.args.summary c.args.outcome _ _ c.in-Err.is c.number.ensures in
    let a = c.put_line-in-Err.ensures in
    record { value = rw p a.value; s_after = rw p a.s_after }
