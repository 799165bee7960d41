-- By the join's answer.
-- Assumes nothing.
use Rattle.std.specs.Prelude.{Ok, Err}
use Rattle.std.specs.Result.{result_unwrap_or}
use mathlib.Core.Path.{◌≡◌, refl, ap, ◌∙◌}
use Rattle.summary.specs.declared.Summary.{Summary}
use Rattle.summary.specs.Answer.{Answer, join_of}
use Rattle.index.specs.Fill.{both_by, both_of}
use Rattle.index.proofs.both.Goals as goal

same : (a : Summary) (r : Answer) → result_unwrap_or r a ≡ both_by a r
same a (Ok s) = refl
same a (Err f) = refl

pub returns : goal.returns
unfolding both_of
returns c =
    let a = c.args in
    c.unwrap_or.ensures ∙ ap (λ (r : Answer). result_unwrap_or r a.first) c.join.ensures ∙ same a.first (join_of a.first a.second)
