-- What a summary says of a starting credit, beside what happened event by event.
-- Assumes nothing.
use Rattle.std.specs.Prelude.{ℕ, List, ◌≡◌, Ok, Some, None}
use Rattle.shaper.specs.declared.Limits.{Limits}
use Rattle.shaper.specs.declared.Event.{Event}
use Rattle.shaper.specs.Credit.{Permitted, end_credit}
use Rattle.summary.specs.Summary.{summary_of}
use Rattle.summary.specs.Answer.{settle_of}

-- For each starting credit from 0 to hiLimit a summary says exactly whether every send was permitted, and if so the credit at the end.
pub record SettlesExactly (l : Limits) (es : List Event) (c : ℕ) : Type 0 where
  pub permitted : Permitted l c es → settle_of (summary_of l es) c ≡ Ok (Some (end_credit l c es))
  pub not_permitted : (Permitted l c es → ⊥) → settle_of (summary_of l es) c ≡ Ok None
  pub said_permitted : (x : ℕ) → settle_of (summary_of l es) c ≡ Ok (Some x) → Permitted l c es × (end_credit l c es ≡ x)
  pub said_not : settle_of (summary_of l es) c ≡ Ok None → Permitted l c es → ⊥
