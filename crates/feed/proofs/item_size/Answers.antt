-- By the kind, as the definition has it.
-- Assumes nothing.
use mathlib.Core.Path.{sym, ◌∙◌}
use Rattle.record.proofs.Rows.{run_at, run_not_at}
use Rattle.feed.proofs.Rows.{size_run, size_event}
use Rattle.feed.proofs.item_size.Goals as goal

pub returns-then-get16-eq4 : goal.returns-then-get16-eq4
returns-then-get16-eq4 c = sym (size_run _ (run_at _ _ (sym c.get16.ensures ∙ c.if-get16-eq4.true)))

pub returns : goal.returns
returns c = sym (size_event _ (run_not_at _ _ (λ e. c.if-get16-eq4.false (c.get16.ensures ∙ e))))
