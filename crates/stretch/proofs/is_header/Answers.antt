-- Of a refusal the answer is the test of its number.
-- Assumes nothing.
use Rattle.std.proofs.Common.{◌≡◌, ℕ, not, eqb}
use Rattle.std.specs.Prelude.{Err}
use Rattle.decide.specs.declared.refusal.Refusal.{Refusal}
use Rattle.decide.specs.Number.{number_in}
use Rattle.record.specs.Step.{Header}
use Rattle.stretch.specs.Stretch.{is_header}
use Rattle.stretch.proofs.is_header.Goals as goal

-- a header that is refused
by_number : (h : Header) (r : Refusal) (n : ℕ) → h ≡ Err r → n ≡ number_in r → not (eqb n 2) ≡ is_header h
unfolding is_header
by_number h r n e i = rw (e, i)

pub returns-in-Err : goal.returns-in-Err
returns-in-Err c = by_number c.args.header _ _ c.in-Err.is c.number.ensures
