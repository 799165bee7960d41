-- The fairness state is that after the interval; it may age since it is in range.
-- Assumes nothing.
use Rattle.station.proofs.Station.aged.Goals as goal

pub age-aged-requires : goal.age-aged-requires
age-aged-requires c = let ok = c.requires in (ok.settings, ok.fair)

pub returns : goal.returns
returns c = rw c.age-aged.ensures
