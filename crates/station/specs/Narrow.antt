-- What every station that a program can hold has beside its range: the low words of its addresses are numbers of 32 bits.
-- Assumes nothing.
use Rattle.std.specs.Prelude.{◌<◌}
use Rattle.settings.specs.declared.Settings.{Settings}
use Rattle.station.specs.declared.Station.{Station}

-- own address: its low word
abbrev pub NarrowOwn : Settings → Type 0
NarrowOwn s = s.address.low < 4294967296

-- own and received address: their low words
pub record Narrow (st : Station) : Type 0 where
  pub own_low : NarrowOwn st.settings
  pub low : st.fair.received.low < 4294967296
