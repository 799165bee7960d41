-- The conservative method over calls (document 02, A7): what an interval does now, and what of it can be seen. Assumes nothing.
use Rattle.std.specs.Prelude.{ℕ, ◌≤◌, ◌⊎◌, ◌≡◌}
use Rattle.queue.specs.Queue.{frames_of, sizes}
use Rattle.fair.specs.Methods.{Row}
use Rattle.fair.specs.Age.{row_for}
use Rattle.station.specs.declared.Station.{Station}
use Rattle.station.specs.History.{age, step}

-- the bytes of the frames in the secondary queue
abbrev pub held_now : Station → ℕ
held_now st = sizes (frames_of st.flow.secondary)

-- the row that an interval takes now
abbrev pub row_now : Station → Row
row_now st = row_for st.fair st.settings (held_now st)

-- the station that an interval leaves
abbrev pub aged : Station → Station
aged st = (step age st).station

-- An interval now alters local congestion or localFairRate,
abbrev pub Altered : Station → Type 0
Altered st =
    (st.fair.decided.congested ≡ (aged st).fair.decided.congested → ⊥)
    ⊎ (st.fair.decided.local ≡ (aged st).fair.decided.local → ⊥)

-- and one alters localFairRate of a station that counts as locally congested before and after it.
abbrev pub AlteredWithin : Station → Type 0
AlteredWithin st =
    (st.fair.decided.congested ≡ 1)
    × ((aged st).fair.decided.congested ≡ 1)
    × (st.fair.decided.local ≡ (aged st).fair.decided.local → ⊥)

-- with the conservative method localFairRate does not exceed unreservedRate
abbrev pub RateWithin : Station → Type 0
RateWithin st = st.settings.site.method ≡ 1 → st.fair.decided.local ≤ st.settings.fairness.unreserved

-- where the station does not count as locally congested localFairRate is unreservedRate
abbrev pub FreeAtUnreserved : Station → Type 0
FreeAtUnreserved st = st.fair.decided.congested ≡ 0 → st.fair.decided.local ≡ st.settings.fairness.unreserved
