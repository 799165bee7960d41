-- Start and the calls of a station: of each, the rows of the refusal table that it can give, in their order, and what it answers.
-- Assumes nothing.
use Rattle.std.specs.Prelude.{ℕ, Bool, not, List, [], ◌∷◌, Result, Ok, eqb}
use Rattle.decide.specs.Test.{Test, test, ◌≤?◌, ◌∧?◌}
use Rattle.decide.specs.Refusal.{Fault, fault, first_of, refused_or}
use Rattle.shaper.specs.declared.Refused.{Refused}
use Rattle.settings.specs.declared.Settings.{Settings}
use Rattle.settings.specs.Range.{settings_ok}
use Rattle.credits.specs.declared.Which.{Which}
use Rattle.flow.specs.Tick as flow
use Rattle.flow.specs.Tick.{amount_of}
use Rattle.rates.specs.Rates.{share_of}
use Rattle.fair.specs.Start as fair
use Rattle.fair.specs.Age as interval
use Rattle.station.specs.declared.Station.{Station}
use Rattle.station.specs.declared.Selected.{Selected}
use Rattle.station.specs.Range.{station_ok}
use Rattle.station.specs.Answers.{with_flow, with_fair, Done, refused_of, done_of, chosen_of, not_chosen_of}

-- 1: a setting, or a lent station's state, is outside its range
abbrev pub range_fault : Station → Fault
range_fault st = fault 1 (not (test (station_ok st)))

-- ---- start

-- all parts at their start
abbrev pub fresh_of : Settings → Station
fresh_of s = record { settings = s; flow = flow.start_of s; fair = fair.start_of s }

abbrev pub start_faults : Settings → List Fault
start_faults s = fault 1 (not (test (settings_ok s))) ∷ []

-- the station is fresh, whatever it was
abbrev pub start_of : Station → Settings → Done
start_of st s = refused_or refused_of (first_of (start_faults s)) (done_of (fresh_of s))

-- ---- tick

-- yes or no: 1 or 0
abbrev pub yes_no : ℕ → Test
yes_no x = x ≤? 1

-- each of the three flags is in its range
abbrev pub flags_ok : ℕ → ℕ → ℕ → Test
flags_ok a b c = yes_no a ∧? yes_no b ∧? yes_no c

-- 1, and 3: a coded choice (yes or no) is outside its range
abbrev pub tick_faults : Station → ℕ → ℕ → ℕ → List Fault
tick_faults st a b c = range_fault st ∷ fault 3 (not (test (flags_ok a b c))) ∷ []

-- what one tick has of the allowed rate: floor(allowedRate / (ageCoef × ticks per interval))
abbrev pub share_for : Station → ℕ
share_for st = share_of st.fair.decided.allowed st.settings.fairness.age st.settings.fairness.ticks

-- what a shaper is given by a tick of this station
abbrev pub amount_for : Station → Which → ℕ
amount_for st w = amount_of st.settings (share_for st) w

-- the station after a tick: C's share is of allowedRate as it is lent
abbrev pub ticked_of : Station → Bool → Bool → Bool → Station
ticked_of st a b c = with_flow st (flow.tick_of st.settings st.flow (share_for st) a b c)

-- The host's tick says whether A, B, C traffic waits.
abbrev pub tick_of : Station → ℕ → ℕ → ℕ → Done
tick_of st a b c = refused_or refused_of (first_of (tick_faults st a b c)) (done_of (ticked_of st (eqb a 1) (eqb b 1) (eqb c 1)))

-- ---- select

abbrev pub select_faults : Station → List Fault
select_faults st = range_fault st ∷ []

-- The chosen frame leaves its queue, and is counted.
abbrev pub select_of : Station → Result Selected Refused
select_of st = refused_or not_chosen_of (first_of (select_faults st)) (Ok (chosen_of st))

-- ---- age

abbrev pub age_faults : Station → List Fault
age_faults st = range_fault st ∷ []

-- an interval ends, with so many bytes in the secondary queue
abbrev pub aged_of : Station → Station
aged_of st = with_fair st (interval.age_of st.fair st.settings st.flow.secondary.held)

abbrev pub age_of : Station → Done
age_of st = refused_or refused_of (first_of (age_faults st)) (done_of (aged_of st))
