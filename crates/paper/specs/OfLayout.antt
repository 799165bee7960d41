-- Public functions of `layout`, by name: two answers that meet the contract are equal.
-- Assumes nothing.
use Rattle.credits.specs.declared.Credits.{Credits}
use Rattle.decide.specs.Test.{test}
use Rattle.fair.specs.Four.{Four}
use Rattle.fair.specs.Range.{fair_ok}
use Rattle.fair.specs.declared.Decided.{Decided}
use Rattle.fair.specs.declared.Fair.{Fair}
use Rattle.flow.specs.declared.Line.{Line}
use Rattle.heard.specs.declared.Received.{Received}
use Rattle.layout.specs.Layout.{credits_words, decided_words, fair_at, fair_bytes, fair_place, four_words, pushed_at, received_words, stage_place, station_at, station_bytes, taken_from}
use Rattle.layout.specs.Reading.{reading_bytes}
use Rattle.settings.specs.declared.Settings.{Settings}
use Rattle.station.specs.Offers.{given_frame}
use Rattle.station.specs.Pick.{pick_of}
use Rattle.station.specs.Range.{station_ok}
use Rattle.station.specs.declared.Pick.{Pick}
use Rattle.station.specs.declared.Reading.{Reading}
use Rattle.station.specs.declared.Station.{Station}
use Rattle.std.specs.Prelude.{Bool, List, ℕ, ◌≡◌}
use Rattle.wire.specs.Wire.{digits, put}
use Rattle.wire.specs.Words.{words_bytes}
use Rattle.paper.specs.Determined.{Determined}

pub record Functions : Type 0 where
  -- fairness::read (a leaf: it asks that at + fair_length ≤ length s.now)
  pub fairness_read : (s : List ℕ) (at : ℕ) → Determined (λ (r : Fair). r ≡ fair_at s at)
  -- fairness::in_range_at (a leaf: it asks that at + fair_length ≤ length s.now)
  pub fairness_in_range_at : (s : List ℕ) (at : ℕ) (settings : Settings) → Determined (λ (r : Bool). r ≡ test (fair_ok settings (fair_at s at)))
  -- fairness::write (a leaf: it asks that at + fair_length ≤ length s.old)
  pub fairness_write : (f : Fair) (s : List ℕ) (at : ℕ) → Determined (λ (after-s : List ℕ). after-s ≡ put s at (fair_bytes f))
  -- fairness::write_four (a leaf: it asks that at + four_length ≤ length s.old)
  pub fairness_write_four : (r : Four) (s : List ℕ) (at : ℕ) → Determined (λ (after-s : List ℕ). after-s ≡ put s at (words_bytes (four_words r)))
  -- fairness::write_decided (a leaf: it asks that at + decided_length ≤ length s.old)
  pub fairness_write_decided : (d : Decided) (s : List ℕ) (at : ℕ) → Determined (λ (after-s : List ℕ). after-s ≡ put s at (words_bytes (decided_words d)))
  -- fairness::write_received (a leaf: it asks that at + received_length ≤ length s.old)
  pub fairness_write_received : (r : Received) (s : List ℕ) (at : ℕ) → Determined (λ (after-s : List ℕ). after-s ≡ put s at (words_bytes (received_words r)))
  -- read (a leaf: it asks that length s.now ≡ station_length)
  pub read : (s : List ℕ) → Determined (λ (r : Station). r ≡ station_at s)
  -- in_range (a leaf: it asks that length whole.now ≡ station_length)
  pub in_range : (whole : List ℕ) → Determined (λ (r : Bool). r ≡ test (station_ok (station_at whole)))
  -- pick (a leaf: it asks that length s.now ≡ station_length)
  pub pick : (s : List ℕ) → Determined (λ (r : Pick). r ≡ pick_of (station_at s))
  -- write (a leaf: it asks that length s.old ≡ station_length)
  pub write : (st : Station) (s : List ℕ) → Determined (λ (after-s : List ℕ). after-s ≡ station_bytes st)
  -- write_credits (a leaf: it asks that length s.old ≡ station_length)
  pub write_credits : (c : Credits) (s : List ℕ) → Determined (λ (after-s : List ℕ). after-s ≡ put s 0 (words_bytes (credits_words c)))
  -- push_frame (a leaf: it asks that length s.old ≡ station_length)
  pub push_frame : (line : Line) (class size hops mark : ℕ) (s : List ℕ) → Determined (λ (after-s : List ℕ). after-s ≡ pushed_at s line (given_frame class size hops mark))
  -- take_frame (a leaf: it asks that length s.old ≡ station_length)
  pub take_frame : (origin : ℕ) (s : List ℕ) → Determined (λ (after-s : List ℕ). after-s ≡ taken_from origin s)
  -- write_stage (a leaf: it asks that length s.old ≡ station_length)
  pub write_stage : (word : ℕ) (s : List ℕ) → Determined (λ (after-s : List ℕ). after-s ≡ put s stage_place (digits 4 word))
  -- write_fair (a leaf: it asks that length s.old ≡ station_length)
  pub write_fair : (f : Fair) (s : List ℕ) → Determined (λ (after-s : List ℕ). after-s ≡ put s fair_place (fair_bytes f))
  -- write_counters (a leaf: it asks that length s.old ≡ station_length)
  pub write_counters : (c : Four) (s : List ℕ) → Determined (λ (after-s : List ℕ). after-s ≡ put s fair_place (words_bytes (four_words c)))
  -- write_reading (a leaf: it asks that length s.old ≡ reading_length)
  pub write_reading : (r : Reading) (s : List ℕ) → Determined (λ (after-s : List ℕ). after-s ≡ reading_bytes r)
