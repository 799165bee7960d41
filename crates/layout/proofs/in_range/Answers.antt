-- `layout::in_range` meets its contract. Each part is asked where it stands: one that is out of range puts the station out, and the stage says what is left.
-- Assumes nothing.
use Prim.Native.Nat.{ℕ}
use mathlib.Core.Bool.{Bool, not}
use mathlib.Core.List.{List}
use mathlib.Core.Path.{◌≡◌, ap, ◌∙◌}
use lib.ListN.{length, take}
use Rattle.wire.specs.Wire.{le}
use Rattle.decide.specs.Test.{Test, test, said}
use Rattle.settings.specs.declared.Settings.{Settings}
use Rattle.settings.specs.Range.{settings_ok}
use Rattle.settings.specs.Words.{settings_at}
use Rattle.queue.specs.declared.Bounds.{Bounds}
use Rattle.queue.specs.Range.{queue_ok}
use Rattle.credits.specs.declared.Credits.{Credits}
use Rattle.credits.specs.Range.{credits_ok}
use Rattle.flow.specs.declared.Line.{Line}
use Rattle.flow.specs.declared.Line.TheVariants.{Control, Primary, Secondary}
use Rattle.flow.specs.Parts.{queue_of, capacity_of, bounds_of}
use Rattle.flow.specs.Range.{stage_ok, flow_ok}
use Rattle.fair.specs.Range.{fair_ok}
use Rattle.station.specs.declared.Station.{Station}
use Rattle.station.specs.Range.{station_ok}
use Rattle.slots.specs.Slots.{queue_at}
use Rattle.layout.specs.Layout.{place_of, stage_place, fair_place, settings_place, station_length, credits_at, fair_at, station_at}
use Rattle.layout.proofs.Range.{whole_cut, queue_here, part_out, last_says}
use Rattle.layout.proofs.in_range.Goals as goal

-- ---- what each test is of: a part of the station that is lent

-- a queue, whichever it is
abbrev line_ok : Station → Line → Test
line_ok st l = queue_ok (bounds_of st.settings) (capacity_of st.settings l) (queue_of st.flow l)

module _ (xs : List ℕ) (e : length xs ≡ station_length) where
  settings_asked : {good : Bool} → good ≡ test (settings_ok (settings_at (take station_length xs) settings_place)) → good ≡ test (settings_ok (station_at xs).settings)
  unfolding station_at
  settings_asked h = rw (whole_cut xs e) at h

  -- behind it, the settings are known
  settings_known : {s : Settings} → s ≡ settings_at (take station_length xs) settings_place → s ≡ (station_at xs).settings
  unfolding station_at
  settings_known h = rw (whole_cut xs e) at h

  module _ (s : Settings) (known : s ≡ settings_at (take station_length xs) settings_place) where
    fair_asked : {good : Bool} → good ≡ test (fair_ok s (fair_at (take station_length xs) fair_place)) → good ≡ test (fair_ok (station_at xs).settings (station_at xs).fair)
    unfolding station_at
    fair_asked h = rw (settings_known known, whole_cut xs e) at h

    credits_asked : {good : Bool} (c : Credits) → c ≡ credits_at (take station_length xs) 0 → good ≡ test (credits_ok s c) → good ≡ test (credits_ok (station_at xs).settings (station_at xs).flow.credits)
    unfolding station_at
    credits_asked c r h = rw (settings_known known, r, whole_cut xs e) at h

    module _ (b : Bounds) (bounds : b ≡ bounds_of s) where
      queue_asked : (l : Line) {good : Bool} → good ≡ test (queue_ok b (capacity_of s l) (queue_at (take station_length xs) (place_of l))) → good ≡ test (line_ok (station_at xs) l)
      queue_asked l h = rw (bounds, settings_known known, whole_cut xs e, queue_here) at h

      stage_asked : {good : Bool} (w : ℕ) → w ≡ le 4 (take station_length xs) stage_place → good ≡ test (stage_ok b w) → good ≡ test (stage_ok (bounds_of (station_at xs).settings) (station_at xs).flow.stage)
      unfolding station_at
      stage_asked w r h = rw (bounds, settings_known known, r, whole_cut xs e) at h

-- ---- the tests, one after the other

pub returns-then-not-in_range_at : goal.returns-then-not-in_range_at
unfolding station_ok
returns-then-not-in_range_at c =
    let xs : List ℕ = c.args.whole.now in
    let st : Station = station_at xs in
    part_out st (settings_ok st.settings) (λ h. h.0) (settings_asked xs c.requires c.in_range_at.ensures) (ap not c.if-not-in_range_at.true)

pub returns-then-not-in_range_at-2 : goal.returns-then-not-in_range_at-2
unfolding station_ok
returns-then-not-in_range_at-2 c =
    let xs : List ℕ = c.args.whole.now in
    let st : Station = station_at xs in
    part_out st (fair_ok st.settings st.fair) (λ h. h.1.1) (fair_asked xs c.requires c.read-settings.result c.read-settings.ensures c.in_range_at-2.ensures)
    (ap not c.if-not-in_range_at-2.true)

pub returns-then-not-in_range : goal.returns-then-not-in_range
unfolding station_ok flow_ok
returns-then-not-in_range c =
    let xs : List ℕ = c.args.whole.now in
    let st : Station = station_at xs in
    part_out st (credits_ok st.settings st.flow.credits) (λ h. h.1.0.0)
    (credits_asked xs c.requires c.read-settings.result c.read-settings.ensures c.read_credits.result c.read_credits.ensures c.in_range.ensures)
    (ap not c.if-not-in_range.true)

pub returns-then-not-in_range-2 : goal.returns-then-not-in_range-2
unfolding station_ok flow_ok
returns-then-not-in_range-2 c =
    let xs : List ℕ = c.args.whole.now in
    let st : Station = station_at xs in
    part_out st (line_ok st Control) (λ h. h.1.0.1.0)
    (queue_asked xs c.requires c.read-settings.result c.read-settings.ensures c.bounds-bounds.result c.bounds-bounds.ensures Control c.in_range-2.ensures)
    (ap not c.if-not-in_range-2.true)

pub returns-then-not-in_range-3 : goal.returns-then-not-in_range-3
unfolding station_ok flow_ok
returns-then-not-in_range-3 c =
    let xs : List ℕ = c.args.whole.now in
    let st : Station = station_at xs in
    part_out st (line_ok st Primary) (λ h. h.1.0.1.1.0)
    (queue_asked xs c.requires c.read-settings.result c.read-settings.ensures c.bounds-bounds.result c.bounds-bounds.ensures Primary c.in_range-3.ensures)
    (ap not c.if-not-in_range-3.true)

pub returns-then-not-in_range-4 : goal.returns-then-not-in_range-4
unfolding station_ok flow_ok
returns-then-not-in_range-4 c =
    let xs : List ℕ = c.args.whole.now in
    let st : Station = station_at xs in
    part_out st (line_ok st Secondary) (λ h. h.1.0.1.1.1.0)
    (queue_asked xs c.requires c.read-settings.result c.read-settings.ensures c.bounds-bounds.result c.bounds-bounds.ensures Secondary c.in_range-4.ensures)
    (ap not c.if-not-in_range-4.true)

pub returns : goal.returns
unfolding flow_ok
returns c =
    let xs : List ℕ = c.args.whole.now in
    let st : Station = station_at xs in
    let e : length xs ≡ station_length = c.requires in
    let s : Settings = c.read-settings.result in
    let known = c.read-settings.ensures in
    let b : Bounds = c.bounds-bounds.result in
    let bounds = c.bounds-bounds.ensures in
    stage_asked xs e s known b bounds c.get32.result c.get32.ensures c.stage_ok.ensures
    ∙ last_says st (stage_ok (bounds_of st.settings) st.flow.stage) (λ h. h.1.1.1.1) (λ stage. (
      said (credits_ok st.settings st.flow.credits) (credits_asked xs e s known c.read_credits.result c.read_credits.ensures c.in_range.ensures) (ap not c.if-not-in_range.false),
      (
        said (line_ok st Control) (queue_asked xs e s known b bounds Control c.in_range-2.ensures) (ap not c.if-not-in_range-2.false),
        (
          said (line_ok st Primary) (queue_asked xs e s known b bounds Primary c.in_range-3.ensures) (ap not c.if-not-in_range-3.false),
          (said (line_ok st Secondary) (queue_asked xs e s known b bounds Secondary c.in_range-4.ensures) (ap not c.if-not-in_range-4.false), stage),
        ),
      ),
    ))
    (said (settings_ok st.settings) (settings_asked xs e c.in_range_at.ensures) (ap not c.if-not-in_range_at.false))
    (said (fair_ok st.settings st.fair) (fair_asked xs e s known c.in_range_at-2.ensures) (ap not c.if-not-in_range_at-2.false))
