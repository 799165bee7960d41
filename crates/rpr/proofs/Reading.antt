-- Each word that rpr_show leaves in its room is what the table of a reading says, of a station in range: what a queue's words count are its frames.
-- Assumes nothing.
use Prim.Native.Nat.{ℕ}
use mathlib.Core.List.{List, [], ◌∷◌}
use mathlib.Core.Path.{◌≡◌, sym, ap, ◌∙◌}
use lib.ListN.{length}
use Rattle.queue.specs.declared.Bounds.{Bounds}
use Rattle.queue.specs.declared.Queue.{Queue}
use Rattle.queue.specs.Range.{QueueOk}
use Rattle.queue.proofs.Laws.{held_sums, count_frames}
use Rattle.flow.specs.declared.Line.TheVariants.{Control, Primary, Secondary}
use Rattle.fair.proofs.Age.{shown_four_lem}
use Rattle.station.specs.declared.Reading.{Reading}
use Rattle.station.specs.declared.Station.{Station}
use Rattle.station.proofs.Hear.{held_none, held_one}
use Rattle.wire.specs.Words.{words_at}
use Rattle.layout.specs.Layout.{credits_words, four_words}
use Rattle.layout.specs.Reading.{reading_length, held_words}
use Rattle.layout.proofs.Round.{by_words}
use Rattle.rpr.specs.Station.{show_after}
use Rattle.rpr.specs.Reading.{frames_held, ShowsWords}
use Rattle.rpr.specs.Says.{Keeps}
use Rattle.rpr.proofs.Rooms.{show_done}

counted : {bounds : Bounds} {capacity : ℕ} {q : Queue} → QueueOk bounds capacity q → q.count ∷ q.held ∷ [] ≡ frames_held q
counted ok = λ i. count_frames ok i ∷ held_sums ok i ∷ []

-- The room holds the reading, word by word.
pub show_words : {xs : List ℕ} {st : Station} → Keeps xs st → (room : List ℕ) → length room ≡ reading_length → ShowsWords (show_after xs room) st
unfolding words_at
show_words {xs} {st} k room h =
    let ok = k.in_range_lem.flow in
    let reads = sym (by_words (show_after xs room)) ∙ (show_done k room h).1 in
    record {
      credits = ap (λ (r : Reading). credits_words r.credits) reads;
      control = ap (λ (r : Reading). held_words r.control) reads ∙ counted (ok.queues Control);
      primary = ap (λ (r : Reading). held_words r.primary) reads ∙ counted (ok.queues Primary);
      secondary = ap (λ (r : Reading). held_words r.secondary) reads ∙ counted (ok.queues Secondary);
      empty_stage = λ e. ap (λ (r : Reading). held_words r.stage) reads ∙ ap held_words (held_none st.flow.stage e);
      stage = λ n. ap (λ (r : Reading). held_words r.stage) reads ∙ ap held_words (held_one st.flow.stage n);
      counters = ap (λ (r : Reading). four_words r.counters) reads;
      smoothed = ap (λ (r : Reading). four_words r.smoothed) reads ∙ ap four_words (shown_four_lem st.settings.fairness.lp st.fair.smoothed);
      decided = ap (λ (r : Reading). r.decided.local ∷ r.decided.allowed ∷ r.decided.allowedc ∷ r.decided.own ∷ []) reads;
      congested = ap (λ (r : Reading). r.decided.congested ∷ r.received.downstream ∷ []) reads;
      received = ap (λ (r : Reading). r.received.ttl ∷ r.received.high ∷ r.received.low ∷ r.received.rate ∷ []) reads;
    }
