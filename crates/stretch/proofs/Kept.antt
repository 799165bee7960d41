-- A partly read block that has no fault gives as many events as are asked for, and their summary is in range.
-- Assumes nothing.
use Prim.Native.Nat.{ℕ, zero, suc, ◌-◌, ◌*◌, ◌≤◌, ◌<◌}
use mathlib.Core.List.{List, [], ◌∷◌}
use mathlib.Core.Path.{◌≡◌, refl, ap, ◌∙◌}
use native.Mathlib.Omega.{arith}
use lib.ListN.{length, drop, length-drop}
use lib.Seq.{take_all}
use Rattle.decide.specs.Test.{Holds}
use Rattle.decide.specs.Refusal.{first_of}
use Rattle.shaper.specs.declared.Limits.{Limits}
use Rattle.shaper.specs.declared.Event.{Event}
use Rattle.shaper.specs.Limits.{limits_ok}
use Rattle.shaper.specs.Credit.{AllValid}
use Rattle.wire.specs.Wire.{Bytes}
use Rattle.summary.specs.declared.Summary.{Summary}
use Rattle.summary.specs.Summary.{summary_of}
use Rattle.summary.proofs.Promises.{summary_limits, summary_events, summary_range}
use Rattle.record.specs.Read.{Events, faulty, events, onward}
use Rattle.excerpt.specs.declared.Place.{Place}
use Rattle.excerpt.specs.Place.{next_place, place_faults}
use Rattle.excerpt.specs.Excerpt.{read_part}
use Rattle.excerpt.proofs.Parts.{part_valid}
use Rattle.index.specs.Tree.{block_events}
use Rattle.index.specs.Entry.{place_in}
use Rattle.index.proofs.Levels.{piece_valid}
use Rattle.stretch.specs.declared.Found.TheVariants.{Sum}
use Rattle.stretch.specs.Found.{Source, part_summed, part_found}
use Rattle.stretch.proofs.Refused.{Kept}

-- ---- how many events are read

-- one more than behind the first
one_more : (n : ℕ) (e : Event) (r : Events) (k : ℕ) → ((fs : List Event) → r ≡ events fs → length fs ≡ k) → (es : List Event) → onward n e r ≡ events es → length es ≡ suc k
one_more zero e (events fs) k m es h = let z : es ≡ e ∷ fs = cc in ap length z ∙ ap suc (m fs refl)
one_more zero e (faulty i) k m es h = let z : ◌≡◌ {A = ℕ} 0 1 = cc in absurd (omega arith)
one_more (suc n) e r k m es h = let z : ◌≡◌ {A = ℕ} 0 1 = cc in absurd (omega arith)

pub part_count : (mtu k : ℕ) (xs : List ℕ) (p : Place) (es : List Event) → read_part mtu k xs p ≡ events es → length es ≡ k
unfolding read_part
part_count mtu zero xs p es h = let z : es ≡ [] = cc in ap length z
part_count mtu (suc k) xs p es h = one_more (first_of (place_faults mtu xs p)) _ _ k (part_count mtu k xs (next_place xs p)) es h

-- ---- their summary

-- events in range from one on
drop_valid : (l : Limits) (n : ℕ) (es : List Event) → AllValid l es → AllValid l (drop n es)
drop_valid l n es v = rw (take_all (length es - n) (drop n es) (omega (arith, length-drop n es))) at (piece_valid l es n (length es) v)

pub part_kept : (q : Source) → Holds (limits_ok q.limits) → Bytes q.bytes →
    (x skipped count : ℕ) → skipped < count → count ≤ block_events → (s : Summary) → part_found q x skipped count ≡ Sum s → Kept q (count - skipped) s
unfolding part_found
part_kept q ok b x skipped count h most s e = by (read_part q.limits.mtu count q.bytes (place_in q.index (80 * x))) refl e
  where
    by : (r : Events) → read_part q.limits.mtu count q.bytes (place_in q.index (80 * x)) ≡ r → part_summed q.limits skipped r ≡ Sum s → Kept q (count - skipped) s
    by (faulty n) f g = let z : ◌≡◌ {A = ℕ} 0 1 = cc in absurd (omega arith)
    by (events es) f g =
        let v : AllValid q.limits es = rw f at (part_valid q.limits q.bytes b count (place_in q.index (80 * x))) in
        let n = part_count q.limits.mtu count q.bytes (place_in q.index (80 * x)) es f in
        let d = length-drop skipped es in
        let same : s ≡ summary_of q.limits (drop skipped es) = cc in
        rw same (
          summary_limits q.limits ok (drop skipped es),
          summary_range q.limits ok (drop skipped es) (drop_valid q.limits skipped es v) (omega arith),
          summary_events q.limits ok (drop skipped es) ∙ d ∙ omega arith,
        )
