-- The credits, the fairness state and what a queue holds: read where their numbers stand, and their numbers are those at the place where they are read.
-- Assumes nothing.
use Prim.Native.Nat.{ℕ, ◌+◌, ◌≤◌}
use mathlib.Core.List.{List}
use mathlib.Core.Path.{◌≡◌, refl}
use native.Mathlib.Nat.{add-zero}
use native.Mathlib.Omega.{arith}
use lib.ListN.{length}
use Rattle.wire.specs.Wire.{Bytes}
use Rattle.wire.specs.Parts.{Part, nth, offset}
use Rattle.wire.proofs.Places.{Stands}
use Rattle.wire.proofs.Numbers.{digits_stand, digits_bytes, le_bound, le_stands}
use Rattle.wire.proofs.Laid.{part_stands}
use Rattle.wire.proofs.Placed.{placed_stand, laid_out_bytes}
use Rattle.credits.specs.declared.Credits.{Credits}
use Rattle.fair.specs.Four.{Four, Stored}
use Rattle.fair.specs.declared.Decided.{Decided}
use Rattle.heard.specs.declared.Received.{Received}
use Rattle.fair.specs.declared.Fair.{Fair}
use Rattle.station.specs.declared.Held.{Held}
use Rattle.slots.specs.Slots.{WordsFit}
use Rattle.wire.specs.Words.{words_bytes}
use Rattle.slots.proofs.Round as slots
use Rattle.layout.specs.Layout.{four_length, stored_length, decided_length, received_length, smoothed_place, decided_place, since_place, received_place, fair_length}
use Rattle.layout.specs.Layout.{credits_words, four_words, stored_parts, stored_bytes, decided_words, received_words, fair_parts, fair_bytes}
use Rattle.layout.specs.Layout.{credits_at, four_at, stored_at, decided_at, received_at, fair_at, StoredFits, FairFits}
use Rattle.layout.specs.Reading.{held_words, held_at}
use Rattle.layout.proofs.Words.{Read, words_back, words_stand, words_fit}

module _ (xs : List ℕ) (at : ℕ) where
  -- ---- read where they stand

  pub credits_back : (v : Credits) → WordsFit (credits_words v) → Stands xs at (words_bytes (credits_words v)) → credits_at xs at ≡ v
  unfolding credits_at
  credits_back v f s =
      let (m, (a, (b, (c, (d, e))))) = words_back xs at (credits_words v) f s in
      rw (m, a, b, c, d)

  pub held_back : (v : Held) → WordsFit (held_words v) → Stands xs at (words_bytes (held_words v)) → held_at xs at ≡ v
  held_back v f s =
      let (n, (b, e)) = words_back xs at (held_words v) f s in
      rw (n, b)

  pub four_back : (v : Four) → WordsFit (four_words v) → Stands xs at (words_bytes (four_words v)) → four_at xs at ≡ v
  four_back v f s =
      let (a, (b, (c, (d, e)))) = words_back xs at (four_words v) f s in
      rw (a, b, c, d)

  stored_back : (v : Stored) → StoredFits v → Stands xs at (stored_bytes v) → stored_at xs at ≡ v
  stored_back v f s =
      let ps : List Part = stored_parts v in
      let p : (k : ℕ) → Stands xs (at + offset ps k) (nth ps k).bytes = λ k. part_stands ps k xs at s in
      rw (
        le_stands 8 v.add xs at f.add (rw add-zero at (p 0)),
        le_stands 8 v.fw xs (at + 8) f.fw (p 1),
        le_stands 8 v.addc xs (at + 16) f.addc (p 2),
        le_stands 8 v.fwc xs (at + 24) f.fwc (p 3),
      )

  pub decided_back : (v : Decided) → WordsFit (decided_words v) → Stands xs at (words_bytes (decided_words v)) → decided_at xs at ≡ v
  decided_back v f s =
      let (l, (a, (b, (o, (c, e))))) = words_back xs at (decided_words v) f s in
      rw (l, a, b, o, c)

  pub received_back : (v : Received) → WordsFit (received_words v) → Stands xs at (words_bytes (received_words v)) → received_at xs at ≡ v
  received_back v f s =
      let (d, (t, (h, (l, (r, e))))) = words_back xs at (received_words v) f s in
      rw (d, t, h, l, r)

  -- ---- the words that are read

  pub credits_read : Read xs at (credits_words (credits_at xs at))
  unfolding credits_at
  credits_read = (refl, (refl, (refl, (refl, (refl, tt)))))

  pub held_read : Read xs at (held_words (held_at xs at))
  held_read = (refl, (refl, tt))

  four_read : Read xs at (four_words (four_at xs at))
  four_read = (refl, (refl, (refl, (refl, tt))))

  decided_read : Read xs at (decided_words (decided_at xs at))
  decided_read = (refl, (refl, (refl, (refl, (refl, tt)))))

  received_read : Read xs at (received_words (received_at xs at))
  received_read = (refl, (refl, (refl, (refl, (refl, tt)))))

-- ---- the fairness state, by its parts

pub fair_back : (xs : List ℕ) (at : ℕ) (v : Fair) → FairFits v → Stands xs at (fair_bytes v) → fair_at xs at ≡ v
unfolding fair_at
fair_back xs at v f s =
    let ps : List Part = fair_parts v in
    let p : (k : ℕ) → Stands xs (at + offset ps k) (nth ps k).bytes = λ k. part_stands ps k xs at s in
    rw (
      four_back xs at v.counters f.of_counters (rw add-zero at (p 0)),
      stored_back xs (at + smoothed_place) v.smoothed f.of_smoothed (p 1),
      decided_back xs (at + decided_place) v.decided f.of_decided (p 2),
      le_stands 4 v.since xs (at + since_place) f.of_since (p 3),
      received_back xs (at + received_place) v.received f.of_received (p 4),
    )

module _ (xs : List ℕ) (b : Bytes xs) where
  -- each part stands where it is read
  pub four_stands : (at : ℕ) → at + four_length ≤ length xs → Stands xs at (words_bytes (four_words (four_at xs at)))
  four_stands at h = words_stand xs at b (four_words (four_at xs at)) h (four_read xs at)

  stored_stands : (at : ℕ) → at + stored_length ≤ length xs → Stands xs at (stored_bytes (stored_at xs at))
  stored_stands at h =
      placed_stand (stored_parts (stored_at xs at)) xs at h
      (digits_stand 8 xs at b, (digits_stand 8 xs (at + 8) b, (digits_stand 8 xs (at + 16) b, (digits_stand 8 xs (at + 24) b, tt))))

  pub decided_stands : (at : ℕ) → at + decided_length ≤ length xs → Stands xs at (words_bytes (decided_words (decided_at xs at)))
  decided_stands at h = words_stand xs at b (decided_words (decided_at xs at)) h (decided_read xs at)

  pub received_stands : (at : ℕ) → at + received_length ≤ length xs → Stands xs at (words_bytes (received_words (received_at xs at)))
  received_stands at h = words_stand xs at b (received_words (received_at xs at)) h (received_read xs at)

  pub fair_stands : (at : ℕ) → at + fair_length ≤ length xs → Stands xs at (fair_bytes (fair_at xs at))
  unfolding fair_at
  fair_stands at h =
      placed_stand (fair_parts (fair_at xs at)) xs at h (
        four_stands at (omega arith),
        (
          stored_stands (at + smoothed_place) (omega arith),
          (
            decided_stands (at + decided_place) (omega arith),
            (digits_stand 4 xs (at + since_place) b, (received_stands (at + received_place) (omega arith), tt)),
          ),
        ),
      )

  -- and fits
  pub fair_fits : (at : ℕ) → FairFits (fair_at xs at)
  unfolding fair_at
  fair_fits at =
      let m : ℕ = at + smoothed_place in
      let d : ℕ = at + decided_place in
      let r : ℕ = at + received_place in
      record {
        of_counters = words_fit xs at b (four_words (four_at xs at)) (four_read xs at);
        of_smoothed =
            record {
              add = le_bound 8 xs m b;
              fw = le_bound 8 xs (m + 8) b;
              addc = le_bound 8 xs (m + 16) b;
              fwc = le_bound 8 xs (m + 24) b;
            };
        of_decided = words_fit xs d b (decided_words (decided_at xs d)) (decided_read xs d);
        of_since = le_bound 4 xs (at + since_place) b;
        of_received = words_fit xs r b (received_words (received_at xs r)) (received_read xs r);
      }

-- what is written of it are bytes
stored_bytes_lem : (s : Stored) → Bytes (stored_bytes s)
stored_bytes_lem s =
    laid_out_bytes (stored_parts s) (digits_bytes 8 s.add, (digits_bytes 8 s.fw, (digits_bytes 8 s.addc, (digits_bytes 8 s.fwc, tt))))

pub fair_bytes_lem : (f : Fair) → Bytes (fair_bytes f)
fair_bytes_lem f =
    laid_out_bytes (fair_parts f) (
      slots.words_bytes_lem (four_words f.counters),
      (
        stored_bytes_lem f.smoothed,
        (slots.words_bytes_lem (decided_words f.decided), (digits_bytes 4 f.since, (slots.words_bytes_lem (received_words f.received), tt))),
      ),
    )
