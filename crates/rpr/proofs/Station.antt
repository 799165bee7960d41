-- What a host may rely on of the calls on a station: which number is answered and when, that a refusal leaves all, and what the answer's bytes say where the
-- call was carried out, or refused with 6. Assumes nothing.
use Rattle.std.specs.Prelude.{Result}
use Rattle.decide.proofs.Number.{number_told}
use Rattle.shaper.specs.declared.Refused.{Refused}
use Rattle.shaper.specs.Refused.{number_said}
use Rattle.flow.specs.Offer.{mark_said}
use Prim.Native.Nat.{ℕ, ◌%◌}
use mathlib.Core.Bool.{true, true≢false}
use mathlib.Core.List.{List, [], ◌∷◌, ◌++◌}
use mathlib.Core.Logic.{inl, inr}
use mathlib.Core.Path.{◌≡◌, refl, sym, ap, ◌∙◌}
use native.Mathlib.Omega.{arith}
use borrow.Author.Tests.{not-false}
use lib.ListN.{length}
use Rattle.decide.specs.Test.{test, split, ◌≡?◌}
use Rattle.decide.specs.Refusal.{Fault, first_of, RefusedExactly}
use Rattle.decide.proofs.Given.{refused_exactly, free_carried}
use Rattle.decide.proofs.Cases.{by_cases}
use Rattle.decide.proofs.Refused.{carried_by, number_by}
use Rattle.wire.specs.Wire.{digits}
use Rattle.queue.specs.declared.Frame.{Frame}
use Rattle.credits.specs.Way.{mark_of}
use Rattle.credits.proofs.Ways.{mark_most}
use Rattle.flow.specs.declared.Client.{Client}
use Rattle.flow.specs.declared.Line.{Line}
use Rattle.station.specs.Range.{station_ok}
use Rattle.station.specs.Answers.{chosen_of}
use Rattle.station.specs.declared.Client as station
use Rattle.station.specs.Offers.{way_for, offer_client_faults, staging, short_for, offer_client_of}
use Rattle.station.proofs.Range.{in_range_facts}
use Rattle.station.proofs.Short.{short_range}
use Rattle.layout.specs.Layout.{station_length, station_at}
use Rattle.answer.specs.Bytes.{packed, mark_bytes, selected_bytes}
use Rattle.answer.proofs.Bytes.{packed_bytes}
use Rattle.rpr.specs.Shape.{answer_of, short_answer_of, after_of, Leaves, LeavesShort, SaysShort, Carried, Bears}
use Rattle.rpr.specs.Station.{start_rows, start_answer, start_after, tick_rows, tick_answer, tick_after, age_rows, age_answer, age_after}
use Rattle.rpr.specs.Station.{offer_client_rows, offer_client_answer, offer_client_after, offer_rows, offer_answer, offer_after}
use Rattle.rpr.specs.Station.{select_rows, select_answer, select_after, read_frame_rows, read_frame_answer, read_frame_after}
use Rattle.rpr.specs.Station.{write_frame_rows, write_frame_answer, write_frame_after, show_rows, show_answer, show_after}
use Rattle.rpr.proofs.Shape.{wrong_length, right_length, numbered, first_most, free, refused_leaves, short_leaves}
use Rattle.rpr.proofs.Chosen.{chosen_small}

leaves : (rows : List Fault) (said : ℕ) (old new : List ℕ) → numbered rows ≡ true → said % 256 ≡ 0 → Leaves rows (answer_of rows said) old (after_of rows old new)
leaves rows said old new h b = refused_leaves rows said old new (first_most rows h) b

-- ---- rpr_start

module _ (settings xs : List ℕ) where
  pub start_leaves : Leaves (start_rows settings xs) (start_answer settings xs) xs (start_after settings xs)
  unfolding start_answer start_after
  start_leaves = leaves (start_rows settings xs) 0 xs _ refl refl

  -- a number is given exactly when its row applies and none before it does
  pub start_refused_exactly : RefusedExactly (start_answer settings xs % 256) (start_rows settings xs)
  start_refused_exactly = refused_exactly (start_rows settings xs) refl _ start_leaves.0.byte_0

module _ (xs : List ℕ) where
  -- ---- rpr_tick

  module _ (a b c : ℕ) where
    pub tick_leaves : Leaves (tick_rows xs a b c) (tick_answer xs a b c) xs (tick_after xs a b c)
    unfolding tick_answer tick_after
    tick_leaves = leaves (tick_rows xs a b c) 0 xs _ refl refl

    pub tick_refused_exactly : RefusedExactly (tick_answer xs a b c % 256) (tick_rows xs a b c)
    tick_refused_exactly = refused_exactly (tick_rows xs a b c) refl _ tick_leaves.0.byte_0

  -- ---- rpr_offer_client

  module _ (class size hops : ℕ) where
    -- 6 says how far short, and every other refusal is its number alone
    pub offer_client_leaves : LeavesShort (offer_client_rows xs class size hops) (short_for (station_at xs) class) (offer_client_answer xs class size hops) xs (offer_client_after xs class size hops)
    unfolding offer_client_answer offer_client_after
    offer_client_leaves =
        let rows = offer_client_rows xs class size hops in
        short_leaves rows (short_for (station_at xs) class) _ xs _ (first_most rows refl) (omega arith)

    pub offer_client_refused_exactly : RefusedExactly (offer_client_answer xs class size hops % 256) (offer_client_rows xs class size hops)
    offer_client_refused_exactly = refused_exactly (offer_client_rows xs class size hops) refl _ offer_client_leaves.0.byte_0

  -- ---- rpr_offer_transit, rpr_offer_control

  module _ (l : Line) (x : Frame) where
    pub offer_leaves : Leaves (offer_rows xs l x) (offer_answer xs l x) xs (offer_after xs l x)
    offer_leaves = leaves (offer_rows xs l x) 0 xs _ refl refl

    pub offer_refused_exactly : RefusedExactly (offer_answer xs l x % 256) (offer_rows xs l x)
    offer_refused_exactly = refused_exactly (offer_rows xs l x) refl _ offer_leaves.0.byte_0

  -- ---- rpr_select

  pub select_leaves : Leaves (select_rows xs) (select_answer xs) xs (select_after xs)
  unfolding select_answer select_after
  select_leaves = leaves (select_rows xs) _ xs _ refl (omega arith)

  pub select_refused_exactly : RefusedExactly (select_answer xs % 256) (select_rows xs)
  select_refused_exactly = refused_exactly (select_rows xs) refl _ select_leaves.0.byte_0

  -- ---- rpr_age

  pub age_leaves : Leaves (age_rows xs) (age_answer xs) xs (age_after xs)
  unfolding age_answer age_after
  age_leaves = leaves (age_rows xs) 0 xs _ refl refl

  pub age_refused_exactly : RefusedExactly (age_answer xs % 256) (age_rows xs)
  age_refused_exactly = refused_exactly (age_rows xs) refl _ age_leaves.0.byte_0

  -- ---- rpr_read_frame

  module _ (frame : List ℕ) where
    pub read_frame_leaves : Leaves (read_frame_rows xs frame) (read_frame_answer xs frame) xs (read_frame_after xs frame)
    unfolding read_frame_answer read_frame_after
    read_frame_leaves = leaves (read_frame_rows xs frame) 0 xs _ refl refl

    pub read_frame_refused_exactly : RefusedExactly (read_frame_answer xs frame % 256) (read_frame_rows xs frame)
    read_frame_refused_exactly = refused_exactly (read_frame_rows xs frame) refl _ read_frame_leaves.0.byte_0

  module _ (room : List ℕ) where
    -- ---- rpr_write_frame

    pub write_frame_leaves : Leaves (write_frame_rows xs room) (write_frame_answer xs room) room (write_frame_after xs room)
    unfolding write_frame_answer write_frame_after
    write_frame_leaves = leaves (write_frame_rows xs room) 0 room _ refl refl

    pub write_frame_refused_exactly : RefusedExactly (write_frame_answer xs room % 256) (write_frame_rows xs room)
    write_frame_refused_exactly = refused_exactly (write_frame_rows xs room) refl _ write_frame_leaves.0.byte_0

    -- ---- rpr_show

    pub show_leaves : Leaves (show_rows xs room) (show_answer xs room) room (show_after xs room)
    unfolding show_answer show_after
    show_leaves = leaves (show_rows xs room) 0 room _ refl refl

    pub show_refused_exactly : RefusedExactly (show_answer xs room % 256) (show_rows xs room)
    show_refused_exactly = refused_exactly (show_rows xs room) refl _ show_leaves.0.byte_0

-- ---- what the bytes of an answer say, where the call was carried out

-- then no row counts, and the answer is what the call said
pub carried_said : (rows : List Fault) (answer said : ℕ) → Bears (first_of rows) answer → answer ≡ answer_of rows said → Carried answer → (first_of rows ≡ 0) × (answer ≡ said)
unfolding answer_of
carried_said rows answer said b e z =
    let none : first_of rows ≡ 0 = sym b.byte_0 ∙ z in
    (none, e ∙ carried_by _ _ _ none)

-- rows without their first, which does not apply
without : (f : Fault) (fs : List Fault) → numbered (f ∷ fs) ≡ true → first_of (f ∷ fs) ≡ 0 → first_of fs ≡ 0
without f fs h e = free_carried fs (λ g m a. true≢false (sym a ∙ free (f ∷ fs) h e g (inr m)))

module _ (xs : List ℕ) where
  -- rpr_select: byte 1 is where the frame comes from, 2 its class, 3 its hops, 4 its mark, 5 is 0, 6 and 7 are its size
  pub select_bytes : Carried (select_answer xs)
      → let r = chosen_of (station_at xs) in
      digits 8 (select_answer xs) ≡ (0 ∷ r.origin ∷ r.frame.class ∷ r.frame.hops ∷ r.frame.mark ∷ 0 ∷ []) ++ digits 2 r.frame.size
  unfolding select_answer digits
  select_bytes z =
      let c = carried_said (select_rows xs) (select_answer xs) _ (select_leaves xs).0 refl z in
      let ok = not-false (test (station_ok (station_at xs))) (free (select_rows xs) refl c.0 _ (inr (inl refl))) in
      ap (λ (n : ℕ). digits 8 n) c.1 ∙ packed_bytes (selected_bytes _ _) (chosen_small (in_range_facts (station_at xs) ok))

  -- rpr_offer_client: byte 4 is the mark, which excess B and C get
  module _ (class size hops : ℕ) (z : Carried (offer_client_answer xs class size hops)) where
    client_said : (first_of (offer_client_rows xs class size hops) ≡ 0)
        × (offer_client_answer xs class size hops ≡ packed (mark_bytes (mark_said (staging (station_at xs) class size hops))))
    unfolding offer_client_answer short_answer_of
    client_said =
        let none = sym (offer_client_leaves xs class size hops).0.byte_0 ∙ z in
        (none, carried_by _ _ _ none)

    pub client_mark : mark_said (staging (station_at xs) class size hops) ≡ mark_of (way_for (station_at xs) class)
    client_mark =
        let st = station_at xs in
        let w = way_for st class in
        let own = without _ _ refl (without _ _ refl (without _ _ refl (without _ _ refl client_said.0))) in
        ap (λ (r : Result Client Refused). mark_said r) (carried_by _ _ _ own)

    pub offer_client_bytes : digits 8 (offer_client_answer xs class size hops) ≡ 0 ∷ 0 ∷ 0 ∷ 0 ∷ mark_of (way_for (station_at xs) class) ∷ 0 ∷ 0 ∷ 0 ∷ []
    offer_client_bytes =
        let w = way_for (station_at xs) class in
        ap (λ (n : ℕ). digits 8 n) (client_said.1 ∙ ap (λ (m : ℕ). packed (mark_bytes m)) client_mark)
        ∙ packed_bytes (mark_bytes (mark_of w)) (omega (arith, mark_most w))

  module _ (class size hops : ℕ) (e : offer_client_answer xs class size hops % 256 ≡ 6) where
    counts : first_of (offer_client_rows xs class size hops) ≡ 6
    counts = sym (offer_client_leaves xs class size hops).0.byte_0 ∙ e

    -- 6 is the station's own answer: bytes of another length are 2
    pub offer_client_six : number_said (offer_client_of (station_at xs) class size hops) ≡ 6
    offer_client_six =
        let rows = offer_client_faults (station_at xs) class size hops in
        number_by (λ (r : Result station.Client Refused). number_said r) _ _ number_told refl _
        ∙ by_cases (split (length xs ≡? station_length))
        (λ h. sym (right_length station_length xs rows h) ∙ counts)
        (λ h. let two = wrong_length station_length xs rows h in absurd (omega (arith, two, counts)))

    -- rpr_offer_client, refused with 6: bytes 4 to 7 are exactly how far short the needed shapers are
    pub offer_client_short : SaysShort (offer_client_answer xs class size hops) (short_for (station_at xs) class)
    offer_client_short =
        let range = short_range (station_at xs) class size hops offer_client_six in
        record { bytes = (offer_client_leaves xs class size hops).0.six counts; least = range.0; most = range.1 }
