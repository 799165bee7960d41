-- What a call on a station gives, by what led there: a slice of another length is 2, and else what the station said is handed back.
-- Assumes nothing.
use Rattle.std.specs.Prelude.{Result, Ok, Err}
use Rattle.decide.specs.Number.{number_in}
use Rattle.decide.proofs.Number.{number_told}
use Rattle.shaper.specs.declared.Refused.{Refused}
use Rattle.shaper.specs.Refused as shaper
use Rattle.shaper.specs.Refused.{number_said, afterwards}
use Rattle.shaper.proofs.Turned.{refusal_known, left_known}
use Prim.Native.Nat.{ℕ}
use mathlib.Core.Bool.{Bool, true, false}
use mathlib.Core.List.{List, ◌∷◌}
use mathlib.Core.Path.{◌≡◌, refl, sym, ap, ◌∙◌}
use lib.ListN.{length}
use Rattle.decide.specs.Test.{test}
use Rattle.decide.specs.Refusal.{Fault, first_of, refused_or}
use Rattle.decide.proofs.Given.{in_order_lem}
use Rattle.decide.proofs.Refused.{handed_on, carried_by, refused_by}
use Rattle.settings.specs.declared.Settings.{Settings}
use Rattle.settings.specs.Range.{settings_ok}
use Rattle.advert.specs.declared.Advert.{Advert}
use Rattle.advert.specs.Frame.{advert_bytes}
use Rattle.flow.specs.declared.Flow.{Flow}
use Rattle.wire.specs.Wire.{digits}
use Rattle.station.specs.declared.Station.{Station}
use Rattle.station.specs.declared.Client.{Client}
use Rattle.station.specs.declared.Selected.{Selected}
use Rattle.station.specs.declared.Reading.{Reading}
use Rattle.station.specs.Range.{station_ok}
use Rattle.station.specs.Answers.{with_flow, Done, refused_of, done_of, chosen_of, not_chosen_of, origin_said, frame_said, rest_after}
use Rattle.station.specs.Calls.{start_faults, select_faults, fresh_of}
use Rattle.station.specs.Offers.{short_for, turned_for, mark_told, station_left, taken_of}
use Rattle.station.specs.Hear.{Told, not_told_of, advert_said}
use Rattle.station.specs.Show.{Shown, not_shown_of, reading_said}
use Rattle.settings.specs.Words.{settings_length}
use Rattle.layout.specs.Layout.{station_length, station_bytes}
use Rattle.layout.specs.Reading.{reading_bytes}
use Rattle.answer.specs.Bytes.{packed, mark_bytes, selected_bytes}
use Rattle.rpr.specs.Shape.{answer_of, short_told, short_answer_of, after_of, other_length_of}
use Rattle.rpr.proofs.Shape.{wrong_length, right_length, refused}

-- the answer, and the lent bytes afterwards
abbrev pub Gives : List Fault → ℕ → List ℕ → List ℕ → ℕ → List ℕ → Type 0
Gives rows said old new r after = (r ≡ answer_of rows said) × (after ≡ after_of rows old new)

-- what is handed back by a number: what a refusal tells by it and the old bytes, or what was said and the new bytes
abbrev Handed : (ℕ → ℕ) → ℕ → ℕ → List ℕ → List ℕ → ℕ → List ℕ → Type 0
Handed tells n said old new r after = (r ≡ refused_or tells n said) × (after ≡ refused_or (λ m. old) n new)

-- a refusal is its number alone
abbrev pub HandedBack : ℕ → ℕ → List ℕ → List ℕ → ℕ → List ℕ → Type 0
HandedBack n said old new r after = Handed (λ m. m) n said old new r after

-- The same of a call whose 6 says how far short.
abbrev pub GivesShort : List Fault → ℕ → ℕ → List ℕ → List ℕ → ℕ → List ℕ → Type 0
GivesShort rows short said old new r after = (r ≡ short_answer_of rows short said) × (after ≡ after_of rows old new)

abbrev pub HandedShort : ℕ → ℕ → ℕ → List ℕ → List ℕ → ℕ → List ℕ → Type 0
HandedShort short n said old new r after = Handed (short_told short) n said old new r after

-- ---- a slice of another length

module _ (n : ℕ) (xs : List ℕ) (faults : List Fault) (said : ℕ) (old new : List ℕ) where
  -- 2 before all else
  pub not_whole : (length xs ≡ n → ⊥) → Gives (other_length_of n xs ∷ faults) said old new 2 old
  not_whole h = refused (other_length_of n xs ∷ faults) said old new 1 (wrong_length n xs faults h)

  pub not_whole_short : (short : ℕ) → (length xs ≡ n → ⊥) → GivesShort (other_length_of n xs ∷ faults) short said old new 2 old
  unfolding short_answer_of after_of refused_or digits
  not_whole_short short h = rw (wrong_length n xs faults h) (refl, refl)

  -- also behind a slice of the right length
  pub then_not_whole : (m : ℕ) (ys : List ℕ) → length ys ≡ m → (length xs ≡ n → ⊥) → Gives (other_length_of m ys ∷ other_length_of n xs ∷ faults) said old new 2 old
  then_not_whole m ys e h =
      refused (other_length_of m ys ∷ other_length_of n xs ∷ faults) said old new 1 (right_length m ys (other_length_of n xs ∷ faults) e ∙ wrong_length n xs faults h)

-- ---- slices of the right length: what the rows behind them say

module _ (n : ℕ) (xs : List ℕ) (faults : List Fault) (e : length xs ≡ n) (said : ℕ) (old new : List ℕ) {r : ℕ} {after : List ℕ} where
  pub whole_gives : HandedBack (first_of faults) said old new r after → Gives (other_length_of n xs ∷ faults) said old new r after
  unfolding answer_of after_of
  whole_gives b = rw (right_length n xs faults e) b

  pub whole_gives_short : (short : ℕ) → HandedShort short (first_of faults) said old new r after → GivesShort (other_length_of n xs ∷ faults) short said old new r after
  unfolding short_answer_of after_of
  whole_gives_short short b = rw (right_length n xs faults e) b

  pub then_whole_gives : (m : ℕ) (ys : List ℕ) → length ys ≡ m → HandedBack (first_of faults) said old new r after → Gives (other_length_of m ys ∷ other_length_of n xs ∷ faults) said old new r after
  unfolding answer_of after_of
  then_whole_gives m ys f b = rw (right_length m ys (other_length_of n xs ∷ faults) f, right_length n xs faults e) b

-- ---- what the station answered, by the number of its rows

-- a client's frame that was taken, with this mark, and left this flow
abbrev pub taken_as : Station → ℕ → Flow → Result Client Refused
taken_as st mark f = taken_of st (Ok (record { mark = mark; flow = f }))

module _ (old : List ℕ) {r : ℕ} {after : List ℕ} where
  -- handed back by the answer's own number, it is handed back by that of the rows
  back : {A : Type 0} (tells : ℕ → ℕ) (number said : A → ℕ) (new : A → List ℕ) (refused : ℕ → A) (done : A) → ((m : ℕ) → number (refused m) ≡ m) → number done ≡ 0
      → (n : ℕ) (d : A) → d ≡ refused_or refused n done → Handed tells (number d) (said d) old (new d) r after → Handed tells n (said done) old (new done) r after
  back tells number said new refused done bears none n d h b = (
    b.0 ∙ handed_on number refused done bears none tells said n d h,
    b.1 ∙ handed_on number refused done bears none (λ m. old) new n d h,
  )

  pub done_back : (n : ℕ) (st next : Station) (d : Done) → d ≡ refused_or refused_of n (done_of next)
      → HandedBack (number_said d) 0 old (station_bytes (afterwards st d)) r after → HandedBack n 0 old (station_bytes next) r after
  done_back n st next = back (λ m. m) (λ (d : Done). number_said d) (λ d. 0) (λ (d : Done). station_bytes (afterwards st d)) _ _ number_told refl n

  pub taken_back : (class n : ℕ) (st : Station) (mark : ℕ) (f : Flow) (d : Result Client Refused) → d ≡ refused_or (turned_for st class) n (taken_as st mark f)
      → HandedShort (short_for st class) (number_said d) (packed (mark_bytes (mark_told d))) old (station_bytes (station_left st d)) r after
      → HandedShort (short_for st class) n (packed (mark_bytes mark)) old (station_bytes (with_flow st f)) r after
  taken_back class n st mark f =
      back (short_told (short_for st class)) (λ (d : Result Client Refused). number_said d) (λ (d : Result Client Refused). packed (mark_bytes (mark_told d))) (λ (d : Result Client Refused). station_bytes (station_left st d)) _ _ number_told refl n

  pub chosen_back : (n : ℕ) (st : Station) (d : Result Selected Refused) → d ≡ refused_or not_chosen_of n (Ok (chosen_of st))
      → HandedBack (number_said d) (packed (selected_bytes (origin_said d) (frame_said d))) old (station_bytes (rest_after st d)) r after
      → HandedBack n (packed (selected_bytes (chosen_of st).origin (chosen_of st).frame)) old (station_bytes (chosen_of st).station) r after
  chosen_back n st =
      back (λ m. m) (λ (d : Result Selected Refused). number_said d) (λ (d : Result Selected Refused). packed (selected_bytes (origin_said d) (frame_said d))) (λ (d : Result Selected Refused). station_bytes (rest_after st d)) _ _ number_told refl n

  pub told_back : (n : ℕ) (a : Advert) (d : Told) → d ≡ refused_or not_told_of n (Ok a)
      → HandedBack (number_said d) 0 old (advert_bytes (advert_said d)) r after → HandedBack n 0 old (advert_bytes a) r after
  told_back n a = back (λ m. m) (λ (d : Told). number_said d) (λ d. 0) (λ (d : Told). advert_bytes (advert_said d)) _ _ number_told refl n

  pub shown_back : (n : ℕ) (reading : Reading) (d : Shown) → d ≡ refused_or not_shown_of n (Ok reading)
      → HandedBack (number_said d) 0 old (reading_bytes (reading_said d)) r after → HandedBack n 0 old (reading_bytes reading) r after
  shown_back n reading = back (λ m. m) (λ (d : Shown). number_said d) (λ d. 0) (λ (d : Shown). reading_bytes (reading_said d)) _ _ number_told refl n

-- what was found of an answer that goes by the number of its rows
module _ {A : Type 0} (old : List ℕ) (new : A → List ℕ) (n : ℕ) (a : A) (d : Result A Refused) (h : d ≡ refused_or (λ m. Err (shaper.refused m 0)) n (Ok a)) where
  -- a refusal is handed back by its number alone, and the bytes are left
  pub refusal_back : (r : Refused) → d ≡ Err r → HandedBack n 0 old (new a) (number_in r.refusal) old
  refusal_back r e =
      let t = refusal_known (λ m. 0) a n d h r e in
      rw t.1 (sym (refused_by _ _ n t.0), sym (refused_by _ _ n t.0))

  -- else what is written is what was left
  pub left_back : {after : List ℕ} (b : A) → d ≡ Ok b → after ≡ new b → HandedBack n 0 old (new a) 0 after
  left_back b e f =
      let u = left_known (λ m. 0) a n d h b e in
      (sym (carried_by _ _ n u.0), f ∙ ap new u.1 ∙ sym (carried_by _ _ n u.0))

-- ---- the range

-- what is known of the bytes that are lent is known of the station that is read from them
pub range_known : (lent st : Station) {good : Bool} → good ≡ test (station_ok lent) → st ≡ lent → good ≡ test (station_ok st)
range_known lent st e r = e ∙ ap (λ (x : Station). test (station_ok x)) (sym r)

-- ---- start

module _ (settings xs : List ℕ) (e : length settings ≡ settings_length) (f : length xs ≡ station_length) (s : Settings) where
  -- 1 where a setting is outside its range; else the station is fresh
  pub start_refused_lem : test (settings_ok s) ≡ false
      → Gives (other_length_of settings_length settings ∷ other_length_of station_length xs ∷ start_faults s) 0 xs (station_bytes (fresh_of s)) 1 xs
  unfolding refused_or
  start_refused_lem o = then_whole_gives _ xs _ f _ _ _ _ settings e (rw (in_order_lem (start_faults s) refl, o) (refl, refl))

  pub start_done : test (settings_ok s) ≡ true
      → Gives (other_length_of settings_length settings ∷ other_length_of station_length xs ∷ start_faults s) 0 xs (station_bytes (fresh_of s)) 0 (station_bytes (fresh_of s))
  unfolding refused_or
  start_done o = then_whole_gives _ xs _ f _ _ _ _ settings e (rw (in_order_lem (start_faults s) refl, o) (refl, refl))

-- ---- select

module _ (xs : List ℕ) (e : length xs ≡ station_length) (st : Station) (said : ℕ) (new : List ℕ) where
  -- 1 where the station is outside its range; else what is said, and what is left
  pub select_refused : test (station_ok st) ≡ false → Gives (other_length_of station_length xs ∷ select_faults st) said xs new 1 xs
  unfolding refused_or
  select_refused o = whole_gives _ xs _ e _ _ _ (rw (in_order_lem (select_faults st) refl, o) (refl, refl))

  pub select_given : {r : ℕ} {after : List ℕ} → test (station_ok st) ≡ true → r ≡ said → after ≡ new
      → Gives (other_length_of station_length xs ∷ select_faults st) said xs new r after
  unfolding refused_or
  select_given o a b = whole_gives _ xs _ e _ _ _ (rw (in_order_lem (select_faults st) refl, o) (a, b))
