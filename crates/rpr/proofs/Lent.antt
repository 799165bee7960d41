-- Over any calls on one piece of memory each shaper's credit is that of its record: a call that is lent a station's bytes is one call on the station, one that
-- is lent others is none, and a start is none where it is refused. Assumes nothing.
use Prim.Native.Nat.{ℕ}
use mathlib.Core.Bool.{Bool, false, cond}
use mathlib.Core.List.{List, [], ◌∷◌, ◌++◌}
use mathlib.Core.Path.{◌≡◌, refl, sym, ap, subst, ◌∙◌}
use borrow.Author.Tests.{eq-eqb, ne_eqb}
use lib.ListN.{length, take, drop, take-append-drop}
use lib.Seq.{take_at}
use Rattle.decide.specs.Test.{test, split, ◌≡?◌}
use Rattle.decide.proofs.Cases.{by_cases}
use Rattle.wire.specs.Wire.{Bytes}
use Rattle.settings.specs.declared.Settings.{Settings}
use Rattle.settings.specs.Range.{settings_ok}
use Rattle.settings.specs.Words.{settings_at}
use Rattle.credits.specs.declared.Which.{Which}
use Rattle.credits.specs.Which.{credit_of}
use Rattle.station.specs.declared.Station.{Station}
use Rattle.station.specs.Range.{StationOk}
use Rattle.station.specs.Calls.{fresh_of}
use Rattle.station.specs.History.{Call, step, after, record_of, Recorded}
use Rattle.station.proofs.History.{after_settings, credit_of_record}
use Rattle.layout.specs.Layout.{station_length}
use Rattle.rpr.specs.Station.{start_answer, start_after}
use Rattle.rpr.specs.Lent.{answer_to, left_by, calls_of, StartsWith, Lending, lent_to, memory_after, memory_through, NoNewStart, calls_on, started_in, station_in}
use Rattle.rpr.specs.Says.{Keeps}
use Rattle.rpr.proofs.Step.{lent_short, start_in_range, start_keeps, left, call_never_1}

-- ---- on memory

-- After some lendings the memory holds a station in range: where none was a new start, the one that the calls on the station left.
pub record Through (mem : List ℕ) (ls : List Lending) (st : Station) : Type 0 where
  pub next : Station
  pub keeps : Keeps (take station_length (memory_through mem ls)) next
  pub follows : NoNewStart mem ls → next ≡ after st (calls_on mem ls)

after_append : (st : Station) (cs ds : List Call) → after st (cs ++ ds) ≡ after (after st cs) ds
after_append st [] ds = refl
after_append st (c ∷ cs) ds = after_append (step c st).station cs ds

-- the first bytes of the memory are those that were lent, where these are a station's
module _ (l : Lending) (mem : List ℕ) where
  pub first_lent : length (lent_to l mem) ≡ station_length → take station_length mem ≡ lent_to l mem
  first_lent h = ap (take station_length) (sym (take-append-drop l.count mem)) ∙ take_at (lent_to l mem) (drop l.count mem) station_length h

  pub first_left : length (left_by l.call (lent_to l mem)) ≡ station_length → take station_length (memory_after l mem) ≡ left_by l.call (lent_to l mem)
  first_left h = take_at (left_by l.call (lent_to l mem)) (drop l.count mem) station_length h

  pub short_same : (length (lent_to l mem) ≡ station_length → ⊥) → memory_after l mem ≡ mem
  short_same h = ap (λ (xs : List ℕ). xs ++ drop l.count mem) (sym (lent_short (lent_to l mem) h l.call).1) ∙ take-append-drop l.count mem

  -- a call on the station, or none
  module _ (ls : List Lending) where
    abbrev calls_by : Bool → List Call
    calls_by whole = cond whole (calls_of l.call) [] ++ calls_on (memory_after l mem) ls

    pub whole_calls : length (lent_to l mem) ≡ station_length → calls_on mem (l ∷ ls) ≡ calls_of l.call ++ calls_on (memory_after l mem) ls
    whole_calls h = ap calls_by (eq-eqb (length (lent_to l mem)) station_length h)

    pub short_calls : (length (lent_to l mem) ≡ station_length → ⊥) → calls_on mem (l ∷ ls) ≡ calls_on (memory_after l mem) ls
    short_calls h = ap calls_by (ne_eqb (length (lent_to l mem)) station_length h)

-- Each call is lent what the one before left: the memory holds what the calls on the station made of it.
pub memory_keeps : (mem : List ℕ) (ls : List Lending) {st : Station} → Keeps (take station_length mem) st → Through mem ls st
memory_keeps mem [] {st} k = record { next = st; keeps = k; follows = λ n. refl }
memory_keeps mem (l ∷ ls) {st} k =
    by_cases (split (length (lent_to l mem) ≡? station_length))
    (λ h.
    let one = left (subst (λ (xs : List ℕ). Keeps xs st) (first_lent l mem h) k) l.call in
    let rest = memory_keeps (memory_after l mem) ls (subst (λ (xs : List ℕ). Keeps xs one.next) (sym (first_left l mem one.keeps.whole)) one.keeps) in
    record {
      next = rest.next;
      keeps = rest.keeps;
      follows =
          λ n. rest.follows n.1
          ∙ ap (λ (s : Station). after s (calls_on (memory_after l mem) ls)) (one.follows n.0)
          ∙ sym (after_append st (calls_of l.call) (calls_on (memory_after l mem) ls))
          ∙ ap (after st) (sym (whole_calls l mem ls h));
    })
    (λ h.
    let rest = memory_keeps (memory_after l mem) ls (subst (λ (m : List ℕ). Keeps (take station_length m) st) (sym (short_same l mem h)) k) in
    record {
      next = rest.next;
      keeps = rest.keeps;
      follows = λ n. rest.follows n.1 ∙ ap (after st) (sym (short_calls l mem ls h));
    })

-- Where none was a new start its settings are what they were.
pub kept_settings : (mem : List ℕ) (ls : List Lending) {st : Station} (k : Keeps (take station_length mem) st) → NoNewStart mem ls
    → (memory_keeps mem ls k).next.settings ≡ st.settings
kept_settings mem ls k none = ap (λ (s : Station). s.settings) ((memory_keeps mem ls k).follows none) ∙ after_settings k.in_range_lem (calls_on mem ls)

-- ---- from a start on

-- memory whose first bytes were lent to rpr_start, which was carried out
module _ (settings mem : List ℕ) (bytes : Bytes settings) (z : start_answer settings (take station_length mem) ≡ 0) where
  abbrev given : Settings
  given = settings_at settings 0

  abbrev started : List ℕ
  started = started_in settings mem

  pub begins : Keeps (take station_length started) (fresh_of given)
  begins =
      let kept = start_keeps settings (take station_length mem) bytes z in
      subst (λ (xs : List ℕ). Keeps xs (fresh_of given))
      (sym (take_at (start_after settings (take station_length mem)) (drop station_length mem) station_length kept.whole)) kept

  module _ (ls : List Lending) where
    reached : Through started ls (fresh_of given)
    reached = memory_keeps started ls begins

    -- Over any calls from a fresh station, each lent what the one before left and none a new start, a shaper's credit equals that of its record: one event per
    -- tick, one send per charge; and every send was permitted.
    pub credit_of_lent : NoNewStart started ls → (w : Which)
        → Recorded given w (credit_of (station_in (memory_through started ls)).flow.credits w) (record_of w (fresh_of given) (calls_on started ls))
    credit_of_lent none w =
        subst (λ (st : Station). Recorded given w (credit_of st.flow.credits w) (record_of w (fresh_of given) (calls_on started ls)))
        (sym (reached.keeps.holds ∙ reached.follows none))
        (credit_of_record given (start_in_range settings (take station_length mem) bytes z) (calls_on started ls) w)

    -- The station in the memory is in range all the way, also after a new start,
    pub lent_in_range : StationOk (station_in (memory_through started ls))
    lent_in_range = subst StationOk (sym reached.keeps.holds) reached.keeps.in_range_lem

    -- and no call that is lent a station's bytes answers 1, but a start for its settings.
    pub lent_never_1 : (l : Lending) → length (lent_to l (memory_through started ls)) ≡ station_length → answer_to l.call (lent_to l (memory_through started ls)) ≡ 1
        → (given : List ℕ) × StartsWith given l.call × (test (settings_ok (settings_at given 0)) ≡ false)
    lent_never_1 l h =
        call_never_1 (subst (λ (xs : List ℕ). Keeps xs reached.next) (first_lent l (memory_through started ls) h) reached.keeps) l.call
