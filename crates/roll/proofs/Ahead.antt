-- The events of an old record at a place: their fields, and how many of them one item takes.
-- Assumes nothing.
use Prim.Native.Nat.{ℕ, zero, suc, ◌+◌, ◌*◌, ◌-◌, ◌≤◌, ◌<◌}
use mathlib.Core.List.{List, [], ◌∷◌, ◌++◌}
use mathlib.Core.Path.{◌≡◌, refl, sym, ap, ◌∙◌}
use native.Mathlib.Nat.{add-zero}
use native.Mathlib.Omega.{arith}
use lib.ListN.{length, drop, length-drop}
use lib.Seq.{drop_at, drop-drop}
use Rattle.shaper.specs.declared.Event.{Event}
use Rattle.shaper.specs.declared.Event.TheVariants.{Waiting, Idle, Send}
use Rattle.shaper.specs.Kind.{kind_of, number_of}
use Rattle.wire.specs.Wire.{le}
use Rattle.wire.specs.Parts.{laid_out}
use Rattle.wire.proofs.Numbers.{le_drop, le_add}
use Rattle.wire.proofs.Places.{stands_between}
use Rattle.wire.proofs.Laid.{le_part}
use Rattle.record.specs.Record.{event_parts, event_bytes, events_bytes}
use Rattle.record.proofs.Written.{length_event, length_events}
use Rattle.roll.specs.Rolled.{same_ahead}
use Rattle.roll.specs.Steps.{AllFit}
use Rattle.roll.proofs.Rolled.{ahead_grows, ahead_stops}

-- ---- an event at a place

pub kind_small : (e : Event) → (1 ≤ kind_of e) × (kind_of e ≤ 3)
kind_small (Waiting x) = omega arith
kind_small (Idle x) = omega arith
kind_small (Send z) = omega arith

-- its fields, and its first four bytes as one number
pub record Fields (xs : List ℕ) (at : ℕ) (e : Event) : Type 0 where
  pub kind : le 2 xs (at + 2) ≡ kind_of e
  pub number : le 2 xs (at + 4) ≡ number_of e
  pub head : le 4 xs at ≡ 6 + 65536 * kind_of e

front_fields : (e : Event) (q : List ℕ) → number_of e < 65536 → Fields (event_bytes e ++ q) 0 e
unfolding event_bytes
front_fields e q fits =
    let xs = laid_out (event_parts e) ++ q in
    let s = stands_between [] (laid_out (event_parts e)) q in
    let small = kind_small e in
    let six : le 2 xs 0 ≡ 6 = le_part (event_parts e) 0 2 6 xs 0 refl (omega arith) s in
    let k : le 2 xs 2 ≡ kind_of e = le_part (event_parts e) 1 2 (kind_of e) xs 0 refl (omega arith) s in
    record { kind = k; number = le_part (event_parts e) 2 2 (number_of e) xs 0 refl fits s; head = le_add 2 2 xs 0 ∙ rw (six, k) }

module _ (xs : List ℕ) (at : ℕ) (e : Event) (es : List Event) (same : drop at xs ≡ events_bytes (e ∷ es)) where
  pub fields_at : number_of e < 65536 → Fields xs at e
  fields_at fits =
      let f : Fields (drop at xs) 0 e = rw same (front_fields e (events_bytes es) fits) in
      record {
        kind = sym (le_drop 2 at xs 2) ∙ f.kind;
        number = sym (le_drop 2 at xs 4) ∙ f.number;
        head = ap (le 4 xs) (sym (add-zero at)) ∙ sym (le_drop 4 at xs 0) ∙ f.head;
      }

  -- what stands behind it
  pub behind_one : drop (at + 6) xs ≡ events_bytes es
  behind_one = sym (drop-drop 6 at xs) ∙ ap (drop 6) same ∙ drop_at (event_bytes e) (events_bytes es) 6 (length_event e)

-- what stands behind so many events
pub behind_many : (n : ℕ) (xs : List ℕ) (at : ℕ) (es : List Event) → n ≤ length es → drop at xs ≡ events_bytes es → drop (at + 6 * n) xs ≡ events_bytes (drop n es)
behind_many zero xs at es h same = ap (λ (k : ℕ). drop k xs) (add-zero at) ∙ same
behind_many (suc n) xs at [] h same = absurd (omega arith)
behind_many (suc n) xs at (e ∷ es) h same =
    let k : at + 6 * suc n ≡ at + 6 + 6 * n = omega arith in
    ap (λ (j : ℕ). drop j xs) k ∙ behind_many n xs (at + 6) es (omega arith) (behind_one xs at e es same)

-- how many bytes they are
pub bytes_left_lem : (xs : List ℕ) (at : ℕ) (es : List Event) → drop at xs ≡ events_bytes es → length xs - at ≡ 6 * length es
bytes_left_lem xs at es same = sym (length-drop at xs) ∙ ap length same ∙ length_events es

-- ---- how many of them one item takes

-- none behind the last
pub ahead_none : (most : ℕ) (e : Event) → same_ahead most e [] ≡ 0
unfolding same_ahead
ahead_none zero e = refl
ahead_none (suc most) e = refl

-- none where none may come
pub ahead_full : (e : Event) (es : List Event) → same_ahead 0 e es ≡ 0
unfolding same_ahead
ahead_full e es = refl

-- none behind a send
pub ahead_send : (most : ℕ) (e : Event) (es : List Event) → kind_of e ≡ 3 → same_ahead most e es ≡ 0
ahead_send most e [] k = ahead_none most e
ahead_send most e (f ∷ fs) k = ahead_stops most e f fs (λ t s. omega arith)

-- n of them were found to be the same tick as the first: as many more as behind these, of those that an item may still take
pub record Found (xs : List ℕ) (from n at : ℕ) (e : Event) (es : List Event) : Type 0 where
  pub count : suc (same_ahead 65534 e es) ≡ n + same_ahead (65535 - n) e (drop n (e ∷ es))
  pub same : drop at xs ≡ events_bytes (drop n (e ∷ es))
  pub fit : AllFit (drop n (e ∷ es))

-- before any is compared
pub found_first : (xs : List ℕ) (from : ℕ) (e : Event) (es : List Event) → drop from xs ≡ events_bytes (e ∷ es) → AllFit (e ∷ es) → Found xs from 1 (from + 6) e es
found_first xs from e es same fit = record { count = omega arith; same = behind_one xs from e es same; fit = fit.1 }

-- what an event equal in its fields is
same_event : (e f : Event) → kind_of e ≡ kind_of f → number_of e ≡ number_of f → e ≡ f
same_event (Waiting x) (Waiting y) k n = ap Waiting n
same_event (Idle x) (Idle y) k n = ap Idle n
same_event (Send x) (Send y) k n = ap Send n
same_event (Waiting x) (Idle y) k n = absurd (omega arith)
same_event (Waiting x) (Send y) k n = absurd (omega arith)
same_event (Idle x) (Waiting y) k n = absurd (omega arith)
same_event (Idle x) (Send y) k n = absurd (omega arith)
same_event (Send x) (Waiting y) k n = absurd (omega arith)
same_event (Send x) (Idle y) k n = absurd (omega arith)

module _ (xs : List ℕ) (from n at : ℕ) (e : Event) (es : List Event) (t : Found xs from n at e es) where
  -- none is left
  pub found_end : length xs - at < 6 → n ≡ suc (same_ahead 65534 e es)
  found_end h = by (drop n (e ∷ es)) refl
    where
      by : (rest : List Event) → drop n (e ∷ es) ≡ rest → n ≡ suc (same_ahead 65534 e es)
      by [] r = omega (arith, t.count, ap (same_ahead (65535 - n) e) r ∙ ahead_none (65535 - n) e)
      by (f ∷ fs) r = absurd (omega (arith, bytes_left_lem xs at (f ∷ fs) (t.same ∙ ap events_bytes r)))

  -- the next is another event
  pub found_other : 6 ≤ length xs - at → ((f : Event) → Fields xs at f → e ≡ f → ⊥) → n ≡ suc (same_ahead 65534 e es)
  found_other h other = by (drop n (e ∷ es)) refl
    where
      by : (rest : List Event) → drop n (e ∷ es) ≡ rest → n ≡ suc (same_ahead 65534 e es)
      by [] r = absurd (omega (arith, bytes_left_lem xs at [] (t.same ∙ ap events_bytes r)))
      by (f ∷ fs) r =
          let fit : AllFit (f ∷ fs) = rw r at t.fit in
          let g = fields_at xs at f fs (t.same ∙ ap events_bytes r) fit.0 in
          omega (arith, t.count, ap (same_ahead (65535 - n) e) r ∙ ahead_stops (65535 - n) e f fs (λ k s. other f g s))

  -- as many as one item may take
  pub found_full : n ≡ 65535 → n ≡ suc (same_ahead 65534 e es)
  found_full h =
      let none : 65535 - n ≡ 0 = omega arith in
      omega (arith, t.count, ap (λ (k : ℕ). same_ahead k e (drop n (e ∷ es))) none ∙ ahead_full e (drop n (e ∷ es)))

  -- the next is the same tick
  pub found_more : 6 ≤ length xs - at → n < 65535 → kind_of e < 3 → le 4 xs at ≡ 6 + 65536 * kind_of e → le 2 xs (at + 4) ≡ number_of e → Found xs from (n + 1) (at + 6) e es
  found_more h few tick head number = by (drop n (e ∷ es)) refl
    where
      by : (rest : List Event) → drop n (e ∷ es) ≡ rest → Found xs from (n + 1) (at + 6) e es
      by [] r = absurd (omega (arith, bytes_left_lem xs at [] (t.same ∙ ap events_bytes r)))
      by (f ∷ fs) r =
          let fit : AllFit (f ∷ fs) = rw r at t.fit in
          let here = t.same ∙ ap events_bytes r in
          let g = fields_at xs at f fs here fit.0 in
          let k : kind_of e ≡ kind_of f = omega (arith, g.head) in
          let s : f ≡ e = sym (same_event e f k (sym number ∙ g.number)) in
          let next : drop (n + 1) (e ∷ es) ≡ fs = sym (drop-drop 1 n (e ∷ es)) ∙ ap (drop 1) r in
          let room : 65535 - n ≡ suc (65535 - (n + 1)) = omega arith in
          let more : same_ahead (65535 - n) e (drop n (e ∷ es)) ≡ suc (same_ahead (65535 - (n + 1)) e fs) =
          ap (λ (q : List Event). same_ahead (65535 - n) e q) (r ∙ ap (λ (q : Event). q ∷ fs) s)
          ∙ ap (λ (m : ℕ). same_ahead m e (e ∷ fs)) room
          ∙ ahead_grows (65535 - (n + 1)) e fs tick in
          record {
            count = rw next (omega (arith, t.count, more));
            same = rw next (behind_one xs at f fs here);
            fit = rw next fit.1;
          }
