-- An old record is rolled item by item: what is left of its events, from a place on, takes what is left of the output.
-- Assumes nothing.
use Prim.Native.Nat.{ℕ, zero, suc, ◌+◌, ◌*◌, ◌≤◌, ◌<◌, min}
use mathlib.Core.Bool.{false}
use mathlib.Core.List.{List, [], ◌∷◌, ◌++◌}
use mathlib.Core.Path.{◌≡◌, refl, sym, ap, ◌∙◌}
use native.Mathlib.Omega.{arith}
use lib.ListN.{length, drop, length-append, length-take, length-replicate}
use lib.Seq.{drop_at}
use Rattle.decide.specs.Test.{Holds, ◌≡?◌, split}
use Rattle.decide.proofs.Cases.{by_cases}
use Rattle.shaper.specs.declared.Limits.{Limits}
use Rattle.shaper.specs.declared.Event.{Event}
use Rattle.shaper.specs.Limits.{limits_ok}
use Rattle.shaper.specs.Credit.{AllValid}
use Rattle.shaper.specs.Kind.{kind_of, number_of}
use Rattle.wire.specs.Wire.{put, Bytes}
use Rattle.wire.proofs.Puts.{put_put, put_nil, length_put}
use Rattle.wire.specs.Parts.{number, length_laid_out}
use Rattle.record.specs.Record.{header_bytes, event_bytes, events_bytes, written}
use Rattle.record.specs.Items.{item_of, run_bytes, item_bytes, items_bytes, written_items}
use Rattle.record.proofs.Written.{length_header, length_written, event_fits}
use Rattle.record.proofs.Wrote.{read_written}
use Rattle.roll.specs.Rolled.{rolled, same_ahead}
use Rattle.roll.specs.Moved.{bytes, rolled_bytes}
use Rattle.roll.specs.Steps.{Reads, output_of, AllFit, TakenAt, item_fields, item_length}
use Rattle.roll.proofs.Rolled.{rolled_front, ahead_stand}
use Rattle.roll.proofs.Promises.{roll_shorter}
use Rattle.roll.proofs.Laying.{item_one, item_more, length_fields}
use Rattle.roll.proofs.Ahead.{Fields, fields_at, behind_many, bytes_left_lem}

-- ---- an item by its fields

pub item_fields_lem : (e : Event) (n : ℕ) → 1 ≤ n → item_bytes (item_of e n) ≡ item_fields (kind_of e) (number_of e) n
unfolding event_bytes run_bytes
item_fields_lem e zero h = absurd (omega arith)
item_fields_lem e (suc zero) h = sym (item_one (kind_of e) (number_of e) 1 refl).1
item_fields_lem e (suc (suc n)) h = sym (item_more (kind_of e) (number_of e) (suc (suc n)) (λ z. omega arith)).1

pub length_item : (kind num n : ℕ) → length (item_fields kind num n) ≡ item_length n
length_item kind num n =
    by_cases (split (n ≡? 1))
    (λ e. let f = item_one kind num n e in ap length f.1 ∙ length_fields kind num ∙ sym f.0)
    (λ e. let f = item_more kind num n e in
    ap length f.1 ∙ length_laid_out (number 2 10 ∷ number 2 4 ∷ number 2 kind ∷ number 2 num ∷ number 2 n ∷ []) ∙ sym f.0)

-- ---- the output

all_fit : (l : Limits) (es : List Event) → Holds (limits_ok l) → AllValid l es → AllFit es
all_fit l [] ok v = tt
all_fit l (e ∷ es) ok v = ((event_fits l e ok v.0).1, all_fit l es ok v.1)

-- what an old record is, and what is written of it
pub record Rolling (xs : List ℕ) (l : Limits) : Type 0 where
  pub events : List Event
  pub old : xs ≡ written l events
  pub settings : Holds (limits_ok l)
  pub fit : AllFit events
  pub made : output_of (rolled_bytes xs) ≡ written_items l (rolled events)
  pub shorter : length (output_of (rolled_bytes xs)) ≤ length xs

pub rolling : (xs : List ℕ) (l : Limits) → Bytes xs → Reads false xs l → Rolling xs l
unfolding rolled_bytes
rolling xs l b r =
    let w = read_written xs l r.events b r.reads in
    let m : rolled_bytes xs ≡ bytes (written_items l (rolled r.events)) = rw r.reads in
    record {
      events = r.events;
      old = w.0;
      settings = w.1.settings;
      fit = all_fit l r.events w.1.settings w.1.valid;
      made = ap output_of m;
      shorter = rw (ap output_of m) (roll_shorter xs (written_items l (rolled r.events)) b m);
    }

pub rolling_long : (xs : List ℕ) (l : Limits) → Rolling xs l → 14 ≤ length xs
rolling_long xs l r = omega (arith, ap length r.old, length_written l r.events)

-- ---- what is left

-- from a place of the record on, and from one of the output on
pub record Left (xs : List ℕ) (at end : ℕ) : Type 0 where
  pub rest : List Event
  pub same : drop at xs ≡ events_bytes rest
  pub fit : AllFit rest
  pub left : end + length (items_bytes (rolled rest)) ≡ length (output_of (rolled_bytes xs))

pub left_start : (xs : List ℕ) (l : Limits) → Rolling xs l → Left xs 14 14
left_start xs l r =
    record {
      rest = r.events;
      same = ap (drop 14) r.old ∙ drop_at (header_bytes l) (events_bytes r.events) 14 (length_header l);
      fit = r.fit;
      left = omega (arith, ap length r.made, length-append (header_bytes l) (items_bytes (rolled r.events)), length_header l);
    }

module _ (xs : List ℕ) (at end : ℕ) (t : Left xs at end) where
  -- nothing
  pub left_end : length xs ≤ at → t.rest ≡ []
  left_end h = by t.rest t.same
    where
      by : (rest : List Event) → drop at xs ≡ events_bytes rest → rest ≡ []
      by [] s = refl
      by (e ∷ es) s = absurd (omega (arith, bytes_left_lem xs at (e ∷ es) s))

  -- a whole event, or more
  pub left_some : at < length xs → at + 6 ≤ length xs
  left_some h = by t.rest t.same
    where
      by : (rest : List Event) → drop at xs ≡ events_bytes rest → at + 6 ≤ length xs
      by [] s = absurd (omega (arith, bytes_left_lem xs at [] s))
      by (e ∷ es) s = omega (arith, bytes_left_lem xs at (e ∷ es) s)

-- the item that is taken, and what is left behind it
pub record Taken (xs : List ℕ) (at end n : ℕ) (before : List Event) : Type 0 where
  pub first : Event
  pub fields : Fields xs at first
  pub some : 1 ≤ n
  pub few : n ≤ 65535
  pub within : at + 6 * n ≤ length xs
  pub next : Left xs (at + 6 * n) (end + item_length n)
  pub parts : items_bytes (rolled before) ≡ item_fields (kind_of first) (number_of first) n ++ items_bytes (rolled next.rest)

-- no more are taken than stand there
ahead_length : (most : ℕ) (e : Event) (es : List Event) → same_ahead most e es ≤ length es
ahead_length most e es =
    let k = same_ahead most e es in
    let same : min k (length es) ≡ k = sym (length-take k es) ∙ ap length (ahead_stand most e es).1 ∙ length-replicate k e in
    omega arith

fit_drop : (n : ℕ) (es : List Event) → AllFit es → AllFit (drop n es)
fit_drop zero es f = f
fit_drop (suc n) [] f = tt
fit_drop (suc n) (e ∷ es) f = fit_drop n es f.1

taken_by : (xs : List ℕ) (at end n : ℕ) (e : Event) (es : List Event) → drop at xs ≡ events_bytes (e ∷ es) → AllFit (e ∷ es) →
    end + length (items_bytes (rolled (e ∷ es))) ≡ length (output_of (rolled_bytes xs)) → TakenAt xs at n → Taken xs at end n (e ∷ es)
taken_by xs at end n e es same fit left taken =
    let k = same_ahead 65534 e es in
    let count : n ≡ suc k = taken e es same fit in
    let stand = ahead_stand 65534 e es in
    let few : k ≤ length es = omega (arith, ahead_length 65534 e es) in
    let bs = bytes_left_lem xs at (e ∷ es) same in
    let parts : items_bytes (rolled (e ∷ es)) ≡ item_fields (kind_of e) (number_of e) n ++ items_bytes (rolled (drop k es)) =
    ap items_bytes (rolled_front e es)
    ∙ ap (λ (q : List ℕ). q ++ items_bytes (rolled (drop k es))) (item_fields_lem e (suc k) (omega arith) ∙ ap (item_fields (kind_of e) (number_of e)) (sym count)) in
    record {
      first = e;
      fields = fields_at xs at e es same fit.0;
      some = omega arith;
      few = omega (arith, stand.0);
      within = omega arith;
      next = record {
        rest = drop k es;
        same = ap (λ (m : ℕ). drop (at + 6 * m) xs) count ∙ behind_many (suc k) xs at (e ∷ es) (omega arith) same;
        fit = fit_drop k es fit.1;
        left = omega (arith, left, ap length parts, length-append (item_fields (kind_of e) (number_of e) n) (items_bytes (rolled (drop k es))), length_item (kind_of e) (number_of e) n);
      };
      parts = parts;
    }

pub left_next : (xs : List ℕ) (at end n : ℕ) (t : Left xs at end) → at < length xs → TakenAt xs at n → Taken xs at end n t.rest
left_next xs at end n t h taken = by t.rest t.same t.fit t.left
  where
    by : (rest : List Event) → drop at xs ≡ events_bytes rest → AllFit rest → end + length (items_bytes (rolled rest)) ≡ length (output_of (rolled_bytes xs)) → Taken xs at end n rest
    by [] s f l = absurd (omega (arith, bytes_left_lem xs at [] s))
    by (e ∷ es) s f l = taken_by xs at end n e es s f l taken

-- ---- and is put

-- what is put from there on leaves what all items leave behind the header, in a room that holds it
pub record Laid (xs base room : List ℕ) (at end : ℕ) : Type 0 where
  pub ahead : Left xs at end
  pub size : length room ≡ length base
  pub fits : length (output_of (rolled_bytes xs)) ≤ length base
  pub left : put room end (items_bytes (rolled ahead.rest)) ≡ put base 14 (drop 14 (output_of (rolled_bytes xs)))

-- the output behind its header
items_made : (xs : List ℕ) (l : Limits) (r : Rolling xs l) → drop 14 (output_of (rolled_bytes xs)) ≡ items_bytes (rolled r.events)
items_made xs l r = ap (drop 14) r.made ∙ drop_at (header_bytes l) (items_bytes (rolled r.events)) 14 (length_header l)

-- before the first item
pub laid_start : (xs base : List ℕ) (l : Limits) → Rolling xs l → length (output_of (rolled_bytes xs)) ≤ length base → Laid xs base base 14 14
unfolding left_start
laid_start xs base l r fits = record { ahead = left_start xs l r; size = refl; fits = fits; left = ap (put base 14) (sym (items_made xs l r)) }

-- behind one item more
pub laid_next : (xs base room after : List ℕ) (at end n : ℕ) (t : Laid xs base room at end) (k : Taken xs at end n t.ahead.rest) →
    after ≡ put room end (item_fields (kind_of k.first) (number_of k.first) n) → Laid xs base after (at + 6 * n) (end + item_length n)
laid_next xs base room after at end n t k e =
    let item = item_fields (kind_of k.first) (number_of k.first) n in
    let rest = items_bytes (rolled k.next.rest) in
    let size = length_item (kind_of k.first) (number_of k.first) n in
    let total = k.next.left in
    record {
      ahead = k.next;
      size = ap length e ∙ length_put room item end (omega (arith, t.size, t.fits)) ∙ t.size;
      fits = t.fits;
      left =
          ap (λ (q : List ℕ). put q (end + item_length n) rest) e
          ∙ put_put room item rest end (end + item_length n) (omega arith) (omega (arith, t.size, t.fits))
          ∙ ap (put room end) (sym k.parts)
          ∙ t.left;
    }

-- no event takes no item
no_items : items_bytes (rolled []) ≡ []
unfolding rolled
no_items = refl

-- behind the last
pub laid_end : (xs base room : List ℕ) (at end : ℕ) (t : Laid xs base room at end) → length xs ≤ at → room ≡ put base 14 (drop 14 (output_of (rolled_bytes xs)))
laid_end xs base room at end t h =
    let none : items_bytes (rolled t.ahead.rest) ≡ [] = ap (λ (q : List Event). items_bytes (rolled q)) (left_end xs at end t.ahead h) ∙ no_items in
    sym (put_nil room end) ∙ ap (put room end) (sym none) ∙ t.left

-- and as long as the output
pub laid_length : (xs base room : List ℕ) (at end : ℕ) (t : Laid xs base room at end) → length xs ≤ at → end ≡ length (output_of (rolled_bytes xs))
laid_length xs base room at end t h =
    let none : items_bytes (rolled t.ahead.rest) ≡ [] = ap (λ (q : List Event). items_bytes (rolled q)) (left_end xs at end t.ahead h) ∙ no_items in
    omega (arith, t.ahead.left, ap length none)

-- the header, and then all items
pub laid_whole : (xs room base : List ℕ) (l : Limits) (r : Rolling xs l) → length (output_of (rolled_bytes xs)) ≤ length room → base ≡ put room 0 (header_bytes l) →
    put base 14 (drop 14 (output_of (rolled_bytes xs))) ≡ put room 0 (output_of (rolled_bytes xs))
laid_whole xs room base l r fits e =
    let items = items_bytes (rolled r.events) in
    let size = length-append (header_bytes l) items in
    let head = length_header l in
    let all = ap length r.made in
    ap (put base 14) (items_made xs l r)
    ∙ ap (λ (q : List ℕ). put q 14 items) e
    ∙ put_put room (header_bytes l) items 0 14 (omega arith) (omega arith)
    ∙ ap (put room 0) (sym r.made)

-- a room for the output is one for the header
pub room_for_header : (xs : List ℕ) (l : Limits) (r : Rolling xs l) (n : ℕ) → length (output_of (rolled_bytes xs)) ≤ n → 14 ≤ n
room_for_header xs l r n h = omega (arith, ap length r.made, length-append (header_bytes l) (items_bytes (rolled r.events)), length_header l)

-- and the header leaves its length
pub header_kept : (xs room base : List ℕ) (l : Limits) (r : Rolling xs l) → length (output_of (rolled_bytes xs)) ≤ length room → base ≡ put room 0 (header_bytes l) → length base ≡ length room
header_kept xs room base l r h e =
    let long = room_for_header xs l r (length room) h in
    ap length e ∙ length_put room (header_bytes l) 0 (omega (arith, length_header l))
