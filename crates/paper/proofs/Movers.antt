-- The movers keep their promises over the host's calls, by the laws of `roll`; either form is read alike, so every answer is the same.
-- Assumes nothing.
use Prim.Native.Nat.{ℕ, zero, suc, ◌+◌, ◌-◌, ◌≤◌, ◌<◌}
use mathlib.Core.Bool.{true, false}
use mathlib.Core.List.{List, [], ◌∷◌, ◌++◌, append_assoc}
use mathlib.Core.Logic.{inr, ◌↔◌}
use mathlib.Core.Path.{◌≡◌, refl, sym, ap, subst, ◌∙◌}
use native.Mathlib.Omega.{arith}
use lib.ListN.{length, take, drop, replicate, length-replicate}
use lib.Seq.{drop_at}
use Rattle.decide.specs.Test.{facts}
use Rattle.wire.specs.Wire.{Bytes}
use Rattle.wire.proofs.Numbers.{digits_bytes}
use Rattle.wire.proofs.Places.{bytes_append}
use Rattle.wire.proofs.Placed.{laid_out_bytes}
use Rattle.shaper.specs.declared.Limits.{Limits}
use Rattle.shaper.specs.declared.Event.{Event}
use Rattle.shaper.specs.declared.Event.TheVariants.{Waiting, Idle, Send}
use Rattle.shaper.specs.Limits.{limits_ok, most_events, LimitsOk}
use Rattle.shaper.specs.Kind.{kind_of, number_of}
use Rattle.shaper.proofs.Ranges.{limits_exactly}
use Rattle.summary.proofs.Runs as runs
use Rattle.record.specs.Record.{header_parts, header_bytes, event_parts, event_bytes, written, WellFormed}
use Rattle.record.specs.Items.{Item, one, run, item_of, run_parts, run_bytes, items_bytes, written_items, unrolled, Formed}
use Rattle.record.specs.Read.{under, read_items, read_record}
use Rattle.record.specs.Step.{header_of_of}
use Rattle.record.proofs.Steps.{header_stands}
use Rattle.record.proofs.Written.{length_header, header_back, behind, items_then, written_read, ones, ones_unrolled, ones_written, ones_formed}
use Rattle.record.proofs.Wrote.{formed_events}
use Rattle.account.specs.Account.{summarized, summarize_in, summarize_of}
use Rattle.reader.proofs.Walk.{walk_alike}
use Rattle.feed.proofs.Promises.{fed_whole}
use Rattle.hex_text.specs.Hex.{text_of}
use Rattle.apart.specs.Text.{compare_of}
use Rattle.roll.specs.Rolled.{rolled, same_ahead, Longest}
use Rattle.roll.specs.Moved.{bytes, rolled_read, rolled_bytes, unrolled_bytes}
use Rattle.roll.proofs.Rolled.{rolled_formed, ahead_grows, ahead_stops, rolled_front}
use Rattle.roll.proofs.Longest as longest
use Rattle.roll.proofs.Promises as roll
use Rattle.rpr.specs.Calls.{summarize_answer, summarize_after}
use Rattle.rpr.specs.Movers.{roll_answer, roll_after, unroll_answer, unroll_after}
use Rattle.paper.specs.Movers.{Wrote, Moves, LongestTaken, LongestRuns, InLongest, SameAnswers, EitherForm, RunClosed, Movers}
use Rattle.paper.proofs.Rolling.{first_zero, old_few, new_shorter, roll_leaves, unroll_leaves, roll_out, unroll_out, rolls_only, unrolls_only}

-- ---- what is written

-- what each form of a record's events is
rolled_out : (l : Limits) (es : List Event) → WellFormed l es → rolled_bytes (written l es) ≡ bytes (written_items l (rolled es))
unfolding rolled_bytes
rolled_out l es w = ap rolled_read (written_read false l es w)

moves : Moves
moves =
    record {
      rolls =
          λ l es w room fits.
          roll_leaves (written l es) (written_items l (rolled es)) room (rolled_out l es w) (omega (arith, new_shorter l es, old_few l es w.few)) fits;
      unrolls =
          λ l is f room fits.
          unroll_leaves (written_items l is) (written l (unrolled is)) room (roll.unrolled_bytes_lem l is f) (old_few l (unrolled is) f.few) fits;
      rolls_only = rolls_only;
      unrolls_only = unrolls_only;
      shorter = new_shorter;
    }

-- ---- the longest runs

-- equal ticks at the front, up to as many as are looked for
ahead_all : (e : Event) → kind_of e < 3 → (most k : ℕ) (es : List Event) → k ≤ most → (k < most → (fs : List Event) → es ≡ e ∷ fs → ⊥)
    → same_ahead most e (replicate k e ++ es) ≡ k
unfolding same_ahead
ahead_all e t zero zero es h stop = refl
ahead_all e t zero (suc k) es h stop = absurd (omega arith)
ahead_all e t (suc most) zero [] h stop = refl
ahead_all e t (suc most) zero (f ∷ fs) h stop = ahead_stops (suc most) e f fs (λ k same. stop (omega arith) fs (ap (λ (g : Event). g ∷ fs) (sym same)))
ahead_all e t (suc most) (suc k) es h stop =
    ahead_grows most e (replicate k e ++ es) t ∙ ap suc (ahead_all e t most k es (omega arith) (λ less. stop (omega arith)))

ticks_taken : (e : Event) (n : ℕ) (es : List Event) → kind_of e < 3 → 1 ≤ n → n ≤ 65535 → (n < 65535 → (fs : List Event) → es ≡ e ∷ fs → ⊥)
    → rolled (replicate n e ++ es) ≡ item_of e n ∷ rolled es
ticks_taken e zero es t some most stop = absurd (omega arith)
ticks_taken e (suc k) es t some most stop =
    let ahead = ahead_all e t 65534 k es (omega arith) (λ less. stop (omega arith)) in
    rolled_front e (replicate k e ++ es) ∙ rw (ahead, drop_at (replicate k e) es k (length-replicate k e))

-- a send is followed by no equal tick
send_alone : (z : ℕ) (most : ℕ) (es : List Event) → same_ahead most (Send z) es ≡ 0
unfolding same_ahead
send_alone z zero es = refl
send_alone z (suc most) [] = refl
send_alone z (suc most) (f ∷ fs) = ahead_stops (suc most) (Send z) f fs (λ k same. omega arith)

together : (e : Event) (n : ℕ) → 2 ≤ n → item_of e n ≡ run e n
together e zero h = absurd (omega arith)
together e (suc zero) h = absurd (omega arith)
together e (suc (suc n)) h = refl

taken : LongestTaken
unfolding rolled
taken =
    record {
      none = refl;
      ticks = ticks_taken;
      alone = λ e. refl;
      together = together;
      send = λ z es. rolled_front (Send z) es ∙ rw (send_alone z 65534 es);
    }

longest_runs : LongestRuns
longest_runs =
    record {
      none = tt;
      last = λ i. tt;
      more = λ i j is. (λ h. h, λ h. h);
      event = λ e. (refl, refl);
      run = λ e count. (refl, refl);
    }

-- ---- a record's bytes

event_bytes_lem : (e : Event) → Bytes (event_bytes e)
unfolding event_bytes
event_bytes_lem e = laid_out_bytes (event_parts e) (digits_bytes 2 6, (digits_bytes 2 (kind_of e), (digits_bytes 2 (number_of e), tt)))

run_bytes_lem : (e : Event) (count : ℕ) → Bytes (run_bytes e count)
unfolding run_bytes
run_bytes_lem e count =
    laid_out_bytes (run_parts e count) (digits_bytes 2 10, (digits_bytes 2 4, (digits_bytes 2 (kind_of e), (digits_bytes 2 (number_of e), (digits_bytes 2 count, tt)))))

items_bytes_lem : (is : List Item) → Bytes (items_bytes is)
items_bytes_lem [] = λ j. omega arith
items_bytes_lem (one e ∷ is) = bytes_append (event_bytes e) (items_bytes is) (event_bytes_lem e) (items_bytes_lem is)
items_bytes_lem (run e count ∷ is) = bytes_append (run_bytes e count) (items_bytes is) (run_bytes_lem e count) (items_bytes_lem is)

header_bytes_lem : (l : Limits) → Bytes (header_bytes l)
unfolding header_bytes
header_bytes_lem l =
    laid_out_bytes (header_parts l) (digits_bytes 2 14, (digits_bytes 2 16, (digits_bytes 2 l.mtu, (digits_bytes 4 l.lo, (digits_bytes 4 l.hi, tt)))))

record_bytes : (l : Limits) (is : List Item) → Bytes (written_items l is)
record_bytes l is = bytes_append (header_bytes l) (items_bytes is) (header_bytes_lem l) (items_bytes_lem is)

old_bytes : (l : Limits) (es : List Event) → Bytes (written l es)
old_bytes l es = subst Bytes (ones_written l es) (record_bytes l (ones es))

-- ---- back and forth

module _ (xs room : List ℕ) (n : ℕ) (b : Bytes xs) (w : Wrote (roll_answer xs room) n) where
  -- what rpr_roll left, n bytes of it, has longest runs
  rolled_longest : InLongest (take n (roll_after xs room))
  rolled_longest =
      let r = rolls_only xs room b (first_zero (roll_answer xs room) n w) in
      let out = roll_out xs room b n w in
      let new = rolled_out r.limits r.events r.formed in
      let same : out.output ≡ written_items r.limits (rolled r.events) = cc (out.made, ap rolled_bytes r.bytes) in
      record {
        limits = r.limits;
        items = rolled r.events;
        bytes = out.front ∙ same;
        formed = rolled_formed r.limits r.events r.formed;
        longest = longest.rolled_longest r.events;
      }

  -- and is moved back
  roll_back : (again : List ℕ) → length xs ≤ length again
      → let ys = take n (roll_after xs room) in Wrote (unroll_answer ys again) (length xs) × (take (length xs) (unroll_after ys again) ≡ xs)
  roll_back again long =
      let r = rolls_only xs room b (first_zero (roll_answer xs room) n w) in
      let out = roll_out xs room b n w in
      let few : length xs < 4294967296 = rw r.bytes (old_few r.limits r.events r.formed.few) in
      let left = unroll_leaves out.output xs again (roll.roll_back xs out.output b out.made) few long in
      rw out.front (left.counted, left.front)

module _ (l : Limits) (is : List Item) (f : Formed true l is) where
  -- what rpr_unroll left
  unrolled_front : (room : List ℕ) (n : ℕ) → Wrote (unroll_answer (written_items l is) room) n
      → (take n (unroll_after (written_items l is) room) ≡ written l (unrolled is)) × (n ≡ length (written l (unrolled is)))
  unrolled_front room n w =
      let out = unroll_out (written_items l is) room (record_bytes l is) n w in
      let same : out.output ≡ written l (unrolled is) = cc (out.made, roll.unrolled_bytes_lem l is f) in
      (out.front ∙ same, out.counted ∙ ap length same)

  again_exactly : (again : List ℕ) (m : ℕ) → Wrote (roll_answer (written l (unrolled is)) again) m
      → (take m (roll_after (written l (unrolled is)) again) ≡ written_items l is) ↔ Longest is
  again_exactly again m w =
      let out = roll_out (written l (unrolled is)) again (old_bytes l (unrolled is)) m w in
      let x = roll.unroll_again_exactly l is f in (
        λ e. x.0 (out.made ∙ ap bytes (sym out.front ∙ e)),
        λ g. let same : out.output ≡ written_items l is = cc (out.made, x.1 g) in out.front ∙ same,
      )

  module _ (room again : List ℕ) (n : ℕ) (w : Wrote (unroll_answer (written_items l is) room) n) where
    abbrev back : List ℕ
    back = take n (unroll_after (written_items l is) room)

    unroll_again_exactly : (m : ℕ) → Wrote (roll_answer back again) m → (take m (roll_after back again) ≡ written_items l is) ↔ Longest is
    unroll_again_exactly m v =
        let front = (unrolled_front room n w).0 in
        rw front (again_exactly again m (rw front at v))

    unroll_again : n ≤ length again → (m : ℕ) × Wrote (roll_answer back again) m
    unroll_again long =
        let es = unrolled is in
        let e = formed_events true l is f in
        let front = unrolled_front room n w in
        let short = new_shorter l es in
        let left = roll_leaves (written l es) (written_items l (rolled es)) again (rolled_out l es e) (omega (arith, old_few l es e.few)) (omega (arith, front.1)) in
        (length (written_items l (rolled es)), rw front.0 left.counted)

-- ---- either form

same_answers : (xs ys : List ℕ) → Bytes xs → Bytes ys → read_record xs ≡ read_record ys → SameAnswers xs ys
unfolding summarize_answer summarize_after summarize_in text_of compare_of
same_answers xs ys b c e =
    let sums : summarize_of xs ≡ summarize_of ys = ap summarized e in
    record {
      summarized = λ room. (rw e, rw e);
      fed = λ chunks others p q.
          fed_whole chunks (rw p b) ∙ ap summarize_of p ∙ sums ∙ sym (fed_whole others (rw q c) ∙ ap summarize_of q);
      hex = λ text other h k p q. rw (h, k, p, q) sums;
      walked = λ s t n m p q h k. walk_alike s t n m h k (rw (p, q) e);
      compared = λ zs. (rw e, rw e);
    }

-- whatever stands behind a record's items is read behind the events that they stand for
read_behind : (l : Limits) (is : List Item) (q : List ℕ) (left : ℕ) → Formed true l is → length (unrolled is) + left ≡ most_events
    → read_record (written_items l is ++ q) ≡ under l (behind (unrolled is) (read_items true 9 l.mtu left 0 q))
read_behind l is q left f sum =
    let zs = items_bytes is ++ q in
    let same : written_items l is ++ q ≡ header_bytes l ++ zs = append_assoc (header_bytes l) (items_bytes is) q in
    let reads : read_items true 9 l.mtu most_events 0 (drop 14 (written_items l is ++ q)) ≡ behind (unrolled is) (read_items true 9 l.mtu left 0 q) =
    rw (same, drop_at (header_bytes l) zs 14 (length_header l), ← sum) (items_then true 9 l f.settings is left q f.items) in
    (header_stands (written_items l is ++ q) l (ap header_of_of same ∙ header_back l f.settings zs)).goes_on true ∙ ap (under l) reads

read_alike : (l : Limits) (is : List Item) (q : List ℕ) → Formed true l is → read_record (written_items l is ++ q) ≡ read_record (written l (unrolled is) ++ q)
read_alike l is q f =
    let es = unrolled is in
    let left = most_events - length es in
    let sum : length es + left ≡ most_events = omega (arith, f.few) in
    let old = read_behind l (ones es) q left (ones_formed true l es (formed_events true l is f)) (rw (ones_unrolled es) sum) in
    read_behind l is q left f sum ∙ sym (rw (ones_written l es, ones_unrolled es) at old)

either_form : EitherForm
either_form =
    record {
      of_rolled = λ xs room n b w.
          let out = roll_out xs room b n w in
          let new = rolled_longest xs room n b w in
          same_answers xs (take n (roll_after xs room)) b (rw new.bytes (record_bytes new.limits new.items))
          (rw out.front (sym (roll.either_form xs out.output b out.made).0));
      of_unrolled = λ xs room n b w.
          let out = unroll_out xs room b n w in
          let r = unrolls_only xs room b (first_zero (unroll_answer xs room) n w) in
          let same : out.output ≡ written r.limits (unrolled r.items) = cc (out.made, ap unrolled_bytes r.bytes, roll.unrolled_bytes_lem r.limits r.items r.formed) in
          same_answers xs (take n (unroll_after xs room)) b (rw (out.front, same) (old_bytes r.limits (unrolled r.items)))
          (rw out.front (sym (roll.either_form_back xs out.output b out.made).0));
      behind = λ l is rest f b.
          same_answers (written_items l is ++ rest) (written l (unrolled is) ++ rest)
          (bytes_append (written_items l is) rest (record_bytes l is) b)
          (bytes_append (written l (unrolled is)) rest (old_bytes l (unrolled is)) b)
          (read_alike l is rest f);
    }

-- ---- together

run_closed : (l : Limits) (x count : ℕ) → LimitsOk l → x ≤ 65535 → 1 ≤ count → RunClosed l x count
run_closed l x count ok amount some =
    let settings = facts (limits_ok l) ((limits_exactly l).1 ok) in
    record {
      waiting = runs.run_closed l settings (Waiting x) amount count (some, inr (omega arith));
      idle = runs.run_closed l settings (Idle x) amount count (some, inr (omega arith));
    }

pub movers : Movers
movers =
    record {
      moves = moves;
      taken = taken;
      longest = longest_runs;
      roll_back = λ xs room again n b w. roll_back xs room n b w again;
      unroll_again_exactly = λ l is f room again n m w. unroll_again_exactly l is f room again n w m;
      unroll_again = unroll_again;
      rolled_longest = rolled_longest;
      either_form = either_form;
      run_closed = run_closed;
    }
