-- Items fed where one begins come to the summary so far joined with theirs, or to their earliest fault. This is said of any summary in range: so items may be summed at
-- once, and a record whose header was fed comes to what its items say.
-- Assumes nothing.
use Prim.Native.Nat.{ℕ, zero, suc, ◌+◌, ◌-◌, ◌≤◌, ◌<◌}
use mathlib.Core.Bool.{true}
use mathlib.Core.List.{List, [], ◌∷◌, ◌++◌, append_assoc, append-nil}
use mathlib.Core.Logic.{◌⊎◌, inl, inr, ⊎_elim}
use mathlib.Core.Path.{◌≡◌, refl, sym, ap, ◌∙◌}
use native.Mathlib.Omega.{arith}
use lib.ListN.{length, take, drop, replicate, length-drop, length-replicate, take-append-drop}
use lib.Seq.{length-take-le}
use Rattle.std.specs.Prelude.{Some, None, Ok, Err}
use Rattle.decide.specs.declared.refusal.Refusal.{Refusal}
use Rattle.decide.specs.Number.{number_in, refusal_of}
use Rattle.decide.specs.Test.{Holds}
use Rattle.decide.proofs.Cases.{by_cases, le_or, true_or_false}
use Rattle.wire.specs.Wire.{Bytes}
use Rattle.wire.proofs.Places.{bytes_take, bytes_drop}
use Rattle.shaper.specs.declared.Limits.{Limits}
use Rattle.shaper.specs.declared.Event.{Event}
use Rattle.shaper.specs.Limits.{limits_ok, most_events}
use Rattle.shaper.specs.Credit.{Valid, AllValid}
use Rattle.shaper.specs.Kind.{event_of}
use Rattle.plain.specs.Range.{count_ok}
use Rattle.plain.proofs.Runs.{run_valid}
use Rattle.summary.specs.declared.Summary.{Summary}
use Rattle.summary.specs.Summary.{joined, summary_of}
use Rattle.summary.specs.Range.{in_range}
use Rattle.summary.specs.Answer.{Answer, join_of, join_next}
use Rattle.summary.proofs.Paper.{in_range_plain}
use Rattle.summary.proofs.Promises.{joined_range, joins_few, joined_events, joined_limits, join_associative, join_empty_right, join_append, summary_limits, summary_events, summary_range}
use Rattle.summary.proofs.Runs.{counted_summed}
use Rattle.record.specs.Read.{is_run, Events, faulty, events, ahead, read_from, under}
use Rattle.record.specs.Step.{Step, placed, step_within}
use Rattle.record.proofs.Named.{within_named}
use Rattle.record.proofs.Rows.{run_there, run_nowhere, event_short, run_short, within_faulty}
use Rattle.record.proofs.Fields.{event_good}
use Rattle.record.proofs.Steps.{Stood, read_end, read_over, stood_within, end_within, failed_within, stood_bound}
use Rattle.record.proofs.Written.{ahead_behind, behind_faulty, behind_events}
use Rattle.record.proofs.Wrote.{nothing_left, items_written, items_valid}
use Rattle.account.specs.Account.{summarized, events_of}
use Rattle.feed.specs.declared.Stage.TheVariants.{Summing}
use Rattle.feed.specs.declared.Front.{Front}
use Rattle.feed.specs.Feed.{stage_of, passed_by, item_size, none_held, stopped_at, fed_of, with_items, AtOnce, finish_of}
use Rattle.feed.proofs.Rows.{size_run, size_event, size_bounds, size_front, byte_over, finish_whole, finish_cut, finish_stopped, fed_stopped}
use Rattle.feed.proofs.Fronts.{within_front}
use Rattle.feed.proofs.Held.{beginning, item_held, item_cut}

-- What the bytes ys come to behind the summary s. Where all are summed, whatever follows them finds the summary with them and nothing held; what stood in the places p
-- before is gone with the first byte. Where one has a fault, the record ends with it.
abbrev pub Comes : Summary → List ℕ → Answer → Type 0
Comes s ys (Ok all) =
    (p : List ℕ) → length p ≡ 14 → (p ≡ none_held) ⊎ (0 < length ys) → (r : List ℕ) → fed_of (beginning (Summing s) p) (ys ++ r) ≡ fed_of (beginning (Summing all) none_held) r
Comes s ys (Err r) = (p : List ℕ) → length p ≡ 14 → finish_of (fed_of (beginning (Summing s) p) ys) ≡ Err r

-- events that are read of bytes are valid, and no more than may come
pub read_valid : (l : Limits) (left : ℕ) (ys : List ℕ) (es : List Event) → Bytes ys → read_from 9 l.mtu left 0 ys ≡ events es → AllValid l es × (length es ≤ left)
read_valid l left ys es b e =
    let w = items_written true 9 l left ys es b e in
    (rw w.gives (items_valid true l w.items w.ok), w.few)

-- any byte after the millionth event gives 9
over_fed : (s : Summary) (p ys : List ℕ) → 0 < length ys → most_events ≤ s.events → finish_of (fed_of (beginning (Summing s) p) ys) ≡ Err (refusal_of 9)
unfolding fed_of
over_fed s p [] some many = absurd (omega arith)
over_fed s p (y ∷ ys) some many =
    ap (λ f. finish_of (fed_of f ys)) (byte_over (beginning (Summing s) p) y s refl many)
    ∙ ap finish_of (fed_stopped (stopped_at (beginning (Summing s) p) (refusal_of 9)) (refusal_of 9) refl ys)
    ∙ finish_stopped (stopped_at (beginning (Summing s) p) (refusal_of 9)) (refusal_of 9) refl

module _ (s : Summary) (ys : List ℕ) where
  -- what stands at their front, where as many events more may come as a record has left
  abbrev step : Step
  step = step_within (refusal_of 9) (most_events - s.events) s.limits.mtu ys 0

  -- The first of them make an item: it is passed.
  module _ (room : s.events < most_events) (fits : item_size ys ≤ length ys) (t : Step) (e : step ≡ t) (p : List ℕ) (full : length p ≡ 14) where
    item_fed : (r : List ℕ) → fed_of (beginning (Summing s) p) (ys ++ r) ≡ fed_of (beginning (passed_by s t) none_held) (drop (item_size ys) ys ++ r)
    item_fed r =
        let w = take (item_size ys) ys in
        let z = drop (item_size ys) ys in
        let cut : take (item_size ys) ys ++ drop (item_size ys) ys ≡ ys = take-append-drop (item_size ys) ys in
        let long = length-take-le (item_size ys) ys fits in
        let size : item_size ys ≡ item_size (take (item_size ys) ys) = ap item_size (sym cut) ∙ size_front w z (omega (arith, (size_bounds ys).0)) in
        let read : step_within (refusal_of 9) (most_events - s.events) s.limits.mtu (take (item_size ys) ys) 0 ≡ t =
        sym (within_front w z (refusal_of 9) (most_events - s.events) s.limits.mtu (omega arith)) ∙ ap (λ q. step_within (refusal_of 9) (most_events - s.events) s.limits.mtu q 0) cut ∙ e in
        ap (λ q. fed_of (beginning (Summing s) p) (q ++ r)) (sym cut)
        ∙ ap (fed_of (beginning (Summing s) p)) (append_assoc w z r)
        ∙ item_held s room w p (z ++ r) (long ∙ size) full
        ∙ ap (λ u. fed_of (beginning (passed_by s u) none_held) (z ++ r)) read

    item_fed_alone : fed_of (beginning (Summing s) p) ys ≡ fed_of (beginning (passed_by s t) none_held) (drop (item_size ys) ys)
    item_fed_alone = ap (fed_of (beginning (Summing s) p)) (sym (append-nil ys)) ∙ item_fed [] ∙ ap (fed_of (beginning (passed_by s t) none_held)) (append-nil (drop (item_size ys) ys))

  -- ---- none

  none_comes : in_range s ≡ true → step ≡ Ok None → Comes s ys (with_items s ys)
  unfolding with_items events_of summary_of
  none_comes i e =
      let none = nothing_left ys (end_within true (refusal_of 9) (most_events - s.events) s.limits.mtu ys 0 e) in
      rw (none, read_end true 9 s.limits.mtu (most_events - s.events) [] 0 (omega arith), join_empty_right s i)
      (λ p full z r. by_cases z (λ q. ap (λ d. fed_of (beginning (Summing s) d) r) q) (λ h. absurd (omega arith)))

  -- ---- a fault at the front

  module _ (f : Refusal) (e : step ≡ Err f) (p : List ℕ) (full : length p ≡ 14) where
    named : refusal_of (number_in f) ≡ f
    named = rw e at (within_named true (refusal_of 9) (most_events - s.events) s.limits.mtu ys 0 refl)

    some : 0 < length ys
    some = (failed_within true (refusal_of 9) (most_events - s.events) s.limits.mtu ys 0 f e).0

    -- any byte after the millionth event gives 9
    over : most_events ≤ s.events → finish_of (fed_of (beginning (Summing s) p) ys) ≡ Err f
    over many =
        let none : most_events - s.events ≡ 0 = omega arith in
        let told = (failed_within true (refusal_of 9) (most_events - s.events) s.limits.mtu ys 0 f e).1 in
        let late = read_over true 9 s.limits.mtu ys 0 some in
        over_fed s p ys some many ∙ ap (λ (n : ℕ). Err (refusal_of n)) (nine (sym late ∙ (rw none at told))) ∙ ap Err named
      where
        nine : faulty 9 ≡ faulty (number_in f) → 9 ≡ number_in f
        nine q = cc

    -- an item that is cut short
    cut_short : s.events < most_events → length ys < item_size ys → finish_of (fed_of (beginning (Summing s) p) ys) ≡ Err f
    cut_short room short =
        let here = by_cases (true_or_false (is_run ys))
        (λ r. run_short true s.limits.mtu ys 0 r some (omega (arith, size_run ys r)))
        (λ r. event_short true s.limits.mtu ys 0 r some (omega (arith, size_event ys r))) in
        ap finish_of (item_cut s room ys p short full)
        ∙ finish_cut _ s refl some
        ∙ ap Err (two (sym (within_faulty true (refusal_of 9) (most_events - s.events) s.limits.mtu ys 0 (refusal_of 2) here (omega arith)) ∙ e))
      where
        two : ◌≡◌ {A = Step} (Err (refusal_of 2)) (Err f) → refusal_of 2 ≡ f
        two q = cc

    -- one that stands whole
    stopped : s.events < most_events → item_size ys ≤ length ys → finish_of (fed_of (beginning (Summing s) p) ys) ≡ Err f
    stopped room fits =
        ap finish_of (item_fed_alone room fits (Err f) e p full ∙ fed_stopped _ f refl (drop (item_size ys) ys)) ∙ finish_stopped _ f refl

  fault_comes : (f : Refusal) → step ≡ Err f → Comes s ys (with_items s ys)
  unfolding with_items events_of
  fault_comes f e =
      rw (failed_within true (refusal_of 9) (most_events - s.events) s.limits.mtu ys 0 f e).1
      (λ p full. by_cases (le_or most_events s.events) (over f e p full)
      (λ room. by_cases (le_or (item_size ys) (length ys)) (stopped f e p full room) (cut_short f e p full room))
      ∙ ap Err (sym (named f e p full)))

  -- ---- an item at the front

  module _ (i : in_range s ≡ true) (b : Bytes ys) (k v c next : ℕ) (e : step ≡ Ok (Some (placed k v c next))) where
    found : Stood true s.limits.mtu ys 0 k v c next × (c ≤ most_events - s.events)
    found = stood_within true (refusal_of 9) (most_events - s.events) s.limits.mtu ys 0 k v c next e

    -- its kind says how many bytes it has
    size_there : item_size ys ≡ next
    size_there =
        let t = found.0 in
        ⊎_elim
        (λ h. size_event ys (run_nowhere ys (λ q. omega (arith, h.kind_field, t.fields.last))) ∙ sym h.six)
        (λ h. size_run ys (run_there ys h.1.run_field) ∙ sym h.1.ten)
        t.there

    ok : Holds (limits_ok s.limits)
    ok = (in_range_plain s i).0

    valid : Valid s.limits (event_of k v)
    valid = found.0.valid s.limits refl (stood_bound true s.limits.mtu ys 0 k v c next b found.0)

    counts : Holds (count_ok (event_of k v) c)
    counts =
        let t = found.0 in
        (t.some, ⊎_elim (λ one. inl one) (λ tick. inr (omega (arith, (event_good s.limits.mtu 6 k v t.fields).0))) t.alone)

    -- the summary of its events, and the one with them
    abbrev more : Summary
    more = summary_of s.limits (replicate c (event_of k v))

    abbrev all : Summary
    all = joined s (summary_of s.limits (replicate c (event_of k v)))

    more_events : more.events ≡ c
    more_events = summary_events s.limits ok (replicate c (event_of k v)) ∙ length-replicate c (event_of k v)

    more_range : in_range more ≡ true
    more_range =
        let n = length-replicate c (event_of k v) in
        summary_range s.limits ok (replicate c (event_of k v)) (run_valid s.limits (event_of k v) valid c) (omega (arith, found.1))

    more_limits : s.limits ≡ more.limits
    more_limits = sym (summary_limits s.limits ok (replicate c (event_of k v)))

    fit : s.events + more.events ≤ most_events
    fit = omega (arith, found.1, more_events, (in_range_plain s i).1.0)

    joins : join_of s more ≡ Ok all
    joins = joins_few s more i more_range more_limits fit

    passed : passed_by s (Ok (Some (placed k v c next))) ≡ Summing all
    passed = ap (λ a. stage_of (join_next s a)) (counted_summed s.limits ok (event_of k v) valid c counts (omega (arith, found.1))) ∙ ap stage_of joins

    -- What stands behind it is joined onto the summary with its events.
    then : (r : Events) → read_from 9 s.limits.mtu (most_events - s.events - c) 0 (drop next ys) ≡ r →
        join_next s (summarized (under s.limits (ahead c (event_of k v) r))) ≡ join_next all (summarized (under s.limits r))
    then (faulty n) q = rw (ahead_behind c (event_of k v) (faulty n), behind_faulty (replicate c (event_of k v)) n)
    then (events es) q =
        let read = read_valid s.limits (most_events - s.events - c) (drop next ys) es (bytes_drop next ys b) q in
        let ticks = replicate c (event_of k v) in
        let long = length-replicate c (event_of k v) in
        let both = join_append s.limits ok ticks es (run_valid s.limits (event_of k v) valid c) read.0 (omega (arith, read.1, found.1)) in
        let range = summary_range s.limits ok es read.0 (omega (arith, read.1)) in
        let same = sym more_limits ∙ sym (summary_limits s.limits ok es) in
        rw (ahead_behind c (event_of k v) (events es), behind_events ticks es)
        (sym (rw (joins, both) at (join_associative s more (summary_of s.limits es) i more_range range more_limits same)))

    answers : with_items s ys ≡ with_items all (drop next ys)
    unfolding with_items events_of
    answers =
        let left = most_events - s.events - c in
        let whole : most_events - s.events ≡ c + (most_events - s.events - c) = omega (arith, found.1) in
        let same = joined_limits s more i more_range more_limits in
        let fewer : most_events - s.events - c ≡ most_events - all.events = omega (arith, joined_events s more i more_range more_limits, more_events) in
        ap (λ r. join_next s (summarized (under s.limits r))) (ap (λ n. read_from 9 s.limits.mtu n 0 ys) whole ∙ found.0.goes_on 9 left)
        ∙ then (read_from 9 s.limits.mtu left 0 (drop next ys)) refl
        ∙ ap (λ (l : Limits). join_next all (summarized (under l (read_from 9 l.mtu left 0 (drop next ys))))) (sym same)
        ∙ ap (λ n. join_next all (summarized (under all.limits (read_from 9 all.limits.mtu n 0 (drop next ys))))) fewer

    room : s.events < most_events
    room = omega (arith, found.0.some, found.1)

    fits : item_size ys ≤ length ys
    fits = omega (arith, size_there, found.0.fits)

    onto : (a : Answer) → Comes all (drop next ys) a → Comes s ys a
    onto (Ok x) w =
        λ p full z r. item_fed room fits (Ok (Some (placed k v c next))) e p full r
        ∙ ap (λ g. fed_of (beginning g none_held) (drop (item_size ys) ys ++ r)) passed
        ∙ ap (λ n. fed_of (beginning (Summing all) none_held) (drop n ys ++ r)) size_there
        ∙ w none_held refl (inl refl) r
    onto (Err f) w =
        λ p full. ap finish_of
        (item_fed_alone room fits (Ok (Some (placed k v c next))) e p full
        ∙ ap (λ g. fed_of (beginning g none_held) (drop (item_size ys) ys)) passed
        ∙ ap (λ m. fed_of (beginning (Summing all) none_held) (drop m ys)) size_there)
        ∙ w none_held refl

    stands_comes : Comes all (drop next ys) (with_items all (drop next ys)) → Comes s ys (with_items s ys)
    stands_comes w = rw answers (onto (with_items all (drop next ys)) w)

-- ---- all items

-- by what stands at their front, where fewer bytes come to it
one_comes : (s : Summary) (ys : List ℕ) (i : in_range s ≡ true) (b : Bytes ys) →
    ((t : Summary) (zs : List ℕ) → length zs < length ys → in_range t ≡ true → Bytes zs → Comes t zs (with_items t zs)) → Comes s ys (with_items s ys)
one_comes s ys i b rest = by (step s ys) refl
  where
    by : (t : Step) → step s ys ≡ t → Comes s ys (with_items s ys)
    by (Ok None) e = none_comes s ys i e
    by (Err f) e = fault_comes s ys f e
    by (Ok (Some j)) e =
        let t = (found s ys i b j.kind j.number j.count j.next e).0 in
        let fewer : length (drop j.next ys) < length ys = simp length-drop (omega (arith, t.further, t.fits)) in
        stands_comes s ys i b j.kind j.number j.count j.next e
        (rest (all s ys i b j.kind j.number j.count j.next e) (drop j.next ys) fewer
        (joined_range s _ i (more_range s ys i b j.kind j.number j.count j.next e) (more_limits s ys i b j.kind j.number j.count j.next e) (fit s ys i b j.kind j.number j.count j.next e))
        (bytes_drop j.next ys b))

-- the first argument is more than the bytes that are left
come_by : (fuel : ℕ) (s : Summary) (ys : List ℕ) → length ys < fuel → in_range s ≡ true → Bytes ys → Comes s ys (with_items s ys)
come_by zero s ys h i b = absurd (omega arith)
come_by (suc fuel) s ys h i b = one_comes s ys i b (λ t zs k. come_by fuel t zs (omega arith))

module _ (s : Summary) (ys : List ℕ) (i : in_range s ≡ true) (b : Bytes ys) where
  pub items_come : Comes s ys (with_items s ys)
  items_come = come_by (suc (length ys)) s ys (omega arith) i b

  finish_by : (a : Answer) → Comes s ys a → finish_of (fed_of (beginning (Summing s) none_held) ys) ≡ a
  unfolding fed_of
  finish_by (Ok x) w =
      ap finish_of (ap (fed_of (beginning (Summing s) none_held)) (sym (append-nil ys)) ∙ w none_held refl (inl refl) []) ∙ finish_whole (beginning (Summing x) none_held) x refl refl
  finish_by (Err f) w = w none_held refl

  -- Items fed behind a summary come to it joined with theirs, or to their earliest fault.
  pub items_finish : finish_of (fed_of (beginning (Summing s) none_held) ys) ≡ with_items s ys
  items_finish = finish_by (with_items s ys) items_come

-- What is fed one by one behind items that were summed at once leaves what the whole chunk leaves.
pub at_once_fed : (s : Summary) (p xs : List ℕ) (front : Front) (all : Summary) → AtOnce s xs front → front.answer ≡ Ok all → in_range s ≡ true → length p ≡ 14 → Bytes xs →
    fed_of (beginning (Summing all) none_held) (drop front.end xs) ≡ fed_of (beginning (Summing s) p) xs
at_once_fed s p xs front all a e i full b =
    let n = front.end in
    let w : Comes s (take n xs) (Ok all) = rw (sym a.same ∙ e) at (items_come s (take n xs) i (bytes_take n xs b)) in
    sym (w p full (inr (omega (arith, length-take-le n xs a.within, a.some))) (drop n xs))
    ∙ ap (fed_of (beginning (Summing s) p)) (take-append-drop n xs)
