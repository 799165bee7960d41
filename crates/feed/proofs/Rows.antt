-- What a byte does and what the end says, row by row: each by the stage, and by a test on what is held or counted.
-- Assumes nothing.
use Prim.Native.Nat.{ℕ, ◌+◌, ◌-◌, ◌≤◌, ◌<◌}
use mathlib.Core.Bool.{true, false, ◌&&◌}
use mathlib.Core.List.{List, [], ◌∷◌, ◌++◌}
use mathlib.Core.Path.{◌≡◌, refl, ap, ◌∙◌}
use native.Mathlib.Omega.{arith}
use borrow.Author.Tests.{le-leb, lt-leb, le-ltb, lt-ltb, leb-true, eq-eqb, ne_eqb, eqb-true}
use native.Mathlib.Numerals.{add-one}
use lib.Dec.{eqb, leb}
use lib.ListN.{length, get_or, set, take, drop, drop_of_length-le}
use lib.Seq.{drop-cons}
use Rattle.decide.specs.Test.{both}
use Rattle.decide.proofs.Cases.{of_each}
use Rattle.wire.proofs.Numbers.{le_append_left}
use Rattle.std.specs.Prelude.{Some, None, Ok, Err}
use Rattle.decide.specs.declared.refusal.Refusal.{Refusal}
use Rattle.decide.specs.Number.{refusal_of}
use Rattle.shaper.specs.declared.Limits.{Limits}
use Rattle.shaper.specs.Limits.{most_events}
use Rattle.shaper.specs.Kind.{event_of}
use Rattle.summary.specs.declared.Summary.{Summary}
use Rattle.summary.specs.Range.{in_range}
use Rattle.summary.specs.Answer.{empty_answer, counted_answer, join_next}
use Rattle.record.specs.Read.{is_run}
use Rattle.record.specs.Step.{placed, header_of_of, step_within}
use Rattle.feed.specs.declared.Stage.{Stage}
use Rattle.feed.specs.declared.Stage.TheVariants.{Heading, Summing, Stopped}
use Rattle.feed.specs.declared.Feed.{Feed}
use Rattle.feed.specs.Feed.{stage_of, item_size, next_stage, none_held, held_byte, stopped_at, fed_byte, fed_of, may_sum, ends_of, finish_of}

-- ---- how many bytes an item has

module _ (xs : List ℕ) where
  pub size_run : is_run xs ≡ true → item_size xs ≡ 10
  unfolding item_size
  size_run r = rw r

  pub size_event : is_run xs ≡ false → item_size xs ≡ 6
  unfolding item_size
  size_event r = rw r

  pub size_bounds : (6 ≤ item_size xs) × (item_size xs ≤ 10)
  unfolding item_size
  size_bounds = of_each (λ n. (6 ≤ n) × (n ≤ 10)) (is_run xs) 10 6 (λ r. omega arith) (λ r. omega arith)

pub size_within : (xs : List ℕ) (n : ℕ) → n ≡ item_size xs → (6 ≤ n) × (n ≤ 10)
size_within xs n e = rw e (size_bounds xs)

-- its first four bytes say so, whatever stands behind them
pub run_front : (q ys : List ℕ) → 4 ≤ length q → is_run (q ++ ys) ≡ is_run q
unfolding is_run
run_front q ys h = rw (le_append_left 2 q ys 2 (omega arith))

pub size_front : (q ys : List ℕ) → 4 ≤ length q → item_size (q ++ ys) ≡ item_size q
unfolding item_size
size_front q ys h = rw (run_front q ys h)

-- ---- items summed at once

pub may_sum_means : (s : Summary) (held n : ℕ) → may_sum s held n ≡ true → (held ≡ 0) × (10 ≤ n) × (in_range s ≡ true)
may_sum_means s held n e =
    let a = both (eqb held 0) (leb 10 n && in_range s) e in
    let b = both (leb 10 n) (in_range s) a.1 in
    (eqb-true held 0 a.0, leb-true 10 n b.0, b.1)

-- ---- what is held is whole

module _ (g : Stage) (xs : List ℕ) where
  pub next_settings : (l : Limits) → g ≡ Heading → header_of_of xs ≡ Ok l → next_stage g xs ≡ stage_of (empty_answer l)
  next_settings l p q = rw (p, q)

  pub next_unreadable : (r : Refusal) → g ≡ Heading → header_of_of xs ≡ Err r → next_stage g xs ≡ Stopped r
  next_unreadable r p q = rw (p, q)

  pub next_stopped : (r : Refusal) → g ≡ Stopped r → next_stage g xs ≡ Stopped r
  next_stopped r p = rw p

  module _ (s : Summary) (p : g ≡ Summing s) where
    pub next_stands : (k v c m : ℕ) → step_within (refusal_of 9) (most_events - s.events) s.limits.mtu (take (item_size xs) xs) 0 ≡ Ok (Some (placed k v c m)) →
        next_stage g xs ≡ stage_of (join_next s (counted_answer s.limits (event_of k v) c))
    next_stands k v c m q = rw (p, q)

    pub next_end : step_within (refusal_of 9) (most_events - s.events) s.limits.mtu (take (item_size xs) xs) 0 ≡ Ok None → next_stage g xs ≡ Summing s
    next_end q = rw (p, q)

    pub next_faulty : (r : Refusal) → step_within (refusal_of 9) (most_events - s.events) s.limits.mtu (take (item_size xs) xs) 0 ≡ Err r → next_stage g xs ≡ Stopped r
    next_faulty r q = rw (p, q)

-- ---- a byte more

module _ (size : ℕ) (f : Feed) (b : ℕ) where
  pub hold_more : f.held + 1 < size → held_byte size f b ≡ record { stage = f.stage; pending = set f.pending f.held b; held = f.held + 1 }
  unfolding held_byte
  hold_more h = rw (lt-ltb (f.held + 1) size h)

  pub hold_whole : size ≤ f.held + 1 →
      held_byte size f b ≡ record { stage = next_stage f.stage (set f.pending f.held b); pending = none_held; held = 0 }
  unfolding held_byte
  hold_whole h = rw (le-ltb (f.held + 1) size h)

module _ (f : Feed) (b : ℕ) where
  -- a header has 14 bytes
  pub byte_heading : f.stage ≡ Heading → fed_byte f b ≡ held_byte 14 f b
  unfolding fed_byte
  byte_heading p = rw p

  -- any byte after the millionth event gives 9
  pub byte_over : (s : Summary) → f.stage ≡ Summing s → most_events ≤ s.events → fed_byte f b ≡ stopped_at f (refusal_of 9)
  unfolding fed_byte
  byte_over s p h = rw (p, le-leb most_events s.events h)

  -- an item has 6 bytes or 10
  pub byte_item : (s : Summary) → f.stage ≡ Summing s → s.events < most_events → fed_byte f b ≡ held_byte (item_size f.pending) f b
  unfolding fed_byte
  byte_item s p h = rw (p, lt-leb most_events s.events h)

  -- a byte after a fault changes nothing
  pub byte_stopped : (r : Refusal) → f.stage ≡ Stopped r → fed_byte f b ≡ f
  unfolding fed_byte
  byte_stopped r p = rw p

-- ---- the end

module _ (f : Feed) where
  pub ends_heading : f.stage ≡ Heading → ends_of f ≡ false
  unfolding ends_of
  ends_heading p = rw p

  pub ends_summing : (s : Summary) → f.stage ≡ Summing s → ends_of f ≡ false
  unfolding ends_of
  ends_summing s p = rw p

  pub ends_stopped : (r : Refusal) → f.stage ≡ Stopped r → ends_of f ≡ true
  unfolding ends_of
  ends_stopped r p = rw p

  pub ends_going : ((r : Refusal) → f.stage ≡ Stopped r → ⊥) → ends_of f ≡ false
  ends_going none = by f.stage refl
    where
      by : (g : Stage) → f.stage ≡ g → ends_of f ≡ false
      by Heading p = ends_heading p
      by (Summing s) p = ends_summing s p
      by (Stopped r) p = absurd (none r p)

  pub finish_heading : f.stage ≡ Heading → finish_of f ≡ Err (refusal_of 2)
  unfolding finish_of
  finish_heading p = rw p

  pub finish_whole : (s : Summary) → f.stage ≡ Summing s → f.held ≡ 0 → finish_of f ≡ Ok s
  unfolding finish_of
  finish_whole s p h = rw (p, eq-eqb f.held 0 h)

  pub finish_cut : (s : Summary) → f.stage ≡ Summing s → 0 < f.held → finish_of f ≡ Err (refusal_of 2)
  unfolding finish_of
  finish_cut s p h = rw (p, ne_eqb f.held 0 (λ e. omega arith))

  pub finish_stopped : (r : Refusal) → f.stage ≡ Stopped r → finish_of f ≡ Err r
  unfolding finish_of
  finish_stopped r p = rw p

-- ---- bytes one after the other

module _ (f : Feed) (xs : List ℕ) (i : ℕ) where
  pub fed_next : i < length xs → fed_of f (drop i xs) ≡ fed_of (fed_byte f (get_or xs i 0)) (drop (i + 1) xs)
  unfolding fed_of
  fed_next h = rw (drop-cons xs i 0 h, add-one)

  pub fed_end : length xs ≤ i → fed_of f (drop i xs) ≡ f
  unfolding fed_of
  fed_end h = rw (drop_of_length-le xs h)

-- none after a fault changes anything
pub fed_stopped : (f : Feed) (r : Refusal) → f.stage ≡ Stopped r → (xs : List ℕ) → fed_of f xs ≡ f
unfolding fed_of
fed_stopped f r p [] = refl
fed_stopped f r p (x ∷ xs) = ap (λ g. fed_of g xs) (byte_stopped f x r p) ∙ fed_stopped f r p xs
