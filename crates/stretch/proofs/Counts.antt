-- How many events a record has by its index, and where an entry stands in it.
-- Assumes nothing.
use Prim.Native.Nat.{ℕ, ◌+◌, ◌-◌, ◌*◌, ◌%◌, ◌≤◌, ◌<◌}
use mathlib.Core.Bool.{true, false, ◌&&◌, true≢false}
use mathlib.Core.List.{List}
use mathlib.Core.Logic.{◌⊎◌, inl, inr}
use mathlib.Core.Path.{◌≡◌, refl, sym, ◌∙◌}
use native.Mathlib.Omega.{arith}
use borrow.Author.Tests.{le-leb, lt-leb, leb-true, lt-ltb, le-ltb, eq-eqb, ne_eqb, eqb-true, eqb-false}
use lib.Dec.{leb, ltb, eqb}
use lib.ListN.{length}
use Rattle.decide.specs.Test.{both, and_i}
use Rattle.decide.proofs.Cases.{by_cases, le_or, true_or_false}
use Rattle.wire.specs.Wire.{Bytes}
use Rattle.wire.proofs.Numbers.{le_bound}
use Rattle.shaper.specs.Limits.{most_events}
use Rattle.index.specs.Tree.{blocks_of, index_length}
use Rattle.index.specs.Entry.{place_in}
use Rattle.index.proofs.Nodes.{blocks_hold}
use Rattle.std.specs.Prelude.{Option, Some, None, Ok, Err}
use Rattle.decide.specs.declared.refusal.Refusal.{Refusal}
use Rattle.decide.specs.Number.{refusal_of}
use Rattle.stretch.specs.Stretch.{Counted, length_ok, last_block, last_place, last_events, belongs, events_counted, counted_of}

-- ---- both ends of a stretch

pub both_ends : (a b c d : ℕ) → (eqb a b && eqb c d) ≡ true → (a ≡ b) × (c ≡ d)
both_ends a b c d e = let t = both (eqb a b) (eqb c d) e in (eqb-true a b t.0, eqb-true c d t.1)

pub an_end_off : (a b c d : ℕ) → (eqb a b && eqb c d) ≡ false → b ≤ a → c ≤ d → (b < a) ⊎ (c < d)
an_end_off a b c d e l r =
    by_cases (le_or a b)
    (λ f. by_cases (le_or d c) (λ g. absurd (true≢false (sym (and_i (eqb a b) (eqb c d) (eq-eqb a b (omega arith)) (eq-eqb c d (omega arith))) ∙ e))) (λ g. inr g))
    (λ f. inl f)

-- ---- entries

-- block x of an index of n events, and the entry that parts before it, lie in the index
pub entry_there : (m n x : ℕ) → m ≡ index_length n → 256 * x < n → 80 * x + 40 ≤ m
unfolding index_length
entry_there m n x e h = let b = blocks_hold n in let f : m ≡ 80 * blocks_of n - 40 = rw (ne_eqb n 0 (λ z. omega arith)) at e in omega arith

-- ---- how many events

-- a right length: none, or 40 over
pub length_some : (m : ℕ) → length_ok m ≡ true → (m ≡ 0 → ⊥) → m % 80 ≡ 40
unfolding length_ok
length_some m e some = eqb-true (m % 80) 40 (rw (ne_eqb m 0 some) at e)

-- a place in an index is of numbers of 4 bytes
pub place_bound : (ix : List ℕ) (at : ℕ) → Bytes ix → ((place_in ix at).at < 4294967296) × ((place_in ix at).gone < 4294967296)
unfolding place_in
place_bound ix at b = (le_bound 4 ix (at + 4) b, le_bound 4 ix (at + 8) b)

module _ (xs ix : List ℕ) where
  -- ---- of no block
  module _ (none : length ix ≡ 0) where
    pub counted_longer : 14 < length xs → counted_of xs ix ≡ Err (refusal_of 2)
    unfolding counted_of belongs
    counted_longer h = rw (eq-eqb (length ix) 0 none, lt-leb (length xs) 14 h)

    pub counted_none : length xs ≤ 14 → counted_of xs ix ≡ Ok (Some 0)
    unfolding counted_of belongs events_counted
    counted_none h = rw (eq-eqb (length ix) 0 none, le-leb (length xs) 14 h)

  -- ---- of some
  module _ (some : length ix ≡ 0 → ⊥) where
    abbrev far : ℕ
    far = (last_place ix).at + 6 * (last_place ix).gone

    belongs_some : belongs xs ix ≡ (leb 1 (last_events xs ix) && (leb (last_events xs ix) 256 && leb far (14 + 6 * (256 * last_block ix))))
    unfolding belongs
    belongs_some = rw (ne_eqb (length ix) 0 some)

    pub counted_few : last_events xs ix ≡ 0 → counted_of xs ix ≡ Err (refusal_of 2)
    unfolding counted_of
    counted_few h = rw (belongs_some, h)

    pub counted_past : 256 < last_events xs ix → counted_of xs ix ≡ Err (refusal_of 2)
    unfolding counted_of
    counted_past h = rw (belongs_some, le-leb 1 (last_events xs ix) (omega arith), lt-leb (last_events xs ix) 256 h)

    module _ (one : 1 ≤ last_events xs ix) (most : last_events xs ix ≤ 256) where
      pub counted_far : 14 + 6 * (256 * last_block ix) < far → counted_of xs ix ≡ Err (refusal_of 2)
      unfolding counted_of
      counted_far h = rw (belongs_some, le-leb 1 (last_events xs ix) one, le-leb (last_events xs ix) 256 most, lt-leb far (14 + 6 * (256 * last_block ix)) h)

      module _ (near : far ≤ 14 + 6 * (256 * last_block ix)) where
        counted_all : events_counted xs ix ≡ 256 * last_block ix + last_events xs ix
        unfolding events_counted
        counted_all = rw (ne_eqb (length ix) 0 some)

        pub counted_many : most_events < 256 * last_block ix + last_events xs ix → counted_of xs ix ≡ Ok None
        unfolding counted_of
        counted_many h =
            rw (belongs_some, le-leb 1 (last_events xs ix) one, le-leb (last_events xs ix) 256 most, le-leb far (14 + 6 * (256 * last_block ix)) near, counted_all, lt-ltb most_events (256 * last_block ix + last_events xs ix) h)

        pub counted_events : 256 * last_block ix + last_events xs ix ≤ most_events → counted_of xs ix ≡ Ok (Some (256 * last_block ix + last_events xs ix))
        unfolding counted_of
        counted_events h =
            rw (belongs_some, le-leb 1 (last_events xs ix) one, le-leb (last_events xs ix) 256 most, le-leb far (14 + 6 * (256 * last_block ix)) near, counted_all, le-ltb most_events (256 * last_block ix + last_events xs ix) h)

    belongs_facts : belongs xs ix ≡ true → (1 ≤ last_events xs ix) × (last_events xs ix ≤ 256)
    belongs_facts e =
        let a = both (leb 1 (last_events xs ix)) (leb (last_events xs ix) 256 && leb far (14 + 6 * (256 * last_block ix))) (sym belongs_some ∙ e) in
        let b = both (leb (last_events xs ix) 256) (leb far (14 + 6 * (256 * last_block ix))) a.1 in
        (leb-true 1 (last_events xs ix) a.0, leb-true (last_events xs ix) 256 b.0)

  -- ---- what a count says

  abbrev MeansCounted : Counted → Type 0
  MeansCounted (Ok (Some n)) = (belongs xs ix ≡ true) × (n ≡ events_counted xs ix) × (ltb most_events (events_counted xs ix) ≡ false)
  MeansCounted (Ok None) = (belongs xs ix ≡ true) × (ltb most_events (events_counted xs ix) ≡ true)
  MeansCounted (Err r) = (belongs xs ix ≡ false) × (refusal_of 2 ≡ r)

  means_counted : MeansCounted (counted_of xs ix)
  unfolding counted_of
  means_counted =
      by_cases (true_or_false (belongs xs ix))
      (λ b. by_cases (true_or_false (ltb most_events (events_counted xs ix))) (λ m. rw (b, m) (b, m)) (λ m. rw (b, m) (b, refl, m)))
      (λ b. rw b (b, refl))

  pub counted_says : (n : ℕ) → counted_of xs ix ≡ Ok (Some n) → (belongs xs ix ≡ true) × (n ≡ events_counted xs ix) × (ltb most_events (events_counted xs ix) ≡ false)
  counted_says n e = rw e at means_counted

  pub counted_too_many : counted_of xs ix ≡ Ok None → (belongs xs ix ≡ true) × (ltb most_events (events_counted xs ix) ≡ true)
  counted_too_many e = rw e at means_counted

  pub counted_other : (r : Refusal) → counted_of xs ix ≡ Err r → (belongs xs ix ≡ false) × (refusal_of 2 ≡ r)
  counted_other r e = rw e at means_counted

  pub counted_own : (o : Option ℕ) → counted_of xs ix ≡ Ok o → belongs xs ix ≡ true
  counted_own (Some n) e = (counted_says n e).0
  counted_own None e = (counted_too_many e).0

  -- the index of a record of so many events has that length
  pub length_right : length_ok (length ix) ≡ true → belongs xs ix ≡ true → length ix ≡ index_length (events_counted xs ix)
  unfolding index_length events_counted blocks_of
  length_right ok own =
      by_cases (true_or_false (eqb (length ix) 0))
      (λ z. rw z (eqb-true (length ix) 0 z))
      (λ z.
      let f = belongs_facts (eqb-false (length ix) 0 z) own in
      let r = length_some (length ix) ok (eqb-false (length ix) 0 z) in
      rw (z, ne_eqb (256 * last_block ix + last_events xs ix) 0 (λ o. omega arith)) (omega arith))
