-- The answer of a stretch, row by row, in the order in which the code asks.
-- Assumes nothing.
use Prim.Native.Nat.{ℕ, zero, suc, ◌*◌, ◌≤◌, ◌<◌}
use mathlib.Core.Bool.{Bool, true, false, not, ◌||◌, cond, true≢false}
use mathlib.Core.List.{List, [], ◌∷◌}
use mathlib.Core.Path.{◌≡◌, refl, sym, ap, ◌∙◌}
use native.Mathlib.Omega.{arith}
use borrow.Author.Tests.{lt-ltb, le-ltb, ltb-false, le-leb, lt-leb, leb-true, leb-false}
use lib.Dec.{leb, ltb, eqb}
use lib.ListN.{length}
use Rattle.decide.specs.Refusal.{Fault, fault, First, nothing, row, earlier, first, number_of, first_of}
use Rattle.decide.specs.Test.{test, passes, or_r}
use Rattle.decide.proofs.Cases.{by_cases, true_or_false, of_each}
use Rattle.decide.proofs.Given.{in_order_lem}
use Rattle.wire.specs.Wire.{le}
use Rattle.shaper.specs.declared.Limits.{Limits}
use Rattle.shaper.specs.Limits.{limits_ok, most_events}
use Rattle.summary.specs.declared.Summary.{Summary}
use Rattle.summary.specs.Summary.{empty_of}
use Rattle.summary.specs.Answer.{Answer, answered, join_of}
use Rattle.std.specs.Prelude.{Ok, Err}
use Rattle.decide.specs.declared.refusal.Refusal.{Refusal}
use Rattle.decide.specs.Number.{number_in, refusal_of}
use Rattle.decide.proofs.Number.{number_told}
use Rattle.record.specs.Read.{Events, faulty, events, limits_at, header_faults}
use Rattle.record.specs.Step.{headed, header_of_of}
use Rattle.record.proofs.Steps.{header_stands}
use Rattle.excerpt.specs.Excerpt.{read_part}
use Rattle.index.specs.Tree.{entry_length, top_level}
use Rattle.index.specs.Entry.{summary_in, place_in}
use Rattle.stretch.specs.declared.Found.{Found}
use Rattle.stretch.specs.declared.Found.TheVariants.{Nothing, Faulty, Outside, Sum}
use Rattle.stretch.specs.Found.{Source, source_of, joined_found, and_found, entry_ok, entry_found, part_summed, part_found, found_in}
use Rattle.stretch.specs.Stretch.{length_ok, belongs, events_counted, found_of, part_fault, has_fault, is_outside, summary_found, later, stretched, stretch_of, is_header, found_answer, asked_of}
use Rattle.stretch.proofs.Rows.{by_halves, found_apart, found_whole, found_part, found_both}
use Rattle.stretch.proofs.PartSplit.{part_number}

-- ---- the rows in the order in which they are asked

-- of two rows the one of the lower rank may stand first
earlier_swap : (x y : Fault) (z : First) → y.rank < x.rank → earlier x (earlier y z) ≡ earlier y (earlier x z)
earlier_swap x y nothing h = rw (lt-leb x.rank y.rank h, le-leb y.rank x.rank (omega arith))
earlier_swap x y (row g) h =
    by_cases (true_or_false (leb y.rank g.rank))
    (λ p. by_cases (true_or_false (leb x.rank g.rank))
    (λ r. rw (p, r) (rw (lt-leb x.rank y.rank h, le-leb y.rank x.rank (omega arith))))
    (λ r. rw (p, r) (rw (lt-leb x.rank y.rank h, p))))
    (λ p. by_cases (true_or_false (leb x.rank g.rank))
    (λ r. absurd (omega (arith, leb-false y.rank g.rank p, leb-true x.rank g.rank r)))
    (λ r. rw (p, r) (rw p)))

swap : (x y : Fault) (gs : List Fault) → y.rank < x.rank → first (x ∷ y ∷ gs) ≡ first (y ∷ x ∷ gs)
unfolding first
swap x y gs h = by x.applies y.applies
  where
    by : (a b : Bool) → cond a (earlier x (cond b (earlier y (first gs)) (first gs))) (cond b (earlier y (first gs)) (first gs)) ≡ cond b (earlier y (cond a (earlier x (first gs)) (first gs))) (cond a (earlier x (first gs)) (first gs))
    by true true = earlier_swap x y (first gs) h
    by true false = refl
    by false true = refl
    by false false = refl

behind : (r : Fault) (fs gs : List Fault) → first fs ≡ first gs → first (r ∷ fs) ≡ first (r ∷ gs)
unfolding first
behind r fs gs e = rw e

-- 2 for the header, or what stands behind
abbrev two_or : Bool → Bool → Bool → ℕ → ℕ
two_or a b c n = cond a 2 (cond b 2 (cond c 2 n))

number_chained : (a b c d e f g h i j : Bool) (n : ℕ) →
    first_of (fault 2 a ∷ fault 2 b ∷ fault 2 c ∷ fault 1 d ∷ fault 2 e ∷ fault 2 f ∷ fault 9 g ∷ later 1 3 h ∷ later 2 n i ∷ later 3 3 j ∷ [])
    ≡ two_or a b c (cond e 2 (cond f 2 (cond d 1 (cond g 9 (cond h 3 (cond i n (cond j 3 0)))))))
unfolding first_of
number_chained a b c d e f g h i j n =
    ap number_of (behind (fault 2 a) _ _ (behind (fault 2 b) _ _ (behind (fault 2 c) _ _ (swap (fault 1 d) (fault 2 e) _ (omega arith) ∙ behind (fault 2 e) _ _ (swap (fault 1 d) (fault 2 f) _ (omega arith))))))
    ∙ in_order_lem (fault 2 a ∷ fault 2 b ∷ fault 2 c ∷ fault 2 e ∷ fault 2 f ∷ fault 1 d ∷ fault 9 g ∷ later 1 3 h ∷ later 2 n i ∷ later 3 3 j ∷ []) refl

-- ---- the header

module _ (xs : List ℕ) where
  header_is : header_of_of xs ≡ headed (two_or (ltb (length xs) 14) (not (eqb (le 2 xs 0) 14)) (not (eqb (le 2 xs 2) 16)) (cond (not (test (limits_ok (limits_at xs)))) 1 0)) xs
  unfolding header_of_of
  header_is = ap (λ n. headed n xs) (in_order_lem (header_faults xs) refl)

  -- no header is 2, whatever stands behind
  two_first : (a b c d : Bool) → is_header (headed (two_or a b c (cond d 1 0)) xs) ≡ false → (n : ℕ) → two_or a b c n ≡ 2
  unfolding is_header
  two_first true b c d e n = refl
  two_first false true c d e n = refl
  two_first false false true d e n = refl
  two_first false false false true e n = absurd (true≢false e)
  two_first false false false false e n = absurd (true≢false e)

  -- and a header is none
  two_none : (a b c d : Bool) → is_header (headed (two_or a b c (cond d 1 0)) xs) ≡ true → (a ≡ false) × (b ≡ false) × (c ≡ false)
  unfolding is_header
  two_none true b c d e = absurd (true≢false (sym e))
  two_none false true c d e = absurd (true≢false (sym e))
  two_none false false true d e = absurd (true≢false (sym e))
  two_none false false false d e = (refl, refl, refl)

  -- where it has a fault, that is 1
  one_then : (d : Bool) (r : Refusal) → headed (cond d 1 0) xs ≡ Err r → (d ≡ true) × (refusal_of 1 ≡ r)
  one_then true r e = (refl, cc)
  one_then false r e = let z : ◌≡◌ {A = ℕ} 0 1 = cc in absurd (omega arith)

  module _ (head : is_header (header_of_of xs) ≡ true) where
    abbrev lefts : (ltb (length xs) 14 ≡ false) × (not (eqb (le 2 xs 0) 14) ≡ false) × (not (eqb (le 2 xs 2) 16) ≡ false)
    lefts = two_none (ltb (length xs) 14) (not (eqb (le 2 xs 0) 14)) (not (eqb (le 2 xs 2) 16)) (not (test (limits_ok (limits_at xs)))) (rw header_is at head)

    pub header_long : 14 ≤ length xs
    header_long = ltb-false (length xs) 14 lefts.0

    header_one : (r : Refusal) → header_of_of xs ≡ Err r → (not (test (limits_ok (limits_at xs))) ≡ true) × (refusal_of 1 ≡ r)
    header_one r e = one_then (not (test (limits_ok (limits_at xs)))) r (rw (lefts.0, lefts.1, lefts.2) at (sym header_is ∙ e))

-- ---- a fault that is found is named by its number

abbrev pub Numbered : Found → Type 0
Numbered Nothing = Unit {0}
Numbered (Faulty r) = (0 < number_in r) × (refusal_of (number_in r) ≡ r)
Numbered Outside = Unit {0}
Numbered (Sum s) = Unit {0}

numbered_joined : (x : Answer) → Numbered (joined_found x)
numbered_joined (Ok s) = tt
numbered_joined (Err r) = tt

numbered_and : (f g : Found) → Numbered f → Numbered g → Numbered (and_found f g)
unfolding and_found
numbered_and Nothing g p r = r
numbered_and (Faulty i) g p r = p
numbered_and Outside Nothing p r = tt
numbered_and Outside (Faulty i) p r = r
numbered_and Outside Outside p r = tt
numbered_and Outside (Sum b) p r = tt
numbered_and (Sum a) Nothing p r = tt
numbered_and (Sum a) (Faulty i) p r = r
numbered_and (Sum a) Outside p r = tt
numbered_and (Sum a) (Sum b) p r = numbered_joined (join_of a b)

numbered_entry : (q : Source) (entry covers : ℕ) → Numbered (entry_found q entry covers)
unfolding entry_found
numbered_entry q entry covers =
    of_each Numbered (entry_ok covers (summary_in q.limits q.index (entry_length * entry))) (Sum (summary_in q.limits q.index (entry_length * entry))) Outside (λ e. tt) (λ e. tt)

numbered_part : (q : Source) (x skipped count : ℕ) → Numbered (part_found q x skipped count)
unfolding part_found
numbered_part q x skipped count = by (read_part q.limits.mtu count q.bytes (place_in q.index (80 * x))) refl
  where
    by : (r : Events) → read_part q.limits.mtu count q.bytes (place_in q.index (80 * x)) ≡ r → Numbered (part_summed q.limits skipped (read_part q.limits.mtu count q.bytes (place_in q.index (80 * x))))
    by (faulty n) e =
        let told = number_told n in
        rw e (omega (arith, part_number q.limits.mtu q.bytes count n (place_in q.index (80 * x)) e, told), ap refusal_of told)
    by (events es) e = rw e tt

numbered_in : (q : Source) (first last k x : ℕ) → Numbered (found_in q first last k x)
numbered_in q first last =
    by_halves q.events first last (λ k x. Numbered (found_in q first last k x))
    (λ k x a. rw (found_apart q first last k x a) tt)
    (λ k x a w. rw (found_whole q first last k x a w) (numbered_entry q _ _))
    (λ x a w. rw (found_part q first last x a w) (numbered_part q x _ _))
    (λ k x a w f g. rw (found_both q first last k x a w) (numbered_and _ _ f g))

pub numbered_stretched : (q : Source) (first last : ℕ) → Numbered (stretched q first last)
unfolding stretched
numbered_stretched q first last = of_each Numbered (leb last first) Nothing (found_in q first last top_level 0) (λ e. tt) (λ e. numbered_in q first last top_level 0)

numbered_of : (xs ix : List ℕ) (first last : ℕ) → Numbered (found_of xs ix first last)
unfolding found_of
numbered_of xs ix first last = numbered_stretched (source_of (limits_at xs) xs ix (events_counted xs ix)) first last

-- so its number is answered by it
pub answered_named : (s : Summary) (r : Refusal) → (0 < number_in r) × (refusal_of (number_in r) ≡ r) → answered (number_in r) s ≡ Err r
answered_named s r p = by (number_in r) refl
  where
    by : (m : ℕ) → number_in r ≡ m → answered m s ≡ Err r
    by zero e = absurd (omega (arith, p.0))
    by (suc m) e = ap Err (ap refusal_of (sym e) ∙ p.1)

-- ---- what is asked where 2, 1 and 9 do not apply

module _ (l : Limits) (xs ix : List ℕ) (n first last : ℕ) where
  pub asked_backwards : last < first → asked_of l xs ix n first last ≡ Err (refusal_of 3)
  unfolding asked_of
  asked_backwards h = rw (lt-ltb last first h)

  pub asked_past : n < last → asked_of l xs ix n first last ≡ Err (refusal_of 3)
  unfolding asked_of
  asked_past h = rw (or_r (ltb last first) (ltb n last) (lt-ltb n last h))

  pub asked_found : first < last → last ≤ n → asked_of l xs ix n first last ≡ found_answer l (found_in (source_of l xs ix n) first last top_level 0)
  unfolding asked_of stretched
  asked_found h k = rw (le-ltb last first (omega arith), le-ltb n last k, lt-leb last first h)

  -- an empty stretch is the empty summary
  pub asked_empty : first ≡ last → last ≤ n → asked_of l xs ix n first last ≡ Ok (empty_of l)
  unfolding asked_of stretched
  asked_empty e k = rw (le-ltb last first (omega arith), le-ltb n last k, le-leb last first (omega arith))

-- what is found is answered: a fault, an entry out of range, or the summary
found_answer_lem : (l : Limits) (f : Found) → Numbered f → answered (cond (has_fault f) (part_fault f) (cond (is_outside f) 3 0)) (summary_found l f) ≡ found_answer l f
found_answer_lem l Nothing p = refl
found_answer_lem l (Faulty r) p = answered_named (empty_of l) r p
found_answer_lem l Outside p = refl
found_answer_lem l (Sum s) p = refl

-- ---- the answer, in the order in which it is asked

module _ (xs ix : List ℕ) (first last : ℕ) where
  abbrev outside : Bool
  outside = ltb last first || ltb (events_counted xs ix) last

  abbrev found : Found
  found = found_of xs ix first last

  stretch_is : stretch_of xs ix first last
      ≡ answered
      (two_or (ltb (length xs) 14) (not (eqb (le 2 xs 0) 14)) (not (eqb (le 2 xs 2) 16))
      (cond (not (length_ok (length ix))) 2
      (cond (not (belongs xs ix)) 2
      (cond (not (test (limits_ok (limits_at xs)))) 1
      (cond (ltb most_events (events_counted xs ix)) 9 (cond outside 3 (cond (has_fault found) (part_fault found) (cond (is_outside found) 3 0))))))))
      (summary_found (limits_at xs) found)
  unfolding stretch_of
  stretch_is =
      ap (λ n. answered n (summary_found (limits_at xs) found))
      (number_chained (ltb (length xs) 14) (not (eqb (le 2 xs 0) 14)) (not (eqb (le 2 xs 2) 16)) (not (test (limits_ok (limits_at xs)))) (not (length_ok (length ix))) (not (belongs xs ix))
      (ltb most_events (events_counted xs ix)) outside (has_fault found) (is_outside found) (part_fault found))

  asked_is : asked_of (limits_at xs) xs ix (events_counted xs ix) first last ≡ cond outside (Err (refusal_of 3)) (found_answer (limits_at xs) found)
  unfolding asked_of found_of
  asked_is = refl

  -- 2: no header
  pub stretch_headless : is_header (header_of_of xs) ≡ false → stretch_of xs ix first last ≡ Err (refusal_of 2)
  stretch_headless e =
      stretch_is
      ∙ ap (λ n. answered n (summary_found (limits_at xs) found))
      (two_first xs (ltb (length xs) 14) (not (eqb (le 2 xs 0) 14)) (not (eqb (le 2 xs 2) 16)) (not (test (limits_ok (limits_at xs)))) (rw (header_is xs) at e) _)

  module _ (head : is_header (header_of_of xs) ≡ true) where
    behind_header : stretch_of xs ix first last
        ≡ answered
        (cond (not (length_ok (length ix))) 2
        (cond (not (belongs xs ix)) 2
        (cond (not (test (limits_ok (limits_at xs)))) 1
        (cond (ltb most_events (events_counted xs ix)) 9 (cond outside 3 (cond (has_fault found) (part_fault found) (cond (is_outside found) 3 0)))))))
        (summary_found (limits_at xs) found)
    behind_header = let f = lefts xs head in stretch_is ∙ rw (f.0, f.1, f.2)

    -- 2: an index of another length
    pub stretch_length : length_ok (length ix) ≡ false → stretch_of xs ix first last ≡ Err (refusal_of 2)
    stretch_length e = behind_header ∙ rw e

    module _ (long : length_ok (length ix) ≡ true) where
      -- 2: of another record
      pub stretch_other : belongs xs ix ≡ false → stretch_of xs ix first last ≡ Err (refusal_of 2)
      stretch_other e = behind_header ∙ rw (long, e)

      module _ (own : belongs xs ix ≡ true) where
        -- 1: the settings
        pub stretch_settings : (r : Refusal) → header_of_of xs ≡ Err r → stretch_of xs ix first last ≡ Err r
        stretch_settings r e = let o = header_one xs head r e in behind_header ∙ rw (long, own, o.0) (ap Err o.1)

        module _ (l : Limits) (set : header_of_of xs ≡ Ok l) where
          settled : not (test (limits_ok (limits_at xs))) ≡ false
          settled = let h = header_stands xs l set in ap not (passes (limits_ok (limits_at xs)) (rw h.settings at h.in_range_lem))

          -- 9: too many events
          pub stretch_many : ltb most_events (events_counted xs ix) ≡ true → stretch_of xs ix first last ≡ Err (refusal_of 9)
          stretch_many e = behind_header ∙ rw (long, own, settled, e)

          -- else what is asked
          pub stretch_asked : ltb most_events (events_counted xs ix) ≡ false → stretch_of xs ix first last ≡ asked_of l xs ix (events_counted xs ix) first last
          stretch_asked e =
              behind_header
              ∙ rw (long, own, settled, e) (by outside refl)
              ∙ ap (λ (k : Limits). asked_of k xs ix (events_counted xs ix) first last) (sym (header_stands xs l set).settings)
            where
              by : (b : Bool) → outside ≡ b → answered (cond outside 3 (cond (has_fault found) (part_fault found) (cond (is_outside found) 3 0))) (summary_found (limits_at xs) found)
                  ≡ asked_of (limits_at xs) xs ix (events_counted xs ix) first last
              by true o = rw o (sym (asked_is ∙ rw o))
              by false o = rw o (found_answer_lem (limits_at xs) found (numbered_of xs ix first last) ∙ sym (asked_is ∙ rw o))
