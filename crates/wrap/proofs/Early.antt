-- A delivered path takes fewer than 2 × stations hops, so more hops would deliver no other frame. Where a frame stands, and on which ringlet, says how many hops it
-- has still to go; so it meets no station twice on one ringlet, and there are 2 × stations of such places. Assumes nothing.
use mathlib.Core.Path.{◌≡◌, refl, sym, ap, ◌∙◌, subst}
use mathlib.Core.Bool.{Bool, true, false, cond, true≢false}
use Prim.Native.Nat.{ℕ, zero, suc, ◌+◌, ◌-◌, ◌*◌, ◌≤◌, ◌<◌, zero-le, suc-le-suc}
use native.Mathlib.Omega.{arith}
use lib.Dec.{eqb, ltb}
use lib.ListN.{length}
use borrow.Author.Tests.{eqb-true, eq-eqb, ne_eqb, lt-ltb, le-ltb}
use Rattle.decide.proofs.Cases.{by_cases, le_or, true_or_false}
use Rattle.ring.specs.declared.Way.{Way}
use Rattle.ring.specs.Links.{other_of, next_of, ahead_of}
use Rattle.ring.proofs.Around.{next_of_lt}
use Rattle.wrap.specs.Walking.{Course, Ringlet, at_home, opposite, ended, across, course_of}
use Rattle.wrap.proofs.Courses.{delivered_there, of_course, short}

-- ---- no more numbers than places

-- a place below k that bears the number i
record Borne (f : ℕ → ℕ) (k i : ℕ) : Type 0 where
  place : ℕ
  below : place < k
  bears : f place ≡ i

-- the place that bears m bears what k does instead
abbrev instead : (ℕ → ℕ) → ℕ → ℕ → ℕ → ℕ
instead f k m v = cond (eqb (f v) m) (f k) (f v)

-- Where each number below m is borne by a place below k, m is at most k: the last place's number goes to the place of the last number, and both fall away.
fewer : (k m : ℕ) (f : ℕ → ℕ) → ((i : ℕ) → i < m → Borne f k i) → m ≤ k
fewer zero zero f b = zero-le
fewer zero (suc m) f b = let none = (b 0 (omega arith)).below in absurd (omega arith)
fewer (suc k) zero f b = zero-le
fewer (suc k) (suc m) f b = suc-le-suc (fewer k m (instead f k m) moved)
  where
    moved : (i : ℕ) → i < m → Borne (instead f k m) k i
    moved i l =
        let own = b i (omega arith) in
        let e = own.bears in
        let last = b m (omega arith) in
        let g = last.bears in
        by_cases (le_or (suc own.place) k)
        (λ q. record { place = own.place; below = q; bears = rw (ne_eqb (f own.place) m (λ z. omega arith)) e })
        (λ q. let same : f k ≡ i = ap f (let h = own.below in let p : k ≡ own.place = omega arith in p) ∙ e in
        record {
          place = last.place;
          below =
              by_cases (le_or (suc last.place) k)
              (λ p. p)
              (λ p. let twice : f k ≡ m = ap f (let h = last.below in let r : k ≡ last.place = omega arith in r) ∙ g in absurd (omega arith));
          bears = rw (eq-eqb (f last.place) m g) same;
        })

-- ---- the hops still to go

-- a course that another is too, where it is delivered and takes fewer than m hops
record Settles (m : ℕ) (c d : Course) : Type 0 where
  same : c.delivered ≡ true → length c.links < m → d ≡ c

no_more : {m : ℕ} {b : Bool} → Settles m (ended b) (ended b)
no_more = record { same = λ t l. refl }

one_more : {m k : ℕ} {c d : Course} → Settles m c d → Settles (suc m) (across k c) (across k d)
one_more {m} {k} s = record { same = λ t l. ap (across k) (s.same t (omega arith)) }

each : (b : Bool) {m : ℕ} {x y x' y' : Course} → Settles m x x' → Settles m y y' → Settles m (cond b x y) (cond b x' y')
each true p q = p
each false p q = q

module _ (stations links target : ℕ) (home : Way) where
  abbrev course : ℕ → Ringlet → ℕ → Course
  course = course_of stations links target home

  abbrev away : Way
  away = other_of home

  -- A delivered course is the same with any other number of hops left, if they are more than it takes.
  settled : (left m : ℕ) (on : Ringlet) (at : ℕ) → Settles m (course left on at) (course m on at)
  unfolding course_of
  settled left zero on at = record { same = λ t l. absurd (omega arith) }
  settled zero (suc m) at_home at =
      record { same = λ t l. delivered_there stations links target home (suc m) at (eqb-true at target t) ∙ ap ended (sym t) }
  settled zero (suc m) opposite at = record { same = λ t l. absurd (true≢false (sym t)) }
  settled (suc left) (suc m) at_home at =
      each (eqb at target) no_more
      (each (ahead_of home stations links at) (one_more (settled left m at_home (next_of home stations at)))
      (each (ahead_of away stations links at) (one_more (settled left m opposite (next_of away stations at))) no_more))
  settled (suc left) (suc m) opposite at =
      each (ahead_of away stations links at) (one_more (settled left m opposite (next_of away stations at)))
      (each (eqb at target) no_more
      (each (ahead_of home stations links at) (one_more (settled left m at_home (next_of home stations at))) no_more))

  -- ---- the places: each station on the home side, and then each on the opposite ringlet

  place_of : Ringlet → ℕ → ℕ
  place_of at_home at = at
  place_of opposite at = stations + at

  place_lt : (on : Ringlet) (at : ℕ) → at < stations → place_of on at < 2 * stations
  unfolding place_of
  place_lt at_home at h = omega arith
  place_lt opposite at h = omega arith

  -- of courses with so many hops left
  module _ (most : ℕ) where
    abbrev enough : ℕ
    enough = suc most

    -- the hops still to go from a place
    togo : ℕ → ℕ
    togo v = cond (ltb v stations) (length (course enough at_home v).links) (length (course enough opposite (v - stations)).links)

    togo_from : (on : Ringlet) (at : ℕ) → at < stations → togo (place_of on at) ≡ length (course enough on at).links
    unfolding place_of togo
    togo_from at_home at h = rw (lt-ltb at stations h)
    togo_from opposite at h =
        rw (le-ltb (stations + at) stations (omega arith))
        (ap (λ (x : ℕ). length (course enough opposite x).links) (let e : stations + at - stations ≡ at = omega arith in e))

    -- where a frame stands bears the hops that it has still to go
    stands : (left : ℕ) (on : Ringlet) (at : ℕ) → at < stations → (course left on at).delivered ≡ true → length (course left on at).links < enough
        → Borne togo (2 * stations) (length (course left on at).links)
    stands left on at h d l =
        record {
          place = place_of on at;
          below = place_lt on at h;
          bears = togo_from on at h ∙ ap (λ (c : Course). length c.links) ((settled left enough on at).same d l);
        }

    -- so do the places behind it: all the numbers up to a course's length are borne, if those below it are
    up_to : (left : ℕ) (on : Ringlet) (at : ℕ) → at < stations → (course left on at).delivered ≡ true → length (course left on at).links < enough
        → ((i : ℕ) → i < length (course left on at).links → Borne togo (2 * stations) i)
        → (i : ℕ) → i < suc (length (course left on at).links) → Borne togo (2 * stations) i
    up_to left on at h d l below i k =
        by_cases (le_or (suc i) (length (course left on at).links))
        (λ q. below i q)
        (λ q. subst (Borne togo (2 * stations)) (let e : length (course left on at).links ≡ i = omega arith in e) (stands left on at h d l))

    abbrev Passed : ℕ → Course → Type 0
    Passed left c = c.delivered ≡ true → length c.links < enough → (i : ℕ) → i < length c.links → Borne togo (2 * stations) i

    passed : (left : ℕ) (on : Ringlet) (at : ℕ) → at < stations → Passed left (course left on at)
    passed =
        of_course stations links target home (λ at. at < stations) (λ way at h u. next_of_lt way stations at h) Passed
        (λ left at d h t e f l i k. absurd (omega arith))
        (λ left link on at h u r d l. let m : length (course left on at).links < enough = omega arith in up_to left on at h d m (r d m))

    -- A delivered course takes fewer than 2 × stations hops, however many it may take.
    pub delivered_early : (own : ℕ) → own < stations → (course most at_home own).delivered ≡ true → length (course most at_home own).links < 2 * stations
    delivered_early own h d =
        let l = short stations links target home most at_home own in
        let m : length (course most at_home own).links < enough = omega arith in
        fewer (2 * stations) (suc (length (course most at_home own).links)) togo (up_to most at_home own h d m (passed most at_home own h d m))

  -- ---- more hops than 2 × stations

  module _ (more own : ℕ) (station : own < stations) (no-fewer : 2 * stations ≤ more) where
    -- a course that is delivered takes so few hops that more of them leave it as it is,
    pub same_course : (course (2 * stations) at_home own).delivered ≡ true → course more at_home own ≡ course (2 * stations) at_home own
    same_course d = let l = delivered_early (2 * stations) own station d in (settled (2 * stations) more at_home own).same d (omega arith)

    -- and so few that it needs no more of them:
    no_later : (course more at_home own).delivered ≡ true → course more at_home own ≡ course (2 * stations) at_home own
    no_later d = sym ((settled more (2 * stations) at_home own).same d (delivered_early more own station d))

    -- more hops deliver no other frame.
    pub more_hops : (course more at_home own).delivered ≡ (course (2 * stations) at_home own).delivered
    more_hops =
        by_cases (true_or_false (course more at_home own).delivered)
        (λ d. ap (λ (c : Course). c.delivered) (no_later d))
        (λ d. by_cases (true_or_false (course (2 * stations) at_home own).delivered)
        (λ e. ap (λ (c : Course). c.delivered) (same_course e))
        (λ e. d ∙ sym e))

  -- One hop more than 2 × stations delivers no other frame. So it cannot be seen whether delivery or the hop limit is tested first, on either ringlet: a frame
  -- that another order would deliver just as its last hop is used is delivered with a hop more.
  pub one_hop_more : (own : ℕ) → own < stations → (course (2 * stations + 1) at_home own).delivered ≡ (course (2 * stations) at_home own).delivered
  one_hop_more own h = more_hops (2 * stations + 1) own h (omega arith)
