-- A part that grows by an event, applied to a tally, is that tally's step; so parts that are made on their own and then applied one behind the other are
-- the tally of all their events. Assumes nothing.
use Prim.Native.Nat.{ℕ, zero, suc, ◌+◌, ◌-◌, ◌*◌, ◌/◌, ◌≤◌, ◌<◌, min, max}
use mathlib.Core.Bool.{Bool, true, false, cond, ◌&&◌}
use mathlib.Core.List.{List}
use mathlib.Core.Logic.{inl, inr}
use mathlib.Core.Path.{◌≡◌, refl, ap, ◌∙◌}
use native.Mathlib.Numerals.{add-one}
use native.Mathlib.Omega.{arith}
use borrow.Author.Tests.{ne_eqb}
use lib.Dec.{eqb, leb}
use lib.ListN.{length, get_or, set}
use lib.Seq.{get_or-set_same, get_or-set_other}
use mir.Val.{bool_byte}
use Rattle.decide.specs.Test.{Holds, split, both, ◌≡?◌}
use Rattle.decide.proofs.Cases.{by_cases, le_or}
use Rattle.shaper.specs.declared.Limits.{Limits}
use Rattle.shaper.specs.Limits.{limits_ok, most_amount, most_events}
use Rattle.tally.specs.declared.Tally.{Tally}
use Rattle.tally.specs.declared.Part.{Part}
use Rattle.tally.specs.declared.Parts.{Parts}
use Rattle.tally.specs.Tally.{Within, start_of, pick_of, fall_of, bar_of, step_of}
use Rattle.tally.specs.Part.{room, unsent, none_part, grow_of, Roomy, PartWithin, applied_to, applied_by, total_of, good_of, Steady, PartsFit, lane_of, over_of, Lanes}
use Rattle.tally.proofs.Cases.{pick_tick, fall_max, bar_never, bar_level, low_counted}

-- ---- bounds, whatever the events hold

pub none_within : (rise : ℕ) → PartWithin rise 0 (none_part rise)
none_within rise = record { total_max = omega arith; level_min = omega arith; level_max = omega arith; top_max = omega arith; low_max = omega arith; even = omega arith }

pub within_roomy : (rise n : ℕ) (p : Part) → n < 8 → rise ≤ 1048576 → PartWithin rise n p → Roomy rise p
within_roomy rise n p h hr w = omega arith

grown_low : (send : Bool) (x y : ℕ) → cond send (min x y) y ≤ y
grown_low true x y = omega arith
grown_low false x y = omega arith

pub grown_within : (rise : ℕ) (send idle : Bool) (v : ℕ) (good : Bool) (n : ℕ) (p : Part) → n < 8 → rise ≤ 1048576 → v ≤ most_amount → PartWithin rise n p →
    PartWithin rise (n + 1) (grow_of rise send idle v good p)
grown_within rise true idle v good n p h hr hv w =
    let low = grown_low true (bar_of p.level p.top p.level) p.low in
    record { total_max = omega arith; level_min = omega arith; level_max = omega arith; top_max = omega arith; low_max = omega arith; even = omega arith }
grown_within rise false idle v good n p h hr hv w =
    record { total_max = omega arith; level_min = omega arith; level_max = omega arith; top_max = omega arith; low_max = omega arith; even = omega arith }

-- ---- equal field by field

tally_eq : (t u : Tally) → t.accrued ≡ u.accrued → t.level ≡ u.level → t.peak ≡ u.peak → t.low ≡ u.low → t ≡ u
tally_eq t u a l p w = λ i. record { accrued = a i; level = l i; peak = p i; low = w i }

-- ---- a part of no event leaves a steady tally as it is

pub applied_none : (rise : ℕ) (t : Tally) → rise ≤ 1048576 → rise + room ≤ t.level → t.level ≤ t.peak → Steady rise t → applied_to rise t (none_part rise) ≡ t
applied_none rise t hr h g s = tally_eq _ _ (omega arith) (omega arith) (omega arith) low
  where
    low : min (bar_of (t.level + unsent) (t.peak + room) (t.level + unsent - (rise + room))) t.low ≡ t.low
    low =
        by_cases (le_or (t.level + unsent) (t.peak + room))
        (λ k. rw (bar_never (t.level + unsent) (t.peak + room) _ k) (by_cases s.peak_near (λ z. omega arith) (λ z. absurd (omega arith))))
        (λ k. rw (bar_level (t.level + unsent) (t.peak + room) _ k) (omega (arith, s.low_near)))

-- ---- a part that grows is a step

none_less : (x y : ℕ) → min 0 x ≡ min y (min 0 x)
none_less x y = omega arith

beyond : (b l x : ℕ) → b ≤ l → l + x - b ≡ l - b + x
beyond b l x h = omega arith

least_of : (b x y z : ℕ) → min (b + min x y) z ≡ min (b + x) (min (b + y) z)
least_of b x y z = omega arith

-- the least of three levels, two of them as a part has them
least_level : (b l x y z : ℕ) → b ≤ l → min (l + min x y - b) z ≡ min (l + x - b) (min (l + y - b) z)
least_level b l x y z h = rw (beyond b l (min x y) h, beyond b l x h, beyond b l y h) (least_of (l - b) x y z)

most_of : (b x y z : ℕ) → max z (b + max x y) ≡ max (max z (b + x)) (b + y)
most_of b x y z = omega arith

-- the most of three, two of them as a part has them
most_level : (b l x y z : ℕ) → b ≤ l → max z (l + max x y - b) ≡ max (max z (l + x - b)) (l + y - b)
most_level b l x y z h = rw (beyond b l (max x y) h, beyond b l x h, beyond b l y h) (most_of (l - b) x y z)

-- the level and its own cut behind a send, and behind a tick
fallen : (l x v rise : ℕ) → room ≤ l → rise + v ≤ x → l + (x - v - rise) - room ≡ l + x - (rise + room) - v
fallen l x v rise h g = omega arith

risen : (l x v rise cut fall : ℕ) → rise + room ≤ l → rise ≤ x → cut + fall ≡ rise → l + (x + v - cut) - room ≡ l + x - (rise + room) + v + fall
risen l x v rise cut fall h g e = omega arith

-- what a send, and what a tick, adds to accrued
gained_none : (a b x v total : ℕ) → v ≤ x → a + (total + v + (x - v) - b) / 2 ≡ a + (total + x - b) / 2
gained_none a b x v total h = let e : total + v + (x - v) ≡ total + x = omega arith in rw e refl

gained_all : (a b x v total : ℕ) → b ≤ total + x → a + (total + v + (x + v) - b) / 2 ≡ a + (total + x - b) / 2 + v
gained_all a b x v total h = omega arith

falls : (idle : Bool) (rise : ℕ) → cond idle 0 rise + cond idle rise 0 ≡ rise
falls true rise = omega arith
falls false rise = omega arith

module _ (rise v : ℕ) (t : Tally) (p : Part) (h : rise + room ≤ t.level) (g : t.level ≤ t.peak) where
  -- the tally before the event
  abbrev after : Tally
  after = applied_to rise t p

  module _ (lo : rise + room ≤ t.level + p.level) (up : after.level ≤ after.peak) where
    -- what the part's low is held against
    abbrev held : ℕ → ℕ
    held low = bar_of (t.level + low) (t.peak + room) (t.level + low - (rise + room))

    late : (low : ℕ) → t.level + low ≤ t.peak + room → held low ≡ 0
    late low k = bar_never (t.level + low) (t.peak + room) _ k

    early : (low : ℕ) → t.peak + room < t.level + low → held low ≡ t.level + low - (rise + room)
    early low k = bar_level (t.level + low) (t.peak + room) _ k

    send_low : min (held (min (bar_of p.level p.top p.level) p.low)) t.low ≡ min (bar_of rise (after.peak - after.level) after.level) after.low
    send_low =
        by_cases (le_or p.level p.top)
        (λ k. let b = bar_never rise (after.peak - after.level) after.level (omega arith) in
        let q : min (bar_of p.level p.top p.level) p.low ≡ 0 = rw (bar_never p.level p.top p.level k) (omega arith) in
        rw (q, b, late 0 (omega arith)) (omega arith))
        (λ k. let q = bar_level p.level p.top p.level k in
        by_cases (le_or (t.level + p.level) (t.peak + room))
        (λ m. let b = bar_never rise (after.peak - after.level) after.level (omega arith) in
        rw (q, b, late (min p.level p.low) (omega arith)) (omega arith))
        (λ m. let b = bar_level rise (after.peak - after.level) after.level (omega arith) in
        by_cases (le_or (t.level + p.low) (t.peak + room))
        (λ n. rw (q, b, late p.low n, late (min p.level p.low) (omega arith)) (none_less t.low after.level))
        (λ n. rw (q, b, early p.low n, early (min p.level p.low) (omega arith)) (least_level (rise + room) t.level p.level p.low t.low h))))

  -- the law that binds a part: what an event adds to it is what the event's step adds to the tally
  pub applied_grown : (k : ℕ) (good : Bool) (n : ℕ) → n < 8 → rise ≤ 1048576 → v ≤ most_amount → PartWithin rise n p → after.level ≤ after.peak →
      applied_to rise t (grow_of rise (eqb k 3) (eqb k 2) v good p) ≡ step_of rise k v after
  unfolding pick_of fall_of
  applied_grown k good n few hr hv w up =
      let room-left = within_roomy rise n p few hr w in
      by_cases (split (k ≡? 3))
      (λ e. rw e
      (tally_eq _ _ (gained_none t.accrued (rise + room) p.level v p.total (omega (arith, room-left))) (levelled (omega (arith, room-left)))
      (most_level room t.level p.top (p.level - v - rise) t.peak (omega arith)
      ∙ ap (λ (y : ℕ). max after.peak y) (fallen t.level p.level v rise (omega arith) (omega (arith, room-left)) ∙ omega arith))
      (send_low (omega arith) up)))
      (λ e. rw (ne_eqb k 3 e)
      (tally_eq _ _ (gained_all t.accrued (rise + room) p.level v p.total (omega (arith, w.level_min))) (omega arith)
      (most_level room t.level p.top (p.level + v - cond (eqb k 2) 0 rise) t.peak (omega arith)
      ∙ ap (λ (y : ℕ). max after.peak y) (risen t.level p.level v rise (cond (eqb k 2) 0 rise) (cond (eqb k 2) rise 0) h (omega (arith, room-left)) (falls (eqb k 2) rise)))
      refl))
    where
      levelled : v ≤ p.level → t.level + (p.level - v) - (rise + room) ≡ t.level + p.level - (rise + room) - v
      levelled q = omega arith

-- ---- a tally stays steady

pub start_steady : (l : Limits) → Holds (limits_ok l) → (rise : ℕ) → Steady rise (start_of l.lo)
start_steady l ok rise = record { low_near = omega arith; peak_near = inr (omega arith) }

module _ (rise k v : ℕ) (t : Tally) (hv : k ≡ 3 → v ≤ most_amount) (h : v ≤ t.level) (g : t.level ≤ t.peak) (s : Steady rise t) where
  send_steady : k ≡ 3 → Steady rise (step_of rise k v t)
  unfolding pick_of fall_of
  send_steady e =
      let small = hv e in
      by_cases (le_or rise (t.peak - t.level))
      (λ m. let b = bar_never rise (t.peak - t.level) t.level m in
      rw (e, b) (record { low_near = omega arith; peak_near = inl (omega arith) }))
      (λ m. let b = bar_level rise (t.peak - t.level) t.level m in
      rw (e, b) (record { low_near = omega arith; peak_near = inr (omega arith) }))

  tick_steady : (k ≡ 3 → ⊥) → Steady rise (step_of rise k v t)
  tick_steady e =
      let f = fall_max k rise in
      let a = pick_tick k (t.level - v) (t.level + v) e in
      let c = pick_tick k (min (bar_of rise (t.peak - t.level) t.level) t.low) t.low e in
      record { low_near = omega (arith, s.low_near); peak_near = by_cases s.peak_near (λ z. inl (omega arith)) (λ z. inr (omega arith)) }

  pub step_steady : Steady rise (step_of rise k v t)
  step_steady = by_cases (split (k ≡? 3)) send_steady tick_steady

-- ---- part behind part

-- n parts are applied: what the chain over them keeps
pub record Gone (rise : ℕ) (t : Tally) (ps : ℕ → Part) (n b peak low late : ℕ) : Type 0 where
  pub level_is : (applied_by rise t ps n).level ≡ b + (rise + room)
  pub peak_is : (applied_by rise t ps n).peak ≡ peak + rise
  pub low_is : (applied_by rise t ps n).low ≡ bar_of 1 late low

module _ (rise : ℕ) (t : Tally) (ps : ℕ → Part) where
  pub gone_none : rise + room ≤ t.level → rise ≤ t.peak → Gone rise t ps 0 (t.level - (rise + room)) (t.peak - rise) t.low 0
  unfolding applied_by bar_of
  gone_none h g = record { level_is = omega arith; peak_is = omega arith; low_is = refl }

  module _ (n b peak low late : ℕ) (g : Gone rise t ps n b peak low late) (fits : rise + room ≤ b + (ps n).level) where
    abbrev so_far : Tally
    so_far = applied_by rise t ps n

    more_low : bar_of (so_far.level + (ps n).low) (so_far.peak + room) (so_far.level + (ps n).low - (rise + room)) ≡ bar_of (b + (ps n).low) peak (b + (ps n).low)
    more_low =
        by_cases (le_or (b + (ps n).low) peak)
        (λ h. rw (bar_never (so_far.level + (ps n).low) (so_far.peak + room) _ (omega (arith, g.level_is, g.peak_is)), bar_never (b + (ps n).low) peak _ h) refl)
        (λ h. rw (bar_level (so_far.level + (ps n).low) (so_far.peak + room) _ (omega (arith, g.level_is, g.peak_is)), bar_level (b + (ps n).low) peak _ h) (omega (arith, g.level_is)))

    pub gone_more : Gone rise t ps (n + 1) (b + (ps n).level - (rise + room)) (max peak (b + (ps n).top)) (min (b + (ps n).low) low) (late + bool_byte (leb (b + (ps n).low) peak))
    unfolding applied_by
    gone_more =
        rw (add-one n)
        (record { level_is = omega (arith, g.level_is); peak_is = omega (arith, g.level_is, g.peak_is); low_is = rw (g.low_is, more_low) (low_counted (b + (ps n).low) peak late low) })

-- ---- parts of a row, side by side

module _ (rise : ℕ) (t : Tally) (q : Parts) (ps : ℕ → Part) (l : Lanes rise q ps 8) where
  -- the lanes tell of level, peak and low what the parts do
  same_levels : (n : ℕ) → n ≤ 8 →
      ((applied_by rise t (lane_of q) n).level ≡ (applied_by rise t ps n).level)
      × ((applied_by rise t (lane_of q) n).peak ≡ (applied_by rise t ps n).peak)
      × ((applied_by rise t (lane_of q) n).low ≡ (applied_by rise t ps n).low)
  unfolding applied_by
  same_levels zero h = (refl, refl, refl)
  same_levels (suc n) h =
      let was = same_levels n (omega arith) in
      rw (was.0, was.1, was.2, l.levels n h, l.tops n h, l.lows n h) (refl, refl, refl)

  -- each number goes onto the level or off it, and what goes on is accrued
  halves : rise + room + 524280 * 8 ≤ t.level → (n : ℕ) → n ≤ 8 →
      (t.level ≤ (applied_by rise t ps n).level + 524280 * n)
      × (t.accrued ≤ (applied_by rise t ps n).accrued)
      × (2 * (applied_by rise t ps n).accrued + t.level ≡ 2 * t.accrued + total_of ps n + (applied_by rise t ps n).level)
  unfolding applied_by total_of
  halves h zero few = (omega arith, omega arith, omega arith)
  halves h (suc n) few = let was = halves h n (omega arith) in let w = l.within n few in (omega arith, omega arith, omega (arith, w.even))

  -- the tally over parts of a row is that after each of them
  pub over_applied : rise ≤ 1048576 → Within most_events t → over_of rise t q ≡ applied_by rise t ps 8
  over_applied hr w =
      let same = same_levels 8 (omega arith) in
      let half = halves (omega arith) 8 (omega arith) in
      tally_eq _ _ (omega (arith, same.0, half.1, half.2, l.total)) same.0 same.1 same.2

-- parts of a row fit
pub lanes_fit : (rise : ℕ) (q : Parts) (ps : ℕ → Part) → rise ≤ 1048576 → Lanes rise q ps 8 → PartsFit q
lanes_fit rise q ps hr l =
    record {
      levels = λ j h. omega (arith, l.levels j h, l.within j h);
      tops = λ j h. omega (arith, l.tops j h, l.within j h);
      lows = λ j h. omega (arith, l.lows j h, l.within j h);
    }

-- ---- parts side by side, one more at a time

pub lanes_none : (rise : ℕ) (q : Parts) (ps : ℕ → Part) → q.total ≡ 0 → q.good ≡ true → Lanes rise q ps 0
unfolding total_of good_of
lanes_none rise q ps e g =
    record {
      levels = λ j h. absurd (omega arith);
      tops = λ j h. absurd (omega arith);
      lows = λ j h. absurd (omega arith);
      total = e;
      within = λ j h. absurd (omega arith);
      good = g;
    }

-- a number written behind the first n
written_more : (f : ℕ → ℕ) (l : List ℕ) (n x : ℕ) → length l ≡ 8 → n < 8 → x ≡ f n → ((j : ℕ) → j < n → get_or l j 0 ≡ f j) →
    (j : ℕ) → j < n + 1 → get_or (set l n x) j 0 ≡ f j
written_more f l n x e h z g j k =
    by_cases (split (j ≡? n))
    (λ s. rw s (get_or-set_same l n x 0 (omega arith) ∙ z))
    (λ s. get_or-set_other l n j x 0 s ∙ g j (omega arith))

-- what holds of the first n, and of the next
of_more : (P : ℕ → Type 0) (n : ℕ) → ((j : ℕ) → j < n → P j) → P n → (j : ℕ) → j < n + 1 → P j
of_more P n g z j k = by_cases (split (j ≡? n)) (λ s. rw s z) (λ s. g j (omega arith))

-- where none has a fault, each has none
pub all_good : (ps : ℕ → Part) (n : ℕ) → good_of ps n ≡ true → (j : ℕ) → j < n → (ps j).good ≡ true
unfolding good_of
all_good ps zero g j h = absurd (omega arith)
all_good ps (suc n) g j h =
    let each = both (good_of ps n) (ps n).good g in
    by_cases (split (j ≡? n)) (λ s. rw s each.1) (λ s. all_good ps n each.0 j (omega arith))

pub lanes_more : (rise : ℕ) (q : Parts) (ps : ℕ → Part) (n : ℕ) (p : Part) → Lanes rise q ps n → n < 8 → length q.levels ≡ 8 → length q.tops ≡ 8 → length q.lows ≡ 8 →
    p ≡ ps n → PartWithin rise 8 (ps n) →
    Lanes rise
    (record {
      levels = set q.levels n p.level;
      tops = set q.tops n p.top;
      lows = set q.lows n p.low;
      total = q.total + p.total;
      good = q.good && p.good;
    })
    ps (n + 1)
unfolding total_of good_of
lanes_more rise q ps n p l h a b c e w =
    record {
      levels = written_more (λ j. (ps j).level) q.levels n p.level a h (ap (λ (x : Part). x.level) e) l.levels;
      tops = written_more (λ j. (ps j).top) q.tops n p.top b h (ap (λ (x : Part). x.top) e) l.tops;
      lows = written_more (λ j. (ps j).low) q.lows n p.low c h (ap (λ (x : Part). x.low) e) l.lows;
      total = rw (add-one n, e, l.total) refl;
      within = of_more (λ j. PartWithin rise 8 (ps j)) n l.within w;
      good = rw (add-one n, e, l.good) refl;
    }
