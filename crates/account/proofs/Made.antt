-- Parts of a record's events: their bounds, and that the events of a good part are passed.
-- Assumes nothing.
use Rattle.std.proofs.Common.{◌≡◌, ℕ, zero, suc, ◌+◌, ◌-◌, ◌*◌, ◌<◌, ◌≤◌, Bool, true, eqb, List, length, refl, add-zero, add-one, arith, eq-eqb, ne_eqb}
use Rattle.decide.specs.Test.{test, both}
use Rattle.decide.proofs.Cases.{by_cases}
use Rattle.shaper.specs.declared.Limits.{Limits}
use Rattle.shaper.specs.Limits.{most_amount, most_events}
use Rattle.wire.specs.Wire.{le, Bytes}
use Rattle.wire.proofs.Numbers.{le_bound}
use Rattle.tally.specs.declared.Tally.{Tally}
use Rattle.tally.specs.declared.Part.{Part}
use Rattle.tally.specs.Tally.{Ready}
use Rattle.tally.specs.Part.{PartWithin, Steady, applied_to, applied_by}
use Rattle.tally.proofs.Applied.{none_within, grown_within, applied_none, applied_grown, step_steady}
use Rattle.record.specs.Read.{good}
use Rattle.record.proofs.Fields.{good_facts, kinds}
use Rattle.record.proofs.Steps.{GoodAt}
use Rattle.account.specs.Lanes.{part_after, part_of}
use Rattle.account.specs.Rest.{Passed}
use Rattle.account.proofs.Heads.{head_at}
use Rattle.account.proofs.Passed.{rise_max, passed_none, passed_one, passed_then}

-- ---- bounds

pub after_within : (rise mtu : ℕ) (xs : List ℕ) (at n : ℕ) (p : Part) → rise ≤ 1048576 → Bytes xs → n < 8 → PartWithin rise n p → PartWithin rise (n + 1) (part_after rise mtu xs at p)
after_within rise mtu xs at n p hr b h w =
    let bound = le_bound 2 xs (at + 4) b in
    grown_within rise (eqb (le 4 xs at) 196614) (eqb (le 4 xs at) 131078) (le 2 xs (at + 4)) (test (good mtu (le 2 xs at) (le 2 xs (at + 2)) (le 2 xs (at + 4)))) n p h hr (omega arith) w

pub part_within : (rise mtu : ℕ) (xs : List ℕ) (from n : ℕ) → rise ≤ 1048576 → Bytes xs → n ≤ 8 → PartWithin rise n (part_of rise mtu xs from n)
unfolding part_of
part_within rise mtu xs from zero hr b h = none_within rise
part_within rise mtu xs from (suc n) hr b h = rw (← add-one n) (after_within rise mtu xs (from + 6 * n) n (part_of rise mtu xs from n) hr b (omega arith) (part_within rise mtu xs from n hr b (omega arith)))

-- ---- events passed

module _ (runs : Bool) (l : Limits) (xs : List ℕ) (b : Bytes xs) where
  abbrev rise : ℕ
  rise = l.hi - l.lo

  abbrev made : ℕ → ℕ → Part
  made from n = part_of rise l.mtu xs from n

  -- a fault in one event of a part is a fault in the part
  good_before : (from n : ℕ) → (made from (suc n)).good ≡ true → ((made from n).good ≡ true) × GoodAt l.mtu xs (from + 6 * n)
  unfolding part_of
  good_before from n g =
      let at = from + 6 * n in
      let both-good = both (made from n).good (test (good l.mtu (le 2 xs at) (le 2 xs (at + 2)) (le 2 xs (at + 4)))) g in
      (both-good.0, good_facts l.mtu (le 2 xs at) (le 2 xs (at + 2)) (le 2 xs (at + 4)) both-good.1)

  -- the first four bytes of a good event tell its kind
  kind_by : (at : ℕ) → GoodAt l.mtu xs at → (eqb (le 4 xs at) 196614 ≡ eqb (le 2 xs (at + 2)) 3) × (eqb (le 4 xs at) 131078 ≡ eqb (le 2 xs (at + 2)) 2)
  kind_by at g =
      let head = head_at xs at b in
      let six = g.six in
      by_cases (kinds (le 2 xs (at + 2)) g.first g.last)
      (λ e. rw (ne_eqb (le 4 xs at) 196614 (omega arith), ne_eqb (le 4 xs at) 131078 (omega arith), e) (refl, refl))
      (λ f. by_cases f
      (λ e. rw (ne_eqb (le 4 xs at) 196614 (omega arith), eq-eqb (le 4 xs at) 131078 (omega arith), e) (refl, refl))
      (λ e. rw (eq-eqb (le 4 xs at) 196614 (omega arith), ne_eqb (le 4 xs at) 131078 (omega arith), e) (refl, refl)))

  module _ (from n : ℕ) (t : Tally) (p : Ready l n t) (s : Steady rise t) where
    pub part_passed : (m : ℕ) → m ≤ 8 → n + m ≤ most_events → from + 6 * m ≤ length xs → (made from m).good ≡ true →
        Passed runs l xs from n t m (from + 6 * m) (applied_to rise t (made from m)) × Steady rise (applied_to rise t (made from m))
    unfolding part_of
    part_passed zero h few room g =
        let hr = rise_max l n t p in
        let e = applied_none rise t hr (omega (arith, hr, p.within.level_min, p.few)) p.within.peak_min s in
        rw (e, add-zero) (passed_none runs l xs from n t p, s)
    part_passed (suc m) h few room g =
        let at = from + 6 * m in
        let k = le 2 xs (at + 2) in
        let v = le 2 xs (at + 4) in
        let before = good_before from m g in
        let was = part_passed m (omega arith) (omega arith) (omega arith) before.0 in
        let q = was.0.ready in
        let u = applied_to rise t (made from m) in
        let hr = rise_max l n t p in
        let hv : v ≤ most_amount = omega (arith, le_bound 2 xs (at + 4) b) in
        let one = passed_one runs l xs at (n + m) u q (omega arith) b (omega arith) before.1 in
        let kind = kind_by at before.1 in
        let e =
        applied_grown rise v t (made from m) (omega (arith, hr, p.within.level_min, p.few)) p.within.peak_min k
        (test (good l.mtu (le 2 xs at) k v)) m (omega arith) hr hv (part_within rise l.mtu xs from m hr b (omega arith)) q.within.peak_min in
        let more : suc m ≡ m + 1 = omega arith in
        let behind : from + 6 * (m + 1) ≡ at + 6 = omega arith in
        rw (kind.0, kind.1, e, more, behind) (passed_then runs l xs from n t m at u 1 (at + 6) _ was.0 one, step_steady rise k v u (λ e. hv) (omega (arith, q.within.level_min, q.few)) q.within.peak_min was.1)

  -- part behind part
  module _ (from n : ℕ) (t : Tally) (p : Ready l n t) (s : Steady rise t) where
    abbrev row : ℕ → Part
    row j = made (from + 48 * j) 8

    pub row_passed : (k : ℕ) → n + 8 * k ≤ most_events → from + 48 * k ≤ length xs → ((j : ℕ) → j < k → (row j).good ≡ true) →
        Passed runs l xs from n t (8 * k) (from + 48 * k) (applied_by rise t row k) × Steady rise (applied_by rise t row k)
    unfolding applied_by
    row_passed zero few room g = rw add-zero (passed_none runs l xs from n t p, s)
    row_passed (suc k) few room g =
        let was = row_passed k (omega arith) (omega arith) (λ j h. g j (omega arith)) in
        let at = from + 48 * k in
        let u = applied_by rise t row k in
        let one = part_passed at (n + 8 * k) u was.0.ready was.1 8 (omega arith) (omega arith) (omega arith) (g k (omega arith)) in
        let more : 8 * suc k ≡ 8 * k + 8 = omega arith in
        let behind : from + 48 * suc k ≡ at + 48 = omega arith in
        rw (more, behind) (passed_then runs l xs from n t (8 * k) at u 8 (at + 48) _ was.0 one.0, one.1)

-- in either form: what is passed holds no run
pub rows_passed : (l : Limits) (xs : List ℕ) (b : Bytes xs) (from n : ℕ) (t : Tally) (p : Ready l n t) (s : Steady (l.hi - l.lo) t) (k : ℕ) → n + 8 * k ≤ most_events →
    from + 48 * k ≤ length xs → ((j : ℕ) → j < k → (part_of (l.hi - l.lo) l.mtu xs (from + 48 * j) 8).good ≡ true) →
    ((runs : Bool) → Passed runs l xs from n t (8 * k) (from + 48 * k) (applied_by (l.hi - l.lo) t (λ j. part_of (l.hi - l.lo) l.mtu xs (from + 48 * j) 8) k))
    × Steady (l.hi - l.lo) (applied_by (l.hi - l.lo) t (λ j. part_of (l.hi - l.lo) l.mtu xs (from + 48 * j) 8) k)
rows_passed l xs b from n t p s k few room g =
    (λ runs. (row_passed runs l xs b from n t p s k few room g).0, (row_passed true l xs b from n t p s k few room g).1)
