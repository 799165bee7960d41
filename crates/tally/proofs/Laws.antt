-- A step is the join with one event's summary, since peak is level + depth: what a tick adds to the level is what a join takes off the depth. And it
-- keeps the bounds, whatever the event holds. Assumes nothing.
use Prim.Native.Nat.{ℕ, ◌+◌, ◌-◌, ◌*◌, ◌≤◌, ◌<◌, min, max}
use mathlib.Core.List.{List, []}
use mathlib.Core.Logic.{◌⊎◌, inl, inr}
use mathlib.Core.Path.{◌≡◌, refl, sym, ap, subst, ◌∙◌}
use native.Mathlib.Omega.{arith}
use Rattle.decide.specs.Test.{Holds, split, ◌≡?◌}
use Rattle.decide.proofs.Cases.{by_cases}
use Rattle.shaper.specs.declared.Limits.{Limits}
use Rattle.shaper.specs.declared.Event.{Event}
use Rattle.shaper.specs.declared.Event.TheVariants.{Waiting, Idle, Send}
use Rattle.shaper.specs.Limits.{limits_ok, most_amount, most_events}
use Rattle.shaper.specs.Credit.{Valid, AllValid}
use Rattle.shaper.specs.Kind.{kind_of, number_of}
use Rattle.plain.specs.declared.Plain.{Plain}
use Rattle.plain.specs.Plain.{plain_empty, plain_ticks, plain_single, plain_depth, plain_joined, plain_of}
use Rattle.plain.specs.Range.{Sound, Same}
use Rattle.plain.proofs.Laws.{need_is, plain_eq, joined_sound, joined_assoc, empty_left, empty_right}
use Rattle.plain.proofs.Meaning.{plain_limits, alike, plain_sound}
use Rattle.tally.specs.declared.Tally.{Tally}
use Rattle.tally.specs.Tally.{base, start_of, pick_of, fall_of, bar_of, step_of, plain_at, Within, Ready}
use Rattle.tally.proofs.Cases.{pick_send, pick_tick, fall_max, bar_never, bar_level}

-- ---- bounds, whatever the events hold

pub start_within : (lo : ℕ) → Within 0 (start_of lo)
start_within lo = omega arith

-- the bounds of few events are within those of more
pub within_more : (m n : ℕ) (t : Tally) → m ≤ n → Within m t → Within n t
within_more m n t h w = omega arith

-- a step for c events
pub step_within_lem : (rise k v n c : ℕ) (t : Tally) → Within n t → rise ≤ 1048576 → v ≤ most_amount * c → Within (n + c) (step_of rise k v t)
step_within_lem rise k v n c t w hr hv =
    let f = fall_max k rise in
    by_cases (split (k ≡? 3))
    (λ h. let a = pick_send k t.accrued (t.accrued + v) h in
    let b = pick_send k (t.level - v) (t.level + v) h in
    omega arith)
    (λ h. let a = pick_tick k t.accrued (t.accrued + v) h in
    let b = pick_tick k (t.level - v) (t.level + v) h in
    omega arith)

-- ---- a step is a join: the numbers

-- a tick's need is 0, and leaves need as it is
keep_need : (hi need depth sent accrued x : ℕ) → need ≤ hi + 1 → (hi < need) ⊎ ((depth ≤ hi) × (sent ≤ need + accrued)) →
    ((hi < 0 + depth) × (x ≡ hi + 1)) ⊎ ((0 + depth ≤ hi) × (x ≡ min (max need (0 + sent - accrued)) (hi + 1))) → x ≡ need
keep_need hi need depth sent accrued x h (inl u) (inl e) = omega arith
keep_need hi need depth sent accrued x h (inl u) (inr e) = omega arith
keep_need hi need depth sent accrued x h (inr u) (inl e) = omega arith
keep_need hi need depth sent accrued x h (inr u) (inr e) = omega arith

module _ (a L v : ℕ) where
  tick_sent : a + v + base - (L + v) ≡ a + base - L + 0
  tick_sent = omega arith

  send_sent : L ≤ base + a → v ≤ L → a + base - (L - v) ≡ a + base - L + v
  send_sent h g = omega arith

module _ (p L v : ℕ) (h : L ≤ p) where
  tick_depth : (f : ℕ) → max p (L + v + f) - (L + v) ≡ max (p - L + 0 - v) f
  tick_depth f = omega arith

  send_depth : v ≤ L → max p (L - v + 0) - (L - v) ≡ max (p - L + v - 0) v
  send_depth g = let e : max p (L - v + 0) ≡ p = omega arith in rw e (omega arith)

owed : (lo a L : ℕ) → L ≤ base + a → lo + 1 + (a + base - L) - a ≡ base + lo + 1 - L
owed lo a L h = omega arith

less_min : (b x y : ℕ) → b - min x y ≡ max (b - y) (b - x)
less_min b x y = omega arith

cut_max : (x y h : ℕ) → min (max x y) h ≡ min (max (min x h) y) h
cut_max x y h = omega arith

above : (lo hi d : ℕ) → lo + 1 + d ≤ hi → d < hi - lo
above lo hi d h = omega arith

-- where the ceiling is at most loLimit, no credit permits a send
never_need : (lo hi d L low x : ℕ) → hi ≤ 1048576 → hi < lo + 1 + d → x ≡ hi + 1 → min (base + lo + 1 - min (bar_of (hi - lo) d L) low) (hi + 1) ≡ x
never_need lo hi d L low x h g e = let b = bar_never (hi - lo) d L (omega arith) in omega arith

-- elsewhere it asks for loLimit + 1 after what was gained
some_need : (lo hi a d L low x : ℕ) → L ≤ base + a → lo + 1 + d ≤ hi → x ≡ min (max (min (base + lo + 1 - low) (hi + 1)) (lo + 1 + (a + base - L) - a)) (hi + 1) →
    min (base + lo + 1 - min (bar_of (hi - lo) d L) low) (hi + 1) ≡ x
some_need lo hi a d L low x w g e =
    ap (λ (y : ℕ). min (base + lo + 1 - min y low) (hi + 1)) (bar_level (hi - lo) d L (above lo hi d g))
    ∙ ap (λ (y : ℕ). min y (hi + 1)) (less_min (base + lo + 1) L low)
    ∙ cut_max (base + lo + 1 - low) (base + lo + 1 - L) (hi + 1)
    ∙ ap (λ (y : ℕ). min (max (min (base + lo + 1 - low) (hi + 1)) y) (hi + 1)) (sym (owed lo a L w))
    ∙ sym e

-- ---- a step is a join

module _ (l : Limits) (n : ℕ) (t : Tally) (p : Ready l n t) (v : ℕ) where
  -- c ticks whose own cut lies f below hiLimit, v what they bring in all
  pub tick_step : (f c : ℕ) →
      plain_at l (n + c) (record { accrued = t.accrued + v; level = t.level + v; peak = max t.peak (t.level + v + f); low = t.low })
      ≡ plain_joined (plain_at l n t) (plain_ticks l f c v)
  unfolding plain_depth
  tick_step f c =
      plain_eq _ _ refl refl refl (tick_sent t.accrued t.level v) (tick_depth t.peak t.level v p.within.peak_min f)
      (sym (keep_need l.hi _ _ _ _ _ (omega arith) p.sound.1.1 (need_is (plain_at l n t) (plain_ticks l f c v))))

  send_step : v ≤ most_amount → plain_at l (n + 1) (step_of (l.hi - l.lo) 3 v t) ≡ plain_joined (plain_at l n t) (plain_single l (Send v))
  unfolding plain_depth pick_of fall_of
  send_step hv =
      let w = p.within in
      let g : v ≤ t.level = omega (arith, w.level_min, p.few) in
      plain_eq _ _ refl refl (omega arith) (send_sent t.accrued t.level v w.level_max g) (send_depth t.peak t.level v w.peak_min g)
      (by_cases (need_is (plain_at l n t) (plain_single l (Send v)))
      (λ h. never_need l.lo l.hi _ _ _ _ (omega arith) h.0 h.1)
      (λ h. some_need l.lo l.hi t.accrued _ _ _ _ w.level_max h.0 h.1))

-- no number of an event is above 65,535
pub number_max : (l : Limits) → Holds (limits_ok l) → (e : Event) → Valid l e → number_of e ≤ most_amount
number_max l ok (Waiting x) v = v
number_max l ok (Idle x) v = v
number_max l ok (Send z) v = omega arith

module _ (l : Limits) (n : ℕ) (t : Tally) (p : Ready l n t) where
  -- Join of 1 then 2, where 2 is one event.
  pub step_joined : (e : Event) → Valid l e → plain_at l (n + 1) (step_of (l.hi - l.lo) (kind_of e) (number_of e) t) ≡ plain_joined (plain_at l n t) (plain_single l e)
  unfolding pick_of fall_of
  step_joined (Waiting x) v = tick_step l n t p x 0 1
  step_joined (Idle x) v = tick_step l n t p x (l.hi - l.lo) 1
  step_joined (Send z) v = send_step l n t p z (number_max l p.sound.0 (Send z) v)

-- ---- a walk goes on

-- a step of kind k by v stands for c events, whose summary is s
module _ (l : Limits) (n : ℕ) (t : Tally) (p : Ready l n t) (k v c : ℕ) (s : Plain) (sound : Sound s) (settings : s.limits ≡ l)
    (joins : plain_at l (n + c) (step_of (l.hi - l.lo) k v t) ≡ plain_joined (plain_at l n t) s) where
  same_behind : Same (plain_at l n t) s
  same_behind = alike l (plain_at l n t) s refl settings

  pub more_ready : v ≤ most_amount * c → n + c ≤ most_events → Ready l (n + c) (step_of (l.hi - l.lo) k v t)
  more_ready hv h =
      record {
        few = h;
        within = step_within_lem (l.hi - l.lo) k v n c t p.within (rise_max p.sound.0) hv;
        sound = subst (λ (q : Plain). Sound q) (sym joins) (joined_sound (plain_at l n t) s p.sound sound same_behind);
      }
    where
      rise_max : Holds (limits_ok l) → l.hi - l.lo ≤ 1048576
      rise_max ok = omega arith

  -- they go over from what is left to what is tallied, and the summary of the whole stays
  pub more_rest : (es : List Event) → AllValid l es →
      plain_joined (plain_at l n t) (plain_joined s (plain_of l es)) ≡ plain_joined (plain_at l (n + c) (step_of (l.hi - l.lo) k v t)) (plain_of l es)
  more_rest es a =
      sym
      (joined_assoc (plain_at l n t) s (plain_of l es) p.sound sound (plain_sound l p.sound.0 es a) same_behind
      (alike l s (plain_of l es) settings (plain_limits l es)))
      ∙ ap (λ (q : Plain). plain_joined q (plain_of l es)) (sym joins)

-- ---- the beginning and the end

pub start_empty : (l : Limits) → plain_at l 0 (start_of l.lo) ≡ plain_empty l
start_empty l = plain_eq _ _ refl refl refl refl refl (omega arith)

pub start_ready : (l : Limits) → Holds (limits_ok l) → Ready l 0 (start_of l.lo)
start_ready l ok =
    record {
      few = omega arith;
      within = start_within l.lo;
      sound = subst (λ (s : Plain). Sound s) (sym (start_empty l)) (plain_sound l ok [] tt);
    }

-- before the first event all is left,
pub start_rest : (l : Limits) → Holds (limits_ok l) → (es : List Event) → AllValid l es → plain_joined (plain_at l 0 (start_of l.lo)) (plain_of l es) ≡ plain_of l es
start_rest l ok es a =
    ap (λ (s : Plain). plain_joined s (plain_of l es)) (start_empty l)
    ∙ (rw (plain_limits l es) at (empty_left (plain_of l es) (plain_sound l ok es a)))

-- and after the last none
pub end_rest : (l : Limits) (n : ℕ) (t : Tally) → Ready l n t → plain_joined (plain_at l n t) (plain_of l []) ≡ plain_at l n t
end_rest l n t p = empty_right (plain_at l n t) p.sound
