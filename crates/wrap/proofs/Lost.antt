-- An undelivered path takes all 2 × stations hops, or none. A frame that has moved came over a usable link, which lies behind it; so only at the start can both
-- links of its station be unusable. Assumes nothing.
use mathlib.Core.Path.{◌≡◌, sym, ap, ◌∙◌, subst}
use mathlib.Core.Bool.{true, false, true≢false}
use mathlib.Core.Logic.{◌⊎◌, inl, inr}
use Prim.Native.Nat.{ℕ, zero, suc, ◌<◌}
use native.Mathlib.Omega.{arith}
use lib.ListN.{length}
use Rattle.decide.proofs.Cases.{by_cases, true_or_false}
use Rattle.ring.specs.declared.Way.{Way}
use Rattle.ring.specs.declared.Way.TheVariants.{Left, Right}
use Rattle.ring.specs.Links.{usable, other_of, ahead_of}
use Rattle.ring.proofs.Around.{next_of_lt}
use Rattle.ring.proofs.Links.{both_ends}
use Rattle.wrap.specs.Walking.{Course, Ringlet, at_home, across, course_of}
use Rattle.wrap.proofs.Courses.{of_course, used_home, moves_home, turns_away, moves_opposite, stuck}

module _ (stations links target : ℕ) (home : Way) where
  abbrev course : ℕ → Ringlet → ℕ → Course
  course = course_of stations links target home

  -- a station with a usable link
  record Linked (at : ℕ) : Type 0 where
    station : at < stations
    way : Way
    link : ahead_of way stations links at ≡ true

  -- it halts no frame, unless no hop is left
  never_caught : (way side : Way) (at : ℕ) → ahead_of side stations links at ≡ true → ahead_of way stations links at ≡ false
      → ahead_of (other_of way) stations links at ≡ false → ⊥
  never_caught Left Left at e u v = true≢false (sym e ∙ u)
  never_caught Left Right at e u v = true≢false (sym e ∙ v)
  never_caught Right Left at e u v = true≢false (sym e ∙ v)
  never_caught Right Right at e u v = true≢false (sym e ∙ u)

  used_up : (left : ℕ) (on : Ringlet) (at : ℕ) → Linked at → (course left on at).delivered ≡ false → length (course left on at).links ≡ left
  used_up =
      of_course stations links target home Linked
      (λ way at s u.
      record {
        station = next_of_lt way stations at s.station;
        way = other_of way;
        link = ap (usable links) (sym (both_ends way stations at s.station)) ∙ u;
      })
      (λ left c. c.delivered ≡ false → length c.links ≡ left)
      (λ left at d s t f e. by_cases (f e) (λ z. sym z) (λ c. absurd (never_caught home s.way at s.link c.0 c.1)))
      (λ left k on at s u r e. ap suc (r e))

  -- From a station that is not the target, a delivered course uses a hop,
  pub delivered_hops : (left own : ℕ) → (own ≡ target → ⊥) → (course left at_home own).delivered ≡ true → 0 < length (course left at_home own).links
  delivered_hops zero own differ d = absurd (true≢false (sym d ∙ ap (λ (c : Course). c.delivered) (used_home stations links target home own differ)))
  delivered_hops (suc left) own differ d =
      by_cases (true_or_false (ahead_of home stations links own))
      (λ u. some (moves_home stations links target home left own differ u))
      (λ u. by_cases (true_or_false (ahead_of (other_of home) stations links own))
      (λ v. some (turns_away stations links target home left own differ u ∙ moves_opposite stations links target home left own v))
      (λ v. absurd (true≢false (sym d ∙ ap (λ (c : Course). c.delivered) (stuck stations links target home left own differ u v)))))
    where
      some : {c rest : Course} {k : ℕ} → c ≡ across k rest → 0 < length c.links
      some e = subst (λ (c : Course). 0 < length c.links) (sym e) (omega arith)

  -- and an undelivered one uses all its hops, or none.
  pub undelivered_hops : (left own : ℕ) → own < stations → (own ≡ target → ⊥) → (course left at_home own).delivered ≡ false
      → (length (course left at_home own).links ≡ 0) ⊎ (length (course left at_home own).links ≡ left)
  undelivered_hops zero own h differ e = inl (ap (λ (c : Course). length c.links) (used_home stations links target home own differ))
  undelivered_hops (suc left) own h differ e =
      by_cases (true_or_false (ahead_of home stations links own))
      (λ u. inr (used_up (suc left) at_home own (record { station = h; way = home; link = u }) e))
      (λ u. by_cases (true_or_false (ahead_of (other_of home) stations links own))
      (λ v. inr (used_up (suc left) at_home own (record { station = h; way = other_of home; link = v }) e))
      (λ v. inl (ap (λ (c : Course). length c.links) (stuck stations links target home left own differ u v))))
