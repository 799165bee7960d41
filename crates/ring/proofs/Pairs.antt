-- By default both ends of a pair use the same links. Seen from its other end a way has the same links, reversed, and the same hops, so a side reaches from
-- one end exactly if the other side reaches from the other; and the side that one end prefers is opposite to the one that the other end prefers, on a tie too.
-- Assumes nothing.
use Prim.Native.Nat.{ℕ, zero, suc, ◌+◌, ◌≤◌, ◌<◌}
use mathlib.Core.Bool.{Bool, true, false, cond, not, ◌&&◌, and-true, and_assoc, and_comm}
use mathlib.Core.List.{List, [], ◌∷◌, ◌++◌, reverse, reverse-cons, reverse-append}
use mathlib.Core.Logic.{◌⊎◌, inl, inr}
use mathlib.Core.Path.{◌≡◌, refl, sym, ap, ap₂, ◌∙◌, subst}
use native.Mathlib.Omega.{arith}
use lib.Dec.{leb, leb-zero, leb-suc-zero, leb-suc-suc}
use Rattle.std.specs.Prelude.{Err}
use Rattle.decide.specs.Test.{test, Holds}
use Rattle.decide.specs.Refusal.{first_of}
use Rattle.decide.specs.Number.{refusal_of}
use Rattle.decide.specs.declared.refusal.Refusal.{Refusal}
use Rattle.decide.proofs.Cases.{by_cases, le_or, true_or_false}
use Rattle.decide.proofs.Tests.{same_test}
use Rattle.decide.proofs.Given.{in_order_lem}
use Rattle.ring.specs.declared.Way.{Way}
use Rattle.ring.specs.declared.Way.TheVariants.{Left, Right}
use Rattle.ring.specs.Links.{usable, other_of, next_of, link_of, ahead_of, run_of, station_after}
use Rattle.ring.specs.declared.Choice.{Choice}
use Rattle.ring.specs.Choosing.{code_of, protected_of, wrapping_of, distance_of, tie_of, shorter_of, reaches_of, preferred_of, taken_of, along_of, way_of, no_way, goes_of, bad_size, bad_word, bad_index, bad_code, place_faults, choose_of, ChoiceAnswer, chosen_as, no_choice, Between, Placed}
use Rattle.ring.specs.Pairs.{links_of, Together}
use Rattle.ring.proofs.Around.{next_of_lt}
use Rattle.ring.proofs.Distances.{lower_or_higher, between, right_ahead, right_round, whole_ring}
use Rattle.ring.proofs.Hops.{after_suc, back, covered, arrives}
use Rattle.ring.proofs.Links.{both_ends}
use Rattle.ring.proofs.Rows.{tie_lower, tie_otherwise, prefers, shorter_is, tie_is}
use Rattle.ring.proofs.Faults.{placed, same_choice, refused_place, refused_code, in_range_lem}

-- ---- the links of a way, seen from its other end

-- one hop more crosses one link more, the last
links_more : (way : Way) (n at d : ℕ) → links_of way n at (suc d) ≡ links_of way n at d ++ (link_of way n (station_after way n at d) ∷ [])
links_more way n at zero = refl
links_more way n at (suc d) = ap (λ (ks : List ℕ). link_of way n at ∷ ks) (links_more way n (next_of way n at) d)

-- so many hops and as many back
after_back : (way : Way) (n at d : ℕ) → at < n → station_after (other_of way) n (station_after way n at d) d ≡ at
after_back way n at zero h = refl
after_back way n at (suc d) h =
    after_suc (other_of way) n (station_after way n at (suc d)) d
    ∙ ap (next_of (other_of way) n) (after_back way n (next_of way n at) d (next_of_lt way n at h))
    ∙ back way n at h

-- the way back crosses the same links, reversed
pub links_back : (way : Way) (n at d : ℕ) → at < n → links_of way n at d ≡ reverse (links_of (other_of way) n (station_after way n at d) d)
links_back way n at zero h = refl
links_back way n at (suc d) h =
    ap (λ (ks : List ℕ). link_of way n at ∷ ks) (links_back way n on d (next_of_lt way n at h))
    ∙ sym
    (ap reverse (links_more (other_of way) n end d)
    ∙ reverse-append (links_of (other_of way) n end d) (link_of (other_of way) n (station_after (other_of way) n end d) ∷ [])
    ∙ ap (λ (k : ℕ). k ∷ reverse (links_of (other_of way) n end d)) last)
  where
    on : ℕ
    on = next_of way n at

    end : ℕ
    end = station_after way n on d

    last : link_of (other_of way) n (station_after (other_of way) n end d) ≡ link_of way n at
    last = ap (link_of (other_of way) n) (after_back way n on d (next_of_lt way n at h)) ∙ sym (both_ends way n at h)

-- ---- a side reaches where each link of the way is usable

-- each of these links is usable
abbrev all_usable : ℕ → List ℕ → Bool
all_usable w [] = true
all_usable w (k ∷ ks) = usable w k && all_usable w ks

usable_append : (w : ℕ) (ks ls : List ℕ) → all_usable w (ks ++ ls) ≡ (all_usable w ks && all_usable w ls)
usable_append w [] ls = refl
usable_append w (k ∷ ks) ls = ap (λ (b : Bool). usable w k && b) (usable_append w ks ls) ∙ sym (and_assoc (usable w k) (all_usable w ks) (all_usable w ls))

usable_reverse : (w : ℕ) (ks : List ℕ) → all_usable w (reverse ks) ≡ all_usable w ks
usable_reverse w [] = refl
usable_reverse w (k ∷ ks) =
    ap (all_usable w) (reverse-cons k ks) ∙ usable_append w (reverse ks) (k ∷ [])
    ∙ ap₂ (λ (a b : Bool). a && b) (usable_reverse w ks) (and-true (usable w k))
    ∙ and_comm (all_usable w ks) (usable w k)

run_usable : (way : Way) (n w m at d : ℕ) → d ≤ m → leb d (run_of way n w m at) ≡ all_usable w (links_of way n at d)
unfolding run_of
run_usable way n w m at zero l = leb-zero (run_of way n w m at)
run_usable way n w zero at (suc d) l = absurd (omega arith)
run_usable way n w (suc m) at (suc d) l = go (run_usable way n w m (next_of way n at) d (omega arith)) (ahead_of way n w at)
  where
    rest : ℕ
    rest = run_of way n w m (next_of way n at)

    more : Bool
    more = all_usable w (links_of way n (next_of way n at) d)

    go : leb d rest ≡ more → (b : Bool) → leb (suc d) (cond b (suc rest) zero) ≡ (b && more)
    go e true = leb-suc-suc d rest ∙ e
    go e false = leb-suc-zero d

-- ---- two different stations of a ring

module _ (n a b : ℕ) (pair : Between n a b) (differ : a ≡ b → ⊥) where
  turned : Between n b a
  turned = record { small = pair.small; station = pair.reached; reached = pair.station }

  -- there and back on the right is once round
  once_round : distance_of Right n a b + distance_of Right n b a ≡ n
  once_round =
      by_cases (lower_or_higher a b differ)
      (λ h. let e = right_ahead n a b pair h in let f = right_round n b a turned h in omega arith)
      (λ h. let e = right_round n a b pair h in let f = right_ahead n b a turned h in omega arith)

  -- The way back is as long,
  pub distance_back : (way : Way) → distance_of (other_of way) n b a ≡ distance_of way n a b
  distance_back Left = let r = once_round in let w = whole_ring n a b pair in omega arith
  distance_back Right = let r = once_round in let w = whole_ring n b a turned in omega arith

  -- and crosses the same links, reversed.
  pub way_back_lem : (way : Way)
      → links_of way n a (distance_of way n a b) ≡ reverse (links_of (other_of way) n b (distance_of way n a b))
  way_back_lem way =
      links_back way n a (distance_of way n a b) pair.station
      ∙ ap (λ (x : ℕ). reverse (links_of (other_of way) n x (distance_of way n a b))) (arrives n a b pair differ way)

  reaches_usable : (way : Way) (w : ℕ) → reaches_of way n a b w ≡ all_usable w (links_of way n a (distance_of way n a b))
  unfolding reaches_of
  reaches_usable way w = run_usable way n w n a (distance_of way n a b) (covered n a b pair differ way)

  tie_back : tie_of b a ≡ other_of (tie_of a b)
  tie_back =
      by_cases (lower_or_higher a b differ)
      (λ h. tie_otherwise b a (omega arith) ∙ sym (ap other_of (tie_lower a b h)))
      (λ h. tie_lower b a h ∙ sym (ap other_of (tie_otherwise a b (omega arith))))

module _ (n a b : ℕ) (pair : Between n a b) (differ : a ≡ b → ⊥) where
  -- Whatever links are down: a side reaches from one end exactly if the other side reaches from the other.
  pub reaches_back : (way : Way) (w : ℕ) → reaches_of (other_of way) n b a w ≡ reaches_of way n a b w
  reaches_back way w =
      reaches_usable n b a (turned n a b pair differ) (λ e. differ (sym e)) (other_of way) w
      ∙ ap (λ (d : ℕ). all_usable w (links_of (other_of way) n b d)) (distance_back n a b pair differ way)
      ∙ sym (usable_reverse w (links_of (other_of way) n b (distance_of way n a b)))
      ∙ ap (all_usable w) (sym (way_back_lem n a b pair differ way))
      ∙ sym (reaches_usable n a b pair differ way w)

  shorter_there : (way : Way) → distance_of way n a b < distance_of (other_of way) n a b → shorter_of n b a ≡ other_of (shorter_of n a b)
  shorter_there way h =
      let e = distance_back n a b pair differ way in
      let f = distance_back n a b pair differ (other_of way) in
      shorter_is n b a (other_of way) (omega arith) ∙ sym (ap other_of (shorter_is n a b way h))

  -- The two ends prefer opposite sides.
  pub shorter_back : shorter_of n b a ≡ other_of (shorter_of n a b)
  shorter_back =
      by_cases (le_or (distance_of Left n a b) (distance_of Right n a b))
      (λ h. by_cases (le_or (distance_of Right n a b) (distance_of Left n a b)) (λ k. tied (omega arith)) (λ k. shorter_there Left k))
      (λ h. shorter_there Right h)
    where
      tied : distance_of Left n a b ≡ distance_of Right n a b → shorter_of n b a ≡ other_of (shorter_of n a b)
      tied e =
          let l = distance_back n a b pair differ Left in
          let r = distance_back n a b pair differ Right in
          tie_is n b a (omega arith) ∙ tie_back n a b pair differ ∙ sym (ap other_of (tie_is n a b e))

-- ---- what the two ends are answered

never : {code distance ttl : ℕ} {mark : Bool} {r : Refusal} → Err r ≡ chosen_as code distance ttl mark → ⊥
never e = let z : ◌≡◌ {A = ℕ} 0 1 = cc in omega arith

same_side : (v w : Way) → code_of v ≡ code_of w → v ≡ w
same_side Left Left e = refl
same_side Left Right e = absurd (omega arith)
same_side Right Left e = absurd (omega arith)
same_side Right Right e = refl

-- refused alike
neither : {stations a b : ℕ} (r : Refusal) → Together stations a b (Err r) (Err r)
neither r =
    record {
      opposite = λ way distance ttl mark e. absurd (never e);
      links = λ way distance ttl mark e. absurd (never e);
      refused = λ s e. e;
    }

-- opposite sides and the same links
both : {stations a b : ℕ} (way : Way) (distance ttl : ℕ) (mark : Bool)
    → links_of way stations a distance ≡ reverse (links_of (other_of way) stations b distance)
    → Together stations a b (chosen_as (code_of way) distance ttl mark) (chosen_as (code_of (other_of way)) distance ttl mark)
both {stations} {a} {b} way distance ttl mark same =
    record {
      opposite = λ w d t m e.
          let c = same_choice e in
          let s = same_side way w (ap (λ (c : Choice). c.side) c) in
          rw (← s) (ap (λ (c : Choice). chosen_as (code_of (other_of way)) c.distance c.ttl c.mark) c);
      links = λ w d t m e.
          let c = same_choice e in
          let s = same_side way w (ap (λ (c : Choice). c.side) c) in
          rw (← s, ← ap (λ (c : Choice). c.distance) c) same;
      refused = λ r e. absurd (never (sym e));
    }

-- where the preferred side yields to the other, so does the opposite of the preferred side
yields_back : (c : Bool) (way : Way) → cond c (other_of (other_of way)) (other_of way) ≡ other_of (cond c (other_of way) way)
yields_back true way = refl
yields_back false way = refl

module _ (n a b w side protection ring : ℕ) (place : Placed n a b w) (default : (side ≡ 0) ⊎ (side ≡ 3)) where
  abbrev first : Way
  first = preferred_of side n a b

  abbrev taken : Way
  taken = way_of n a b w side protection

  abbrev far : ℕ
  far = distance_of taken n a b

  first_back : preferred_of side n b a ≡ other_of first
  first_back = prefers side default n b a ∙ shorter_back n a b (between place) place.differ ∙ ap other_of (sym (prefers side default n a b))

  taken_back : way_of n b a w side protection ≡ other_of taken
  taken_back =
      ap (λ (v : Way). taken_of (protected_of protection) v (reaches_of v n b a w)) first_back
      ∙ ap (λ (r : Bool). taken_of (protected_of protection) (other_of first) r) (reaches_back n a b (between place) place.differ first w)
      ∙ yields_back (protected_of protection && not (reaches_of first n a b w)) first

  no_way_back : no_way n b a w protection ≡ no_way n a b w protection
  unfolding no_way
  no_way_back =
      ap (λ (x : Bool). protected_of protection && x)
      (ap₂ (λ (l r : Bool). not l && not r) (reaches_back n a b (between place) place.differ Right w) (reaches_back n a b (between place) place.differ Left w)
      ∙ and_comm (not (reaches_of Right n a b w)) (not (reaches_of Left n a b w)))

  -- the answer back, by the numbers of the way there
  abbrev answer_back : ChoiceAnswer
  answer_back =
      chosen_as (code_of (other_of taken)) far (cond (wrapping_of ring) 63 far) (protected_of protection && wrapping_of ring)

  along_back : along_of (way_of n b a w side protection) n b a protection ring ≡ answer_back
  unfolding along_of
  along_back =
      ap (λ (v : Way). along_of v n b a protection ring) taken_back
      ∙ ap
      (λ (d : ℕ). chosen_as (code_of (other_of taken)) d (cond (wrapping_of ring) 63 d) (protected_of protection && wrapping_of ring))
      (distance_back n a b (between place) place.differ taken)

  goes_together : Together n a b (goes_of n a b w side protection ring) (goes_of n b a w side protection ring)
  unfolding goes_of along_of
  goes_together =
      subst (λ (c : ChoiceAnswer). Together n a b (goes_of n a b w side protection ring) c)
      (sym (ap₂ (λ (no : Bool) (c : ChoiceAnswer). cond no (no_choice 8) c) no_way_back along_back))
      (by_way (no_way n a b w protection))
    where
      by_way : (no : Bool) → Together n a b (cond no (no_choice 8) (along_of taken n a b protection ring)) (cond no (no_choice 8) answer_back)
      by_way true = neither (refusal_of 8)
      by_way false = both taken far _ _ (way_back_lem n a b (between place) place.differ taken)

-- ---- for any numbers at all

-- the two ends are out of their range together
ends_out : (n a b : ℕ) → Holds (bad_index n a b) → Holds (bad_index n b a)
ends_out n a b (inl h) = inr (inl h)
ends_out n a b (inr (inl h)) = inl h
ends_out n a b (inr (inr e)) = inr (inr (sym e))

place_back : (n a b w : ℕ) → first_of (place_faults n a b w) ≡ first_of (place_faults n b a w)
place_back n a b w =
    in_order_lem (place_faults n a b w) refl
    ∙ ap
    (λ (c : Bool). cond (test (bad_size n)) 1 (cond (test (bad_word n w)) 3 (cond c 3 0)))
    (same_test (bad_index n a b) (bad_index n b a) (ends_out n a b) (ends_out n b a))
    ∙ sym (in_order_lem (place_faults n b a w) refl)

alike : {n a b : ℕ} {x x' y y' : ChoiceAnswer} → x ≡ x' → y ≡ y' → Together n a b x y → Together n a b x' y'
alike {n} {a} {b} {x} {x'} {y} {y'} e f t =
    subst (λ (c : ChoiceAnswer). Together n a b x' c) f (subst (λ (c : ChoiceAnswer). Together n a b c y) e t)

-- By default, or with nothing specified, the links from a to b are those from b to a, reversed, whatever links are down: so one cut cannot half-break a pair.
-- It holds of any two stations, and so on a tie; on a ring of either kind, protected or not; and where one end is refused so is the other.
pub pair_together : (stations a b links side protection ring : ℕ) → (side ≡ 0) ⊎ (side ≡ 3)
    → Together stations a b (choose_of stations a b links side protection ring) (choose_of stations b a links side protection ring)
pair_together n a b w side protection ring default = by_cases (le_or 1 m) misplaced in_place
  where
    m : ℕ
    m = first_of (place_faults n a b w)

    misplaced : 1 ≤ m → Together n a b (choose_of n a b w side protection ring) (choose_of n b a w side protection ring)
    misplaced h =
        alike (refused_place n a b w side protection ring m refl (λ e. omega arith))
        (refused_place n b a w side protection ring m (place_back n a b w) (λ e. omega arith))
        (neither (refusal_of m))

    in_place : m < 1 → Together n a b (choose_of n a b w side protection ring) (choose_of n b a w side protection ring)
    in_place h =
        let none : m ≡ 0 = omega arith in
        let none-back : first_of (place_faults n b a w) ≡ 0 = sym (place_back n a b w) ∙ none in
        by_cases (true_or_false (test (bad_code side protection ring)))
        (λ e. alike (refused_code n a b w side protection ring none e) (refused_code n b a w side protection ring none-back e) (neither (refusal_of 3)))
        (λ e. alike (in_range_lem n a b w side protection ring none e) (in_range_lem n b a w side protection ring none-back e)
        (goes_together n a b w side protection ring (placed n a b w none) default))
