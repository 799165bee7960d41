-- The choice, row by row, as document 01 has it: each law is one of its sentences, for numbers in range.
-- Assumes nothing.
use Prim.Native.Nat.{ℕ, ◌≤◌, ◌<◌}
use mathlib.Core.Bool.{Bool, true, false, cond, not, ◌&&◌}
use mathlib.Core.Logic.{◌⊎◌, inr}
use mathlib.Core.Path.{◌≡◌, refl, sym, ap, ◌∙◌}
use native.Mathlib.Omega.{arith}
use borrow.Author.Tests.{lt-ltb, le-ltb, eq-eqb, ne_eqb}
use Rattle.decide.specs.Test.{test}
use Rattle.decide.proofs.Cases.{by_cases}
use Rattle.ring.specs.declared.Way.{Way}
use Rattle.ring.specs.declared.Way.TheVariants.{Left, Right}
use Rattle.ring.specs.Links.{other_of}
use Rattle.ring.specs.Choosing.{code_of, protected_of, distance_of, tie_of, shorter_of, reaches_of, preferred_of, taken_of, along_of, no_way, goes_of, choose_of, ChoiceAnswer, chosen_as, no_choice, Placed}
use Rattle.ring.proofs.Exactly.{code_exactly}
use Rattle.ring.proofs.Faults.{placed_free, in_range_lem}

-- ---- where no way is usable

and_off : (b : Bool) → (b && false) ≡ false
and_off true = refl
and_off false = refl

-- a side that reaches is a usable way
some_way : (p : Bool) (R : Way → Bool) (w : Way) → R w ≡ true → (p && (not (R Left) && not (R Right))) ≡ false
some_way false R w e = refl
some_way true R Left e = rw e
some_way true R Right e = rw e (and_off (not (R Left)))

no_way_lem : (R : Way → Bool) (w : Way) → R w ≡ false → R (other_of w) ≡ false → (true && (not (R Left) && not (R Right))) ≡ true
no_way_lem R Left e f = rw (e, f)
no_way_lem R Right e f = rw (f, e)

-- ---- in range, over the preferred side

module _ (stations own target links side protection ring : ℕ) (first : Way) (preferred : first ≡ preferred_of side stations own target) where
  abbrev goes : ChoiceAnswer
  goes = goes_of stations own target links side protection ring

  abbrev along₀ : Way → ChoiceAnswer
  along₀ way = along_of way stations own target protection ring

  abbrev reaches₀ : Way → Bool
  reaches₀ way = reaches_of way stations own target links

  opened : goes ≡ cond (no_way stations own target links protection) (no_choice 8) (along₀ (taken_of (protected_of protection) first (reaches₀ first)))
  unfolding goes_of
  opened =
      ap
      (λ (w : Way). cond (no_way stations own target links protection) (no_choice 8) (along₀ (taken_of (protected_of protection) w (reaches₀ w))))
      (sym preferred)

  pub goes_regardless : protection ≡ 2 → along₀ first ≡ goes
  unfolding no_way
  goes_regardless e = sym (opened ∙ rw (eq-eqb protection 2 e))

  pub goes_first : reaches₀ first ≡ true → along₀ first ≡ goes
  unfolding no_way
  goes_first e = sym (opened ∙ rw (some_way (protected_of protection) reaches₀ first e, e, and_off))

  module _ (protected : protection ≡ 2 → ⊥) (short : reaches₀ first ≡ false) (second : Way) (opposite : second ≡ other_of first) where
    pub goes_second : reaches₀ second ≡ true → along₀ second ≡ goes
    unfolding no_way
    goes_second e =
        sym (opened ∙ rw (some_way (protected_of protection) reaches₀ second e, ne_eqb protection 2 protected, short) (ap along₀ (sym opposite)))

    pub goes_nowhere : reaches₀ second ≡ false → no_choice 8 ≡ goes
    unfolding no_way
    goes_nowhere e =
        sym (opened ∙ rw (ne_eqb protection 2 protected, no_way_lem reaches₀ first short (ap reaches₀ (sym opposite) ∙ e)))

-- ---- the side of ties

-- Right if the own index is lower than the target's,
pub tie_lower : (own target : ℕ) → own < target → tie_of own target ≡ Right
unfolding tie_of
tie_lower own target h = rw (lt-ltb own target h)

-- otherwise left.
pub tie_otherwise : (own target : ℕ) → target ≤ own → tie_of own target ≡ Left
unfolding tie_of
tie_otherwise own target h = rw (le-ltb own target h)

-- ---- the preferred side

asked : (way : Way) (stations own target : ℕ) → preferred_of (code_of way) stations own target ≡ way
unfolding preferred_of
asked Left stations own target = refl
asked Right stations own target = refl

-- default, or unspecified, which means default
pub prefers : (side : ℕ) → (side ≡ 0) ⊎ (side ≡ 3) → (stations own target : ℕ) → preferred_of side stations own target ≡ shorter_of stations own target
unfolding preferred_of
prefers side s stations own target = by_cases s (λ e. rw e) (λ e. rw e)

by_default : (stations own target : ℕ) → preferred_of 3 stations own target ≡ shorter_of stations own target
by_default = prefers 3 (inr refl)

module _ (stations own target : ℕ) where
  abbrev far : Way → ℕ
  far way = distance_of way stations own target

  pub shorter_is : (way : Way) → far way < far (other_of way) → shorter_of stations own target ≡ way
  unfolding shorter_of
  shorter_is Left h = rw (le-ltb (far Right) (far Left) (omega arith), lt-ltb (far Left) (far Right) h)
  shorter_is Right h = rw (lt-ltb (far Right) (far Left) h)

  pub tie_is : far Left ≡ far Right → shorter_of stations own target ≡ tie_of own target
  unfolding shorter_of
  tie_is e = rw (le-ltb (far Right) (far Left) (omega arith), le-ltb (far Left) (far Right) (omega arith))

-- the same, of the two distances as code has them
module _ (stations own target right left : ℕ) (r : right ≡ distance_of Right stations own target) (l : left ≡ distance_of Left stations own target) where
  pub right_shorter : right < left → Right ≡ shorter_of stations own target
  right_shorter h = sym (shorter_is stations own target Right (omega arith))

  pub left_shorter : left < right → Left ≡ shorter_of stations own target
  left_shorter h = sym (shorter_is stations own target Left (omega arith))

  pub neither_shorter : left ≤ right → right ≤ left → tie_of own target ≡ shorter_of stations own target
  neither_shorter h k = sym (tie_is stations own target (omega arith))

one_two : ◌≡◌ {A = ℕ} 1 2 → ⊥
one_two e = omega arith

-- ---- the rows

module _ (stations own target links ring : ℕ) (place : Placed stations own target links) (coded : ring ≤ 1) where
  abbrev chosen : ℕ → ℕ → ChoiceAnswer
  chosen side protection = choose_of stations own target links side protection ring

  abbrev along : Way → ℕ → ChoiceAnswer
  along way protection = along_of way stations own target protection ring

  abbrev reaches : Way → Bool
  reaches way = reaches_of way stations own target links

  abbrev distance : Way → ℕ
  distance way = distance_of way stations own target

  within : (side protection : ℕ) → side ≤ 3 → protection ≤ 2 → goes_of stations own target links side protection ring ≡ chosen side protection
  within side protection s p =
      in_range_lem stations own target links side protection ring (placed_free stations own target links place)
      ((code_exactly side protection ring).1 (s, p, coded))

  -- the rows over the side that is preferred
  module _ (side : ℕ) (way : Way) (s : side ≤ 3) (preferred : preferred_of side stations own target ≡ way) where
    regardless : chosen side 2 ≡ along way 2
    regardless =
        sym (within side 2 s (omega arith)) ∙ sym (goes_regardless stations own target links side 2 ring way (sym preferred) refl)

    reached : reaches way ≡ true → chosen side 1 ≡ along way 1
    reached e =
        sym (within side 1 s (omega arith)) ∙ sym (goes_first stations own target links side 1 ring way (sym preferred) e)

    rescued : reaches way ≡ false → reaches (other_of way) ≡ true → chosen side 1 ≡ along (other_of way) 1
    rescued e f =
        sym (within side 1 s (omega arith))
        ∙ sym (goes_second stations own target links side 1 ring way (sym preferred) one_two e (other_of way) refl f)

    refused : reaches way ≡ false → reaches (other_of way) ≡ false → chosen side 1 ≡ no_choice 8
    refused e f =
        sym (within side 1 s (omega arith))
        ∙ sym (goes_nowhere stations own target links side 1 ring way (sym preferred) one_two e (other_of way) refl f)

  coded_way : (way : Way) → code_of way ≤ 3
  coded_way Left = omega arith
  coded_way Right = omega arith

  -- Protected left or right: that side if it reaches,
  pub protected_reaches : (way : Way) → reaches way ≡ true → chosen (code_of way) 1 ≡ along way 1
  protected_reaches way = reached (code_of way) way (coded_way way) (asked way stations own target)

  -- else the other if it reaches,
  pub protected_other : (way : Way) → reaches way ≡ false → reaches (other_of way) ≡ true → chosen (code_of way) 1 ≡ along (other_of way) 1
  protected_other way = rescued (code_of way) way (coded_way way) (asked way stations own target)

  -- else 8.
  pub protected_none : (way : Way) → reaches way ≡ false → reaches (other_of way) ≡ false → chosen (code_of way) 1 ≡ no_choice 8
  protected_none way = refused (code_of way) way (coded_way way) (asked way stations own target)

  -- Unprotected: that side regardless.
  pub unprotected_that : (way : Way) → chosen (code_of way) 2 ≡ along way 2
  unprotected_that way = regardless (code_of way) way (coded_way way) (asked way stations own target)

  -- Default: the shorter side that reaches. The shorter, if it reaches,
  pub default_shorter : (way : Way) → distance way < distance (other_of way) → reaches way ≡ true → chosen 3 1 ≡ along way 1
  default_shorter way h = reached 3 way (omega arith) (by_default stations own target ∙ shorter_is stations own target way h)

  -- and where one side alone reaches, that one;
  pub default_only : (way : Way) → reaches way ≡ true → reaches (other_of way) ≡ false → chosen 3 1 ≡ along way 1
  default_only way e f = go (shorter_of stations own target) refl way e f
    where
      go : (first : Way) → shorter_of stations own target ≡ first → (w : Way) → reaches w ≡ true → reaches (other_of w) ≡ false → chosen 3 1 ≡ along w 1
      go Left p Left e f = reached 3 Left (omega arith) (by_default stations own target ∙ p) e
      go Left p Right e f = rescued 3 Left (omega arith) (by_default stations own target ∙ p) f e
      go Right p Left e f = rescued 3 Right (omega arith) (by_default stations own target ∙ p) f e
      go Right p Right e f = reached 3 Right (omega arith) (by_default stations own target ∙ p) e

  -- on a tie, the side of ties,
  pub default_tie : distance Left ≡ distance Right → reaches (tie_of own target) ≡ true → chosen 3 1 ≡ along (tie_of own target) 1
  default_tie h = reached 3 (tie_of own target) (omega arith) (by_default stations own target ∙ tie_is stations own target h)

  -- 8 if none.
  pub default_none : reaches Left ≡ false → reaches Right ≡ false → chosen 3 1 ≡ no_choice 8
  default_none e f = go (shorter_of stations own target) refl
    where
      go : (first : Way) → shorter_of stations own target ≡ first → chosen 3 1 ≡ no_choice 8
      go Left p = refused 3 Left (omega arith) (by_default stations own target ∙ p) e f
      go Right p = refused 3 Right (omega arith) (by_default stations own target ∙ p) f e

  -- Default, unprotected: the shorter,
  pub unprotected_shorter : (way : Way) → distance way < distance (other_of way) → chosen 3 2 ≡ along way 2
  unprotected_shorter way h = regardless 3 way (omega arith) (by_default stations own target ∙ shorter_is stations own target way h)

  -- on a tie, the side of ties,
  pub unprotected_tie : distance Left ≡ distance Right → chosen 3 2 ≡ along (tie_of own target) 2
  unprotected_tie h = regardless 3 (tie_of own target) (omega arith) (by_default stations own target ∙ tie_is stations own target h)

  -- never 8.
  pub unprotected_goes : (side : ℕ) → side ≤ 3 → chosen side 2 ≡ along (preferred_of side stations own target) 2
  unprotected_goes side s = regardless side (preferred_of side stations own target) s refl

-- ---- what is unspecified, whatever the other numbers are

module _ (stations own target links ring : ℕ) where
  -- Unspecified means default
  pub side_unspecified : (protection : ℕ)
      → choose_of stations own target links 0 protection ring ≡ choose_of stations own target links 3 protection ring
  unfolding choose_of preferred_of test
  side_unspecified protection = refl

  -- and protected.
  pub protection_unspecified : (side : ℕ) → choose_of stations own target links side 0 ring ≡ choose_of stations own target links side 1 ring
  unfolding choose_of along_of no_way test
  protection_unspecified side = refl

-- ---- ttl and wrap mark

module _ (way : Way) (stations own target : ℕ) where
  abbrev hops : ℕ
  hops = distance_of way stations own target

  -- ttl: the distance on a steering ring, which marks nothing;
  pub steering : (protection : ℕ) → along_of way stations own target protection 0 ≡ chosen_as (code_of way) hops hops false
  unfolding along_of
  steering protection = ap (λ (b : Bool). chosen_as (code_of way) hops hops b) (and_off (protected_of protection))

  -- 63 on a wrapping one, which marks what is protected
  pub wrapping_protected : along_of way stations own target 1 1 ≡ chosen_as (code_of way) hops 63 true
  unfolding along_of
  wrapping_protected = refl

  -- and nothing else.
  pub wrapping_unprotected : along_of way stations own target 2 1 ≡ chosen_as (code_of way) hops 63 false
  unfolding along_of
  wrapping_unprotected = refl
