-- The answers of `path`: each refusal is a row of the definition, and the hops moved are the length of the list of links.
-- Assumes nothing.
use mathlib.Core.Path.{◌≡◌, refl, sym, ap, ap₂, ◌∙◌}
use mathlib.Core.Bool.{Bool, true, false, cond, not, ◌&&◌}
use mathlib.Core.List.{[], ◌∷◌}
use mathlib.Core.Logic.{◌⊎◌, inl, inr, ⊎_elim}
use Prim.Native.Nat.{ℕ, ◌+◌, ◌*◌, ◌≤◌, ◌<◌}
use native.Mathlib.Omega.{arith}
use lib.Dec.{eqb}
use lib.ListN.{length}
use Rattle.std.specs.Prelude.{Ok, Err}
use Rattle.decide.specs.Test.{test}
use Rattle.decide.specs.declared.refusal.Refusal.{Refusal}
use Rattle.decide.proofs.Number.{number_told}
use Rattle.decide.specs.Refusal.{fault, first_of, refused_or, Given}
use borrow.Author.Tests.{eqb-true, eqb-false}
use Rattle.decide.proofs.Cases.{by_cases, true_or_false}
use Rattle.decide.proofs.Refused.{carried_by, refused_by, number_by, unrefused}
use Rattle.ring.specs.Choosing.{place_faults, misplaced_of, Placed}
use Rattle.ring.proofs.Faults.{amiss, then, then_none, place_then, exactly_by, placed as Placed-of}
use Rattle.wrap.specs.declared.Journey.{Journey}
use Rattle.wrap.specs.Walking.{Course, at_home, side_of, whole_of, bad_home, path_faults, PathAnswer, journey, no_path, outcome_of, path_of, path_number}
use Rattle.wrap.proofs.Courses.{Usable, short, all_usable}
use Rattle.wrap.proofs.Early.{delivered_early}
use Rattle.wrap.proofs.Lost.{delivered_hops, undelivered_hops}

-- one journey holds what the other holds
same_journey : {a b : Journey} → ◌≡◌ {A = PathAnswer} (Ok a) (Ok b) → a ≡ b
same_journey e = cc

module _ (stations own target links home : ℕ) where
  abbrev place : ℕ
  place = first_of (place_faults stations own target links)

  abbrev whole : Course
  whole = whole_of stations own target links home

  abbrev answer : ℕ → PathAnswer
  answer n = refused_or no_path n (outcome_of whole)

  abbrev row : Bool → ℕ
  row b = cond b 3 0

  opened : path_of stations own target links home ≡ answer (then place (row (test (bad_home home))))
  unfolding path_of
  opened = ap answer (place_then stations own target links (fault 3 (test (bad_home home)) ∷ []) refl)

  -- ---- the rows of the answer

  pub refused_place : (n : ℕ) → n ≡ place → (n ≡ 0 → ⊥) → no_path n ≡ path_of stations own target links home
  refused_place n e f =
      let h : 0 < n = omega (arith, f) in
      sym (opened ∙ ap (λ (m : ℕ). answer (then m (row (test (bad_home home))))) (sym e) ∙ ap answer (refused_by _ _ n h) ∙ refused_by _ _ n h)

  -- what is amiss with the place is amiss with the path
  pub misplaced_path : (r : Refusal) → misplaced_of stations own target links ≡ Err r → Err r ≡ path_of stations own target links home
  misplaced_path r e =
      let p = amiss stations own target links r e in
      ap Err p.1 ∙ refused_place place refl p.0

  module _ (placed : place ≡ 0) where
    after : {b : Bool} → test (bad_home home) ≡ b → path_of stations own target links home ≡ answer (row b)
    after f = opened ∙ ap answer (carried_by _ _ _ placed) ∙ ap (λ (c : Bool). answer (row c)) f

    pub refused_home : test (bad_home home) ≡ true → no_path 3 ≡ path_of stations own target links home
    unfolding refused_or
    refused_home f = sym (after f)

    pub found : test (bad_home home) ≡ false → outcome_of whole ≡ path_of stations own target links home
    unfolding refused_or
    found f = sym (after f)

    -- the hops of a course tell whether the frame is delivered: where they are some, and not all
    module _ (hops : ℕ) (counted : hops ≡ length whole.links) where
      p : Placed stations own target links
      p = Placed-of stations own target links placed

      some : (hops ≡ 0 → ⊥) → (hops ≡ 2 * stations → ⊥) → whole.delivered ≡ true
      some f g =
          by_cases (true_or_false whole.delivered) (λ d. d)
          (λ d. by_cases (undelivered_hops stations links target (side_of home) (2 * stations) own p.station p.differ d)
          (λ z. absurd (f (counted ∙ z)))
          (λ z. absurd (g (counted ∙ z))))

      not_some : (hops ≡ 0) ⊎ (hops ≡ 2 * stations) → whole.delivered ≡ false
      not_some n =
          by_cases (true_or_false whole.delivered)
          (λ d. let few = delivered_early stations links target (side_of home) (2 * stations) own p.station d in
          let one = delivered_hops stations links target (side_of home) (2 * stations) own p.differ d in
          by_cases n (λ z. absurd (omega arith)) (λ z. absurd (omega arith)))
          (λ d. d)

      told_by : (a b : Bool) → eqb hops 0 ≡ a → eqb hops (2 * stations) ≡ b → (not a && not b) ≡ whole.delivered
      told_by true b u v = sym (not_some (inl (eqb-true hops 0 u)))
      told_by false true u v = sym (not_some (inr (eqb-true hops (2 * stations) v)))
      told_by false false u v = sym (some (eqb-false hops 0 u) (eqb-false hops (2 * stations) v))

    -- what is made of a walk's hops
    pub moved : test (bad_home home) ≡ false → {hops : ℕ} → hops ≡ 0 + length whole.links
        → journey (not (eqb hops 0) && not (eqb hops (2 * stations))) hops ≡ path_of stations own target links home
    moved f {hops} e =
        let counted : hops ≡ length whole.links = omega arith in
        ap₂ journey (told_by hops counted (eqb hops 0) (eqb hops (2 * stations)) refl refl) counted ∙ found f

  -- ---- "Given exactly when"

  numbered : (n : ℕ) → path_number (answer n) ≡ n
  numbered = number_by path_number no_path _ number_told refl

  pub number_first : path_number (path_of stations own target links home) ≡ first_of (path_faults stations own target links home)
  unfolding path_of
  number_first = numbered (first_of (path_faults stations own target links home))

  pub refused_exactly : (n : ℕ) → 0 < n
      → (path_of stations own target links home ≡ no_path n → Given (path_faults stations own target links home) n)
      × (Given (path_faults stations own target links home) n → path_of stations own target links home ≡ no_path n)
  unfolding path_of
  refused_exactly = exactly_by (path_faults stations own target links home) refl path_number no_path _ number_told refl

  -- ---- the path's length

  -- an answer with hops is that of the whole course, between two stations of a ring
  told : (delivered : Bool) (hops : ℕ) → path_of stations own target links home ≡ journey delivered hops
      → Placed stations own target links × (journey delivered hops ≡ outcome_of whole)
  told delivered hops e =
      let g = unrefused path_number no_path _ number_told (then place (row (test (bad_home home)))) (journey delivered hops) (sym e ∙ opened) refl in
      (Placed-of stations own target links (then_none place (row (test (bad_home home))) g.0), g.1)

  -- The hops moved are the path's length, at most twice the stations: fewer where the frame is delivered, else all of them, or none. They fit a byte, and every
  -- link of the path is usable.
  pub record PathLength (delivered : Bool) (hops : ℕ) : Type 0 where
    pub counted : hops ≡ length (whole_of stations own target links home).links
    pub within : hops ≤ 2 * stations
    pub early : delivered ≡ true → hops < 2 * stations
    pub lost : delivered ≡ false → (hops ≡ 0) ⊎ (hops ≡ 2 * stations)
    pub small : hops < 127
    pub delivers : delivered ≡ (whole_of stations own target links home).delivered
    pub crosses : Usable links (whole_of stations own target links home).links

  pub path_length : (delivered : Bool) (hops : ℕ) → path_of stations own target links home ≡ journey delivered hops → PathLength delivered hops
  path_length delivered hops e =
      let t = told delivered hops e in
      let same = same_journey t.1 in
      let n : hops ≡ length whole.links = ap (λ (j : Journey). j.hops) same in
      let l = short stations links target (side_of home) (2 * stations) at_home own in
      let p = t.0 in
      let same_end : delivered ≡ whole.delivered = ap (λ (j : Journey). j.delivered) same in
      record {
        counted = n;
        within = omega arith;
        early = λ d. let e = delivered_early stations links target (side_of home) (2 * stations) own p.station (sym same_end ∙ d) in omega arith;
        lost =
            λ d. ⊎_elim (λ z. inl (n ∙ z)) (λ z. inr (n ∙ z))
            (undelivered_hops stations links target (side_of home) (2 * stations) own p.station p.differ (sym same_end ∙ d));
        small = omega arith;
        delivers = same_end;
        crosses = all_usable stations links target (side_of home) (2 * stations) at_home own;
      }
