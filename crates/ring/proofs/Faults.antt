-- Rows in the order of their ranks are tried one after the other, so the place's faults come first and then the call's own.
-- Assumes nothing.
use Prim.Native.Nat.{ℕ, ◌<◌}
use mathlib.Core.Bool.{Bool, true, false, cond}
use mathlib.Core.List.{List, [], ◌∷◌, ◌++◌}
use mathlib.Core.Path.{◌≡◌, refl, sym, ap, ◌∙◌}
use native.Mathlib.Omega.{arith}
use Rattle.decide.specs.Test.{test}
use Rattle.std.specs.Prelude.{Ok, Err}
use Rattle.decide.specs.Number.{number_in, refusal_of}
use Rattle.decide.specs.declared.refusal.Refusal.{Refusal}
use Rattle.decide.proofs.Number.{number_told}
use Rattle.decide.specs.Refusal.{Fault, fault, first_of, refused_or, ranked, in_order, chained, Given}
use Rattle.decide.proofs.Given.{in_order_lem, first_exact}
use Rattle.decide.proofs.Refused.{of_answer, carried_by, refused_by, number_by, unrefused}
use Rattle.ring.specs.declared.Way.{Way}
use Rattle.ring.proofs.Exactly.{size_exactly, word_exactly, index_exactly, no_way_exactly}
use Rattle.ring.specs.declared.Choice.{Choice}
use Rattle.ring.specs.Choosing.{reaches_of, along_of, way_of, no_way, goes_of, bad_size, bad_word, bad_index, bad_code, place_faults, choose_faults, misplaced_of, choose_of, ChoiceAnswer, chosen_as, no_choice, choice_number, Placed}

-- ---- the place's faults

-- the number of the first of two, the second where the first is none
abbrev pub then : ℕ → ℕ → ℕ
then m n = refused_or (λ k. k) m n

pub then_none : (m n : ℕ) → then m n ≡ 0 → m ≡ 0
then_none m n = of_answer _ _ (λ (k : ℕ). k ≡ 0 → m ≡ 0) m (λ z e. z) (λ h e. e)

joined : (a b c : Bool) (n : ℕ) → cond a 1 (cond b 3 (cond c 3 n)) ≡ then (cond a 1 (cond b 3 (cond c 3 0))) n
unfolding refused_or
joined true b c n = refl
joined false true c n = refl
joined false false true n = refl
joined false false false n = refl

none_of_lem : (a b c : Bool) → ◌≡◌ {A = ℕ} (cond a 1 (cond b 3 (cond c 3 0))) 0 → (a ≡ false) × (b ≡ false) × (c ≡ false)
none_of_lem true b c e = absurd (omega arith)
none_of_lem false true c e = absurd (omega arith)
none_of_lem false false true e = absurd (omega arith)
none_of_lem false false false e = (refl, refl, refl)

module _ (stations own target links : ℕ) where
  abbrev place : ℕ
  place = first_of (place_faults stations own target links)

  tried : place ≡ cond (test (bad_size stations)) 1 (cond (test (bad_word stations links)) 3 (cond (test (bad_index stations own target)) 3 0))
  tried = in_order_lem (place_faults stations own target links) refl

  -- a call's own rows come after the place's
  pub place_then : (fs : List Fault) → in_order (place_faults stations own target links ++ fs) ≡ true
      → first_of (place_faults stations own target links ++ fs) ≡ then (first_of (place_faults stations own target links)) (chained fs)
  place_then fs o =
      in_order_lem (place_faults stations own target links ++ fs) o
      ∙ joined (test (bad_size stations)) (test (bad_word stations links)) (test (bad_index stations own target)) (chained fs)
      ∙ ap (λ (n : ℕ). then n (chained fs)) (sym tried)

  -- one law for each row
  pub bad_size_lem : test (bad_size stations) ≡ true → 1 ≡ place
  bad_size_lem e = sym (tried ∙ rw e)

  pub bad_word_lem : test (bad_size stations) ≡ false → test (bad_word stations links) ≡ true → 3 ≡ place
  bad_word_lem e f = sym (tried ∙ rw (e, f))

  pub bad_index_lem : test (bad_size stations) ≡ false → test (bad_word stations links) ≡ false → test (bad_index stations own target) ≡ true → 3 ≡ place
  bad_index_lem e f g = sym (tried ∙ rw (e, f, g))

  pub good : test (bad_size stations) ≡ false → test (bad_word stations links) ≡ false → test (bad_index stations own target) ≡ false → 0 ≡ place
  good e f g = sym (tried ∙ rw (e, f, g))

  -- the number of the place tells what is amiss;
  pub misplaced_by : {n : ℕ} → n ≡ place → refused_or (λ m. Err (refusal_of m)) n (Ok tt) ≡ misplaced_of stations own target links
  unfolding misplaced_of
  misplaced_by e = ap (λ (m : ℕ). refused_or (λ m. Err (refusal_of m)) m (Ok tt)) e

  -- where nothing is amiss no row applies,
  pub in_place : {u : Unit {0}} → misplaced_of stations own target links ≡ Ok u → place ≡ 0
  unfolding misplaced_of
  in_place {u} = of_answer _ _ (λ a. a ≡ Ok u → place ≡ 0) place (λ z e. z) (λ h e. let f : ◌≡◌ {A = ℕ} 0 1 = cc in absurd (omega arith))

  -- and what is amiss is the refusal of the row that counts
  pub amiss : (r : Refusal) → misplaced_of stations own target links ≡ Err r → (place ≡ 0 → ⊥) × (r ≡ refusal_of place)
  unfolding misplaced_of
  amiss r =
      of_answer _ _ (λ a. a ≡ Err r → (place ≡ 0 → ⊥) × (r ≡ refusal_of place)) place
      (λ z e. let f : ◌≡◌ {A = ℕ} 0 1 = cc in absurd (omega arith))
      (λ h e. (λ z. omega arith, cc))

  -- no fault: two stations of a ring
  pub placed : place ≡ 0 → Placed stations own target links
  placed e =
      let n = none_of_lem (test (bad_size stations)) (test (bad_word stations links)) (test (bad_index stations own target)) (sym tried ∙ e) in
      let s = (size_exactly stations).0 n.0 in
      let i = (index_exactly stations own target).0 n.2 in
      record {
        ring = s.0;
        small = omega arith;
        station = i.0;
        reached = i.1;
        differ = i.2;
        clear = (word_exactly stations links).0 n.1;
      }

  pub placed_free : Placed stations own target links → place ≡ 0
  placed_free p =
      let small = p.small in
      sym
      (good ((size_exactly stations).1 (p.ring, omega arith)) ((word_exactly stations links).1 p.clear)
      ((index_exactly stations own target).1 (p.station, p.reached, p.differ)))

-- An answer that goes by the rows' number, and bears it, is the refusal of a number exactly when a row with it applies and none before it does.
pub exactly_by : {A : Type 0} (rows : List Fault) → ranked rows ≡ true → (number : A → ℕ) (refused : ℕ → A) (done : A) → ((m : ℕ) → number (refused m) ≡ m) → number done ≡ 0
    → (n : ℕ) → 0 < n → (refused_or refused (first_of rows) done ≡ refused n → Given rows n) × (Given rows n → refused_or refused (first_of rows) done ≡ refused n)
exactly_by rows r number refused done bears none n h =
    let x = first_exact rows r n h in (
      λ e. x.has_cause (sym (number_by number refused done bears none (first_of rows)) ∙ ap number e ∙ bears n),
      λ g. ap (λ m. refused_or refused m done) (x.is_given g) ∙ refused_by refused done n h,
    )

-- ---- the choice's faults

-- one choice holds what the other holds
pub same_choice : {a b : Choice} → ◌≡◌ {A = ChoiceAnswer} (Ok a) (Ok b) → a ≡ b
same_choice e = cc

-- 8 has no other cause
eight : (a b c d e : Bool) → ◌≡◌ {A = ℕ} (then (cond a 1 (cond b 3 (cond c 3 0))) (cond d 3 (cond e 8 0))) 8
    → (◌≡◌ {A = ℕ} (cond a 1 (cond b 3 (cond c 3 0))) 0) × (e ≡ true)
unfolding refused_or
eight true b c d e p = absurd (omega arith)
eight false true c d e p = absurd (omega arith)
eight false false true d e p = absurd (omega arith)
eight false false false true e p = absurd (omega arith)
eight false false false false true p = (refl, refl)
eight false false false false false p = absurd (omega arith)

module _ (stations own target links side protection ring : ℕ) where
  abbrev place₀ : ℕ
  place₀ = first_of (place_faults stations own target links)

  abbrev own_rows : ℕ
  own_rows = cond (test (bad_code side protection ring)) 3 (cond (no_way stations own target links protection) 8 0)

  abbrev answer : ℕ → ChoiceAnswer
  answer n = refused_or no_choice n (along_of (way_of stations own target links side protection) stations own target protection ring)

  abbrev chosen : ChoiceAnswer
  chosen = choose_of stations own target links side protection ring

  abbrev rows : List Fault
  rows = choose_faults stations own target links side protection ring

  opened : chosen ≡ answer (then place₀ own_rows)
  unfolding choose_of
  opened =
      ap answer
      (place_then stations own target links
      (fault 3 (test (bad_code side protection ring)) ∷ fault 8 (no_way stations own target links protection) ∷ [])
      refl)

  pub refused_place : (n : ℕ) → n ≡ place₀ → (n ≡ 0 → ⊥) → no_choice n ≡ chosen
  refused_place n e f =
      let h : 0 < n = omega (arith, f) in
      sym (opened ∙ ap (λ (m : ℕ). answer (then m own_rows)) (sym e) ∙ ap answer (refused_by _ _ n h) ∙ refused_by _ _ n h)

  -- what is amiss with the place is amiss with the choice
  pub misplaced_choice : (r : Refusal) → misplaced_of stations own target links ≡ Err r → Err r ≡ chosen
  misplaced_choice r e =
      let p = amiss stations own target links r e in
      ap Err p.1 ∙ refused_place place₀ refl p.0

  coded : {b : Bool} → place₀ ≡ 0 → test (bad_code side protection ring) ≡ b
      → chosen ≡ answer (cond b 3 (cond (no_way stations own target links protection) 8 0))
  coded e f =
      opened ∙ ap answer (carried_by _ _ _ e)
      ∙ ap (λ (c : Bool). answer (cond c 3 (cond (no_way stations own target links protection) 8 0))) f

  pub refused_code : place₀ ≡ 0 → test (bad_code side protection ring) ≡ true → no_choice 3 ≡ chosen
  unfolding refused_or
  refused_code e f = sym (coded e f)

  -- in range the choice goes by its sides alone
  pub in_range_lem : place₀ ≡ 0 → test (bad_code side protection ring) ≡ false → goes_of stations own target links side protection ring ≡ chosen
  unfolding goes_of refused_or
  in_range_lem e f =
      sym (coded e f ∙ settled (no_way stations own target links protection))
    where
      settled : (b : Bool) → answer (cond b 8 0) ≡ cond b (no_choice 8) (answer 0)
      settled true = refl
      settled false = refl

  numbered : (n : ℕ) → choice_number (answer n) ≡ n
  unfolding along_of
  numbered = number_by choice_number no_choice _ number_told refl

  -- the answer's number is that of the rows
  pub number_first : choice_number chosen ≡ first_of rows
  unfolding choose_of
  number_first = numbered (first_of rows)

  -- "Given exactly when": the choice is refused with n exactly when a row with n applies and none before it does.
  pub refused_exactly : (n : ℕ) → 0 < n
      → (chosen ≡ no_choice n → Given rows n)
      × (Given rows n → chosen ≡ no_choice n)
  unfolding choose_of along_of
  refused_exactly = exactly_by rows refl choice_number no_choice _ number_told refl

  -- 8 says that the numbers are in range and that neither side reaches.
  pub no_way_means : (r : Refusal) → number_in r ≡ 8 → chosen ≡ Err r
      → Placed stations own target links × ((way : Way) → reaches_of way stations own target links ≡ false)
  no_way_means r k e =
      let n : then place₀ own_rows ≡ 8 = sym (numbered (then place₀ own_rows)) ∙ ap choice_number (sym opened ∙ e) ∙ k in
      let z =
      eight (test (bad_size stations)) (test (bad_word stations links)) (test (bad_index stations own target)) (test (bad_code side protection ring))
      (no_way stations own target links protection)
      (sym (ap (λ (m : ℕ). then m own_rows) (tried stations own target links)) ∙ n) in
      (placed stations own target links (tried stations own target links ∙ z.0), ((no_way_exactly stations own target links protection).0 z.1).1)

  -- A side is chosen where the numbers are in range.
  pub chosen_means : (code distance ttl : ℕ) (mark : Bool) → chosen ≡ chosen_as code distance ttl mark
      → Placed stations own target links × (chosen_as code distance ttl mark ≡ along_of (way_of stations own target links side protection) stations own target protection ring)
  chosen_means code distance ttl mark e =
      let g = unrefused choice_number no_choice _ number_told (then place₀ own_rows) (chosen_as code distance ttl mark) (sym e ∙ opened) refl in
      (placed stations own target links (then_none place₀ own_rows g.0), g.1)
