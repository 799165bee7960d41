-- By default both ends of a pair are told to use the same links: what `ring` proves of the two choices, read off the eight bytes of their numbers.
-- Assumes nothing.
use Prim.Native.Nat.{ℕ, zero, suc}
use mathlib.Core.Bool.{Bool}
use mathlib.Core.List.{List, [], ◌∷◌, reverse}
use mathlib.Core.Logic.{◌⊎◌}
use mathlib.Core.Path.{◌≡◌, refl, sym, ap, ◌∙◌}
use native.Mathlib.Omega.{arith}
use lib.ListN.{get_or}
use Rattle.std.specs.Prelude.{Ok, Err}
use Rattle.decide.specs.declared.refusal.Refusal.{Refusal}
use Rattle.ring.specs.declared.Way.{Way}
use Rattle.ring.specs.declared.Way.TheVariants.{Left, Right}
use Rattle.ring.specs.declared.Choice.{Choice}
use Rattle.ring.specs.Links.{other_of}
use Rattle.ring.specs.Choosing.{code_of, way_of, along_of, choose_of, ChoiceAnswer, chosen_as}
use Rattle.ring.specs.Pairs.{links_of, Together}
use Rattle.ring.proofs.Faults.{same_choice, chosen_means}
use Rattle.ring.proofs.Pairs as Ends
use Rattle.wrap.specs.Walking.{side_of}
use Rattle.answer.specs.Bytes.{bit_of}
use Rattle.rpr.specs.Ways.{choose_answer}
use Rattle.rpr.specs.Pairs.{PairTold}
use Rattle.rpr.proofs.Ways.{choose_bytes, choose_refused_bytes}

-- ---- the host's codes

-- the code of a side names it
side_coded : (way : Way) → side_of (code_of way) ≡ way
side_coded Left = refl
side_coded Right = refl

other_coded : (way : Way) → (code_of way ≡ 1 → code_of (other_of way) ≡ 2) × (code_of way ≡ 2 → code_of (other_of way) ≡ 1)
other_coded Left = (λ e. refl, λ e. absurd (omega arith))
other_coded Right = (λ e. absurd (omega arith), λ e. refl)

-- ---- eight bytes

but_for_side : (c d : ℕ) (rest : List ℕ) (k : ℕ) → (k ≡ 1 → ⊥) → get_or (0 ∷ c ∷ rest) k 0 ≡ get_or (0 ∷ d ∷ rest) k 0
but_for_side c d rest zero h = refl
but_for_side c d rest (suc zero) h = absurd (h refl)
but_for_side c d rest (suc (suc k)) h = refl

-- the links told by them
abbrev by_bytes : ℕ → ℕ → List ℕ → List ℕ
by_bytes stations own ds = links_of (side_of (get_or ds 1 0)) stations own (get_or ds 2 0)

module _ (stations a b links side protection ring : ℕ) where
  abbrev choice_there : ChoiceAnswer
  choice_there = choose_of stations a b links side protection ring

  abbrev choice_back : ChoiceAnswer
  choice_back = choose_of stations b a links side protection ring

  abbrev Told : Type 0
  Told = PairTold stations a b (choose_answer stations a b links side protection ring) (choose_answer stations b a links side protection ring)

  neither_told : (r : Refusal) → choice_there ≡ Err r → choice_back ≡ Err r → Told
  neither_told r e f =
      let there = choose_refused_bytes stations a b links side protection ring r e in
      let back = choose_refused_bytes stations b a links side protection ring r f in
      record {
        same = λ k h. ap (λ (ds : List ℕ). get_or ds k 0) (there ∙ sym back);
        opposite = rw there (λ h. absurd (omega arith), λ h. absurd (omega arith));
        links = ap (by_bytes stations a) there ∙ sym (ap (λ (ds : List ℕ). reverse (by_bytes stations b ds)) back);
      }

  both_told : (way : Way) (distance ttl : ℕ) (mark : Bool) → choice_there ≡ chosen_as (code_of way) distance ttl mark
      → choice_back ≡ chosen_as (code_of (other_of way)) distance ttl mark
      → links_of way stations a distance ≡ reverse (links_of (other_of way) stations b distance) → Told
  both_told way distance ttl mark e f reversed =
      let there = choose_bytes stations a b links side protection ring (code_of way) distance ttl mark e in
      let back = choose_bytes stations b a links side protection ring (code_of (other_of way)) distance ttl mark f in
      let rest : List ℕ = distance ∷ ttl ∷ bit_of mark ∷ 0 ∷ 0 ∷ 0 ∷ [] in
      record {
        same = λ k h.
            ap (λ (ds : List ℕ). get_or ds k 0) there ∙ but_for_side (code_of way) (code_of (other_of way)) rest k h ∙ sym (ap (λ (ds : List ℕ). get_or ds k 0) back);
        opposite = rw (there, back) (other_coded way);
        links =
            ap (by_bytes stations a) there
            ∙ ap (λ (w : Way). links_of w stations a distance) (side_coded way)
            ∙ reversed
            ∙ sym
            (ap (λ (ds : List ℕ). reverse (by_bytes stations b ds)) back
            ∙ ap (λ (w : Way). reverse (links_of w stations b distance)) (side_coded (other_of way)));
      }

  told : (c : ChoiceAnswer) → choice_there ≡ c → Together stations a b choice_there choice_back → Told
  unfolding along_of
  told (Ok c) e t =
      let distance = c.distance in
      let ttl = c.ttl in
      let mark = c.mark in
      let means = (chosen_means stations a b links side protection ring c.side distance ttl mark e).1 in
      let way = way_of stations a b links side protection in
      let coded : c.side ≡ code_of way = ap (λ (c : Choice). c.side) (same_choice means) in
      let f : choice_there ≡ chosen_as (code_of way) distance ttl mark = e ∙ ap (λ (c : ℕ). chosen_as c distance ttl mark) coded in
      both_told way distance ttl mark f (t.opposite way distance ttl mark f) (t.links way distance ttl mark f)
  told (Err r) e t = neither_told r e (t.refused r e)

-- By default, or with nothing specified, the links that the host is told from a to b are those from b to a, reversed: one cut cannot half-break a pair.
pub pair_together : (stations a b links side protection ring : ℕ) → (side ≡ 0) ⊎ (side ≡ 3)
    → PairTold stations a b (choose_answer stations a b links side protection ring) (choose_answer stations b a links side protection ring)
pair_together stations a b links side protection ring default =
    told stations a b links side protection ring (choose_of stations a b links side protection ring) refl
    (Ends.pair_together stations a b links side protection ring default)
