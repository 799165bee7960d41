-- The ring's two calls: byte 0 of an answer is 0 where the call was carried out, and the other bytes hold what was found; else byte 0 is the refusal's number
-- and every other byte is 0. They lend nothing for writing. Assumes nothing.
use Prim.Native.Nat.{ℕ, ◌%◌, ◌≤◌}
use mathlib.Core.Bool.{Bool}
use mathlib.Core.List.{[], ◌∷◌}
use mathlib.Core.Path.{◌≡◌, refl, ap, ◌∙◌}
use native.Mathlib.Omega.{arith}
use Rattle.std.specs.Prelude.{Ok, Err}
use Rattle.decide.specs.declared.refusal.Refusal.{Refusal}
use Rattle.decide.specs.Number.{number_in}
use Rattle.decide.specs.Refusal.{first_of, RefusedExactly}
use Rattle.decide.proofs.Given.{refused_exactly}
use Rattle.wire.specs.Wire.{digits}
use Rattle.ring.specs.Choosing.{ChoiceAnswer, chosen_as, choose_faults, choose_of, choice_number}
use Rattle.ring.proofs.Bounds as Choices
use Rattle.ring.proofs.Faults as Choosing
use Rattle.wrap.specs.Walking.{PathAnswer, journey, path_faults, path_of, path_number}
use Rattle.wrap.proofs.Answers as Paths
use Rattle.answer.specs.Bytes.{bit_of, chosen_bytes, moved_bytes}
use Rattle.answer.proofs.Bytes.{packed_bytes, bit_most}
use Rattle.rpr.specs.Ways.{choice_answer, choose_answer, moved_answer, path_answer}
use Rattle.rpr.specs.Shape.{alone, Bears}
use Rattle.rpr.proofs.Shape.{most_number, first_most, digits_alone}

-- ---- rpr_choose

choice_bears : (c : ChoiceAnswer) (n : ℕ) → choice_number c ≡ n → n ≤ most_number → Bears n (choice_answer c)
choice_bears (Ok c) n e h = record { byte_0 = omega arith; others = λ p. absurd (omega arith) }
choice_bears (Err r) n e h = record { byte_0 = omega arith; others = λ p. ap (λ k. digits 8 k) e ∙ digits_alone n h }

module _ (stations own target links side protection ring : ℕ) where
  -- byte 0 is the number of the row that counts, 0 where none does
  pub choose_leaves : Bears (first_of (choose_faults stations own target links side protection ring)) (choose_answer stations own target links side protection ring)
  unfolding choose_answer
  choose_leaves =
      choice_bears (choose_of stations own target links side protection ring) _ (Choosing.number_first stations own target links side protection ring)
      (first_most (choose_faults stations own target links side protection ring) refl)

  -- a number is given exactly when its row applies and none before it does
  pub choose_refused_exactly : RefusedExactly (choose_answer stations own target links side protection ring % 256)
      (choose_faults stations own target links side protection ring)
  choose_refused_exactly = refused_exactly (choose_faults stations own target links side protection ring) refl _ choose_leaves.byte_0

  -- where the choice is made, byte 1 is the side, 2 the distance, 3 the ttl and 4 the wrap mark
  pub choose_bytes : (code distance ttl : ℕ) (mark : Bool) →
      choose_of stations own target links side protection ring ≡ chosen_as code distance ttl mark →
      digits 8 (choose_answer stations own target links side protection ring) ≡ 0 ∷ code ∷ distance ∷ ttl ∷ bit_of mark ∷ 0 ∷ 0 ∷ 0 ∷ []
  unfolding choose_answer
  choose_bytes code distance ttl mark e =
      let h = Choices.chosen_small stations own target links side protection ring code distance ttl mark e in
      let b = bit_most mark in
      ap (λ (c : ChoiceAnswer). digits 8 (choice_answer c)) e
      ∙ packed_bytes (chosen_bytes code distance ttl mark) (omega arith)

  -- and where it is refused, the number stands alone
  pub choose_refused_bytes : (r : Refusal) → choose_of stations own target links side protection ring ≡ Err r
      → digits 8 (choose_answer stations own target links side protection ring) ≡ alone (number_in r)
  unfolding choose_answer
  choose_refused_bytes r e =
      let n = number_in r in
      let f : choice_number (choose_of stations own target links side protection ring) ≡ n = ap choice_number e in
      let g = Choosing.number_first stations own target links side protection ring in
      let h = first_most (choose_faults stations own target links side protection ring) refl in
      ap (λ (c : ChoiceAnswer). digits 8 (choice_answer c)) e ∙ digits_alone n (omega arith)

-- ---- rpr_path

moved_bears : (o : PathAnswer) (n : ℕ) → path_number o ≡ n → n ≤ most_number → Bears n (moved_answer o)
moved_bears (Ok j) n e h = record { byte_0 = omega arith; others = λ p. absurd (omega arith) }
moved_bears (Err r) n e h = record { byte_0 = omega arith; others = λ p. ap (λ k. digits 8 k) e ∙ digits_alone n h }

module _ (stations own target links home : ℕ) where
  pub path_leaves : Bears (first_of (path_faults stations own target links home)) (path_answer stations own target links home)
  unfolding path_answer
  path_leaves =
      moved_bears (path_of stations own target links home) _ (Paths.number_first stations own target links home)
      (first_most (path_faults stations own target links home) refl)

  pub path_refused_exactly : RefusedExactly (path_answer stations own target links home % 256) (path_faults stations own target links home)
  path_refused_exactly = refused_exactly (path_faults stations own target links home) refl _ path_leaves.byte_0

  -- where the path is walked, byte 1 is whether the frame is delivered and byte 2 the hops
  pub path_bytes : (delivered : Bool) (hops : ℕ) → path_of stations own target links home ≡ journey delivered hops →
      digits 8 (path_answer stations own target links home) ≡ 0 ∷ bit_of delivered ∷ hops ∷ 0 ∷ 0 ∷ 0 ∷ 0 ∷ 0 ∷ []
  unfolding path_answer
  path_bytes delivered hops e =
      let h = (Paths.path_length stations own target links home delivered hops e).small in
      let b = bit_most delivered in
      ap (λ (o : PathAnswer). digits 8 (moved_answer o)) e
      ∙ packed_bytes (moved_bytes delivered hops) (omega arith)
