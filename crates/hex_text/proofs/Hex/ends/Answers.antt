-- Behind a fault of the record the answer is the test of its number.
-- Assumes nothing.
use Rattle.std.proofs.Common.{◌≡◌, Bool, true, false, ne_eqb, refl, sym, rules, ◌∙◌, arith}
use Rattle.std.specs.Prelude.{◌||◌}
use Rattle.decide.specs.declared.refusal.Refusal.{Refusal}
use Rattle.decide.specs.Number.{number_in}
use Rattle.feed.specs.declared.Stage.{Stage}
use Rattle.feed.specs.declared.Stage.TheVariants.{Stopped}
use Rattle.hex_text.specs.Fed.{is_lost, is_stopped_at_two}
use Rattle.hex_text.proofs.Hex.ends.Goals as goal

-- a record that is stopped by a refusal of the number 2 settles the answer, and one by another number alone does not
stopped : (b : Bool) (s : Stage) (r : Refusal) → s ≡ Stopped r → number_in r ≡ 2 → true ≡ (b || is_stopped_at_two s)
stopped true s r e n = refl
stopped false s r e n = rw (e, n)

going : (b : Bool) (s : Stage) (r : Refusal) → b ≡ false → s ≡ Stopped r → (number_in r ≡ 2 → ⊥) → false ≡ (b || is_stopped_at_two s)
going b s r l e n = rw (l, e, ne_eqb (number_in r) 2 n)

pub returns-in-Stopped : goal.returns-in-Stopped
returns-in-Stopped c =
    let two : c.number.result ≡ 2 = omega arith in
    stopped _ _ _ c.in-Stopped.is (sym c.number.ensures ∙ two)

pub returns-in_default-matches : goal.returns-in_default-matches
returns-in_default-matches c =
    let left : is_lost c.args.self.place ≡ false = search rules in
    let other : c.number.result ≡ 2 → ⊥ = omega arith in
    going _ _ _ left c.in-Stopped.is (λ n. other (c.number.ensures ∙ n))
