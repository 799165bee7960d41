-- Public functions of `advert`, by name: two answers that meet the contract are equal.
-- Assumes nothing.
use Rattle.advert.specs.Frame.{advert_bytes, parsed_of, whole}
use Rattle.advert.specs.declared.Advert.{Advert}
use Rattle.decide.specs.Test.{test}
use Rattle.decide.specs.declared.refusal.Refusal.{Refusal}
use Rattle.std.specs.Prelude.{Bool, List, Result, ℕ, ◌≡◌}
use Rattle.paper.specs.Determined.{Determined}

pub record Functions : Type 0 where
  -- write (a leaf: it asks that length room.old ≡ advert_length)
  pub write : (advert : Advert) (room : List ℕ) → Determined (λ (after-room : List ℕ). after-room ≡ advert_bytes advert)
  -- parse
  pub parse : (frame : List ℕ) → Determined (λ (r : Result Advert Refusal). r ≡ parsed_of frame)
  -- is_whole
  pub is_whole : (frame : List ℕ) → Determined (λ (r : Bool). r ≡ test (whole frame))
