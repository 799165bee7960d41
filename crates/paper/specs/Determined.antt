-- When an answer is determined: any two that meet the contract are equal.
-- Assumes nothing.
use Rattle.std.specs.Prelude.{◌≡◌}

-- of one answer, or of what is left behind a reference
abbrev pub Determined : {A : Type 0} → (A → Type 0) → Type 0
Determined {A} Meets = (x y : A) → Meets x → Meets y → x ≡ y

-- of an answer and of what is left behind a reference
abbrev pub Determined² : {A B : Type 0} → (A → B → Type 0) → Type 0
Determined² {A} {B} Meets = (x y : A) (s t : B) → Meets x s → Meets y t → (x ≡ y) × (s ≡ t)
