-- Parts that stand at a place, each at its own offset, stand there together.
-- Assumes nothing.
use Prim.Native.Nat.{ℕ, ◌+◌, ◌≤◌}
use mathlib.Core.List.{List, [], ◌∷◌}
use mathlib.Core.Path.{sym, subst, ◌∙◌}
use native.Mathlib.Nat.{add_assoc}
use native.Mathlib.Omega.{arith}
use lib.ListN.{length}
use Rattle.wire.specs.Wire.{Bytes}
use Rattle.wire.specs.Parts.{Part, laid_out, sizes, length_laid_out}
use Rattle.wire.proofs.Places.{Stands, stands_put, bytes_append}
use Rattle.wire.proofs.Laid.{Standing, laid_put, laid_standing}

-- each part stands k bytes and more behind at
abbrev pub Behind : List ℕ → ℕ → ℕ → List Part → Type 0
Behind xs at k [] = Unit {0}
Behind xs at k (p ∷ ps) = Stands xs (at + k) p.bytes × Behind xs at (k + p.size) ps

-- the first stands at the place itself
abbrev pub Placed : List ℕ → ℕ → List Part → Type 0
Placed xs at [] = Unit {0}
Placed xs at (p ∷ ps) = Stands xs at p.bytes × Behind xs at p.size ps

behind : (ps : List Part) (xs : List ℕ) (at k : ℕ) → Behind xs at k ps → Standing xs (at + k) ps
behind [] xs at k s = s
behind (p ∷ ps) xs at k s = (s.0, subst (λ (j : ℕ). Standing xs j ps) (sym (add_assoc at k p.size)) (behind ps xs at (k + p.size) s.1))

standing : (ps : List Part) (xs : List ℕ) (at : ℕ) → Placed xs at ps → Standing xs at ps
standing [] xs at s = s
standing (p ∷ ps) xs at s = (s.0, behind ps xs at p.size s.1)

pub placed_stand : (ps : List Part) (xs : List ℕ) (at : ℕ) → at + sizes ps ≤ length xs → Placed xs at ps → Stands xs at (laid_out ps)
placed_stand ps xs at h s =
    subst (λ (l : List ℕ). Stands l at (laid_out ps))
    (sym (laid_put ps xs at h) ∙ laid_standing ps xs at h (standing ps xs at s))
    (stands_put xs (laid_out ps) at (omega (arith, length_laid_out ps)))

-- parts of bytes are bytes together
abbrev pub AllBytes : List Part → Type 0
AllBytes [] = Unit {0}
AllBytes (p ∷ ps) = Bytes p.bytes × AllBytes ps

pub laid_out_bytes : (ps : List Part) → AllBytes ps → Bytes (laid_out ps)
laid_out_bytes [] b = λ j. omega arith
laid_out_bytes (p ∷ ps) b = bytes_append p.bytes (laid_out ps) b.0 (laid_out_bytes ps b.1)
