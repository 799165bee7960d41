-- Words that stand one behind the other: read where they stand, standing where they are read, each at its own offset.
-- Assumes nothing.
use Prim.Native.Nat.{ℕ, ◌+◌, ◌*◌, ◌≤◌}
use mathlib.Core.List.{List, [], ◌∷◌}
use mathlib.Core.Path.{◌≡◌, refl, subst}
use native.Mathlib.Nat.{add_assoc}
use lib.ListN.{length}
use Rattle.wire.specs.Wire.{le, Bytes}
use Rattle.wire.proofs.Places.{Stands}
use Rattle.slots.specs.Slots.{WordsFit}
use Rattle.wire.specs.Words.{words_bytes, words_at}
use Rattle.slots.proofs.Round as slots

-- ---- what is read

-- the words that are read k bytes and more behind at
abbrev pub ReadBehind : List ℕ → ℕ → ℕ → List ℕ → Type 0
ReadBehind xs at k [] = Unit {0}
ReadBehind xs at k (v ∷ vs) = (le 4 xs (at + k) ≡ v) × ReadBehind xs at (k + 4) vs

-- the first is read at the place itself
abbrev pub Read : List ℕ → ℕ → List ℕ → Type 0
Read xs at [] = Unit {0}
Read xs at (v ∷ vs) = (le 4 xs at ≡ v) × ReadBehind xs at 4 vs

module _ (xs : List ℕ) (at : ℕ) where
  -- the list of words that is read says the same
  behind_listed : (vs : List ℕ) (k : ℕ) → ReadBehind xs at k vs → words_at (length vs) xs (at + k) ≡ vs
  unfolding words_at
  behind_listed [] k r = refl
  behind_listed (v ∷ vs) k r = rw (r.0, add_assoc at k 4, behind_listed vs (k + 4) r.1)

  listed : (vs : List ℕ) → Read xs at vs → words_at (length vs) xs at ≡ vs
  unfolding words_at
  listed [] r = refl
  listed (v ∷ vs) r = rw (r.0, behind_listed vs 4 r.1)

  listed_behind : (vs : List ℕ) (k : ℕ) → words_at (length vs) xs (at + k) ≡ vs → ReadBehind xs at k vs
  unfolding words_at
  listed_behind [] k e = tt
  listed_behind (v ∷ vs) k e =
      let rest : words_at (length vs) xs (at + k + 4) ≡ vs = cc in
      (cc, listed_behind vs (k + 4) (rw add_assoc at rest))

  -- words are read where they stand
  pub words_back : (vs : List ℕ) → WordsFit vs → Stands xs at (words_bytes vs) → Read xs at vs
  unfolding words_at
  words_back [] f s = tt
  words_back (v ∷ vs) f s =
      let e = slots.words_back xs (v ∷ vs) at f s in
      (cc, listed_behind vs 4 (cc))

  module _ (b : Bytes xs) (vs : List ℕ) where
    -- words stand where they are read
    pub words_stand : at + 4 * length vs ≤ length xs → Read xs at vs → Stands xs at (words_bytes vs)
    words_stand h r = subst (λ (ws : List ℕ). Stands xs at (words_bytes ws)) (listed vs r) (slots.words_stand xs b (length vs) at h)

    -- and fit
    pub words_fit : Read xs at vs → WordsFit vs
    words_fit r = subst WordsFit (listed vs r) (slots.words_fit (length vs) xs at b)
