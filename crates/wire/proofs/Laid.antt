-- Parts laid out one after another: a run of puts is one put, each part is read back where it stands, and parts that stand in
-- a list already are that list. Assumes nothing.
use mathlib.Core.Path.{◌≡◌, refl, sym, ap, ◌∙◌}
use mathlib.Core.List.{List, [], ◌∷◌, ◌++◌}
use Prim.Native.Nat.{ℕ, zero, suc, ◌+◌, ◌^◌, ◌≤◌, ◌<◌}
use native.Mathlib.Omega.{arith}
use native.Mathlib.Nat.{add-zero, add_assoc}
use lib.ListN.{length, length-append, get_or-append}
use lib.Seq.{get_or-append-add}
use Rattle.wire.specs.Wire.{le, be, digits, put}
use Rattle.wire.specs.Parts.{Part, number, number_be, laid_out, sizes, laid, nth, offset, length_laid_out}
use Rattle.wire.proofs.Puts.{put_put, put_nil, put_whole, length_put}
use Rattle.wire.proofs.Places.{Stands, put_stands}
use Rattle.wire.proofs.Numbers.{le_stands, be_stands}

pub laid_put : (ps : List Part) (xs : List ℕ) (at : ℕ) → at + sizes ps ≤ length xs → laid xs at ps ≡ put xs at (laid_out ps)
laid_put [] xs at h = sym (put_nil xs at)
laid_put (p ∷ ps) xs at h =
    let hd : length p.bytes ≡ p.size = p.sized in
    let hl : length (put xs at p.bytes) ≡ length xs = length_put xs p.bytes at (omega arith) in
    laid_put ps (put xs at p.bytes) (at + p.size) (omega arith)
    ∙ put_put xs p.bytes (laid_out ps) at (at + p.size) (omega arith) (omega (arith, length_laid_out ps))

-- parts that fill a list take its place
pub laid_whole : (ps : List Part) (xs : List ℕ) → sizes ps ≡ length xs → laid xs 0 ps ≡ laid_out ps
laid_whole ps xs e = laid_put ps xs 0 (omega arith) ∙ put_whole xs (laid_out ps) (length_laid_out ps ∙ e)

-- ---- read back

-- where two lists of bytes stand together, each stands
stands_first : (xs bs cs : List ℕ) (at : ℕ) → Stands xs at (bs ++ cs) → Stands xs at bs
stands_first xs bs cs at s i l = s i (omega (arith, length-append bs cs)) ∙ get_or-append bs cs 0 i l

stands_second : (xs bs cs : List ℕ) (at n : ℕ) → length bs ≡ n → Stands xs at (bs ++ cs) → Stands xs (at + n) cs
stands_second xs bs cs at n e s i l =
    rw (← e, add_assoc) (s (length bs + i) (omega (arith, length-append bs cs)) ∙ get_or-append-add bs cs i 0)

-- where parts stand, the k-th stands at its offset
pub part_stands : (ps : List Part) (k : ℕ) (xs : List ℕ) (at : ℕ) → Stands xs at (laid_out ps) → Stands xs (at + offset ps k) (nth ps k).bytes
unfolding digits
part_stands [] k xs at s = λ i l. omega arith
part_stands (p ∷ ps) zero xs at s = rw add-zero (stands_first xs p.bytes (laid_out ps) at s)
part_stands (p ∷ ps) (suc k) xs at s =
    rw (← add_assoc) (part_stands ps k xs (at + p.size) (stands_second xs p.bytes (laid_out ps) at p.size p.sized s))

-- where parts stand, a number that is the k-th is read back at its offset
pub le_part : (ps : List Part) (k w v : ℕ) (xs : List ℕ) (at : ℕ) → (nth ps k).bytes ≡ (number w v).bytes → v < 256 ^ w →
    Stands xs at (laid_out ps) → le w xs (at + offset ps k) ≡ v
le_part ps k w v xs at e h s = le_stands w v xs (at + offset ps k) h (rw e at (part_stands ps k xs at s))

pub be_part : (ps : List Part) (k w v : ℕ) (xs : List ℕ) (at : ℕ) → (nth ps k).bytes ≡ (number_be w v).bytes → v < 256 ^ w →
    Stands xs at (laid_out ps) → be w xs (at + offset ps k) ≡ v
be_part ps k w v xs at e h s = be_stands w v xs (at + offset ps k) h (rw e at (part_stands ps k xs at s))

-- ---- parts that stand already

-- each part stands in xs, the first from at on and each other behind the one before
abbrev pub Standing : List ℕ → ℕ → List Part → Type 0
Standing xs at [] = Unit {0}
Standing xs at (p ∷ ps) = Stands xs at p.bytes × Standing xs (at + p.size) ps

pub laid_standing : (ps : List Part) (xs : List ℕ) (at : ℕ) → at + sizes ps ≤ length xs → Standing xs at ps → laid xs at ps ≡ xs
laid_standing [] xs at h s = refl
laid_standing (p ∷ ps) xs at h s =
    let hd : length p.bytes ≡ p.size = p.sized in
    ap (λ (l : List ℕ). laid l (at + p.size) ps) (put_stands xs p.bytes at (omega arith) s.0)
    ∙ laid_standing ps xs (at + p.size) (omega arith) s.1

-- parts that stand in a list and fill it are that list
pub whole_standing : (ps : List Part) (xs : List ℕ) → sizes ps ≡ length xs → Standing xs 0 ps → laid_out ps ≡ xs
whole_standing ps xs e s = sym (laid_whole ps xs e) ∙ laid_standing ps xs 0 (omega arith) s
