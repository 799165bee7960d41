-- Texts written one behind the other are their `++` written at once.
-- Assumes nothing.
use mathlib.Core.Path.{◌≡◌, refl, sym, ap, ◌∙◌}
use mathlib.Core.List.{List, [], ◌∷◌, ◌++◌}
use Prim.Native.Nat.{ℕ, ◌+◌, ◌≤◌, ◌<◌}
use native.Mathlib.Omega.{arith}
use lib.ListN.{length, set, length-append}
use Rattle.wire.specs.Wire.{put}
use Rattle.report.specs.Text.{ascii, line}
use Rattle.wire.proofs.Puts.{put_sets, put_put}

-- xs with bs written from at on is ys, and r is the place behind
abbrev pub Filled : List ℕ → ℕ → List ℕ → ℕ → List ℕ → Type 0
Filled xs at bs r ys = (r ≡ at + length bs) × (ys ≡ put xs at bs)

-- a store writes one byte
pub filled_one : (xs : List ℕ) (at v : ℕ) → at < length xs → Filled xs at (v ∷ []) (at + 1) (set xs at v)
filled_one xs at v h = (refl, sym (put_sets xs (v ∷ []) at (omega arith)))

-- a text, and another behind it
pub filled_more : (xs bs cs ys zs : List ℕ) (at r q : ℕ) → Filled xs at bs r ys → Filled ys r cs q zs →
    q ≤ length xs → Filled xs at (bs ++ cs) q zs
filled_more xs bs cs ys zs at r q w v h =
    let l = length-append bs cs in
    (omega arith, v.1 ∙ ap (λ (l : List ℕ). put l r cs) w.1 ∙ put_put xs bs cs at r w.0 (omega arith))

-- how long a line is
pub length_line : (words number : List ℕ) → length (line words number) ≡ length words + length number + 1
unfolding line
length_line words number = length-append (words ++ number) (ascii "\n") ∙ ap (λ (n : ℕ). n + 1) (length-append words number)

-- a line that is written in its three parts
pub filled_line : (xs words number ys zs ws : List ℕ) (at r q p : ℕ) → Filled xs at words r ys → Filled ys r number q zs →
    Filled zs q (ascii "\n") p ws → at + length (line words number) ≤ length xs → Filled xs at (line words number) p ws
unfolding line
filled_line xs words number ys zs ws at r q p w n e h =
    let l = length_line words number in
    filled_more xs (words ++ number) (ascii "\n") zs ws at q p (filled_more xs words number ys zs at r q w n (omega arith)) e (omega arith)
