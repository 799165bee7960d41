-- How long the lines are: each the sum of its parts, and none longer than 88 bytes, whatever numbers it holds.
-- Assumes nothing.
use mathlib.Core.Path.{◌≡◌, ap, ◌∙◌}
use mathlib.Core.List.{List, [], ◌++◌}
use Prim.Native.Nat.{ℕ, ◌+◌, ◌≤◌, ◌<◌}
use native.Mathlib.Omega.{arith}
use lib.Dec.{eqb}
use lib.ListN.{length, length-append}
use Rattle.shaper.specs.declared.Event.{Event}
use Rattle.shaper.specs.declared.Event.TheVariants.{Waiting, Idle, Send}
use Rattle.shaper.specs.Kind.{number_of}
use Rattle.decide.proofs.Cases.{of_each}
use Rattle.wire.specs.Wire.{put}
use Rattle.wire.proofs.Puts.{length_put}
use Rattle.report.specs.Text.{ascii, numeral, line}
use Rattle.report.proofs.Numeral.{numeral_fits}
use Rattle.report.proofs.Filled.{Filled, length_line}
use Rattle.apart.specs.Text.{named, setting_text, event_text, head_text, both_text, only_text}

-- what is written leaves the length
pub filled_length : (xs bs ys : List ℕ) (at r : ℕ) → Filled xs at bs r ys → r ≤ length xs → length ys ≡ length xs
filled_length xs bs ys at r w h = ap length w.1 ∙ length_put xs bs at (omega arith)

-- what is written at the front
pub filled_front : (xs bs ys : List ℕ) (r : ℕ) → Filled xs 0 bs r ys → (r ≡ length bs) × (ys ≡ put xs 0 bs)
filled_front xs bs ys r w = (omega (arith, w.0), w.1)

-- and it is no longer than what holds it
pub filled_within : (xs bs ys : List ℕ) (r : ℕ) → (r ≡ length bs) × (ys ≡ put xs 0 bs) → r ≤ length ys
unfolding put
filled_within xs bs ys r w = omega (arith, w.0, simp length-append at (ap length w.1))

-- ---- sums

pub length_head : (words : List ℕ) (n : ℕ) → length (head_text words n) ≡ length words + length (numeral n) + 2
length_head words n = simp length-append

pub length_both : (n : ℕ) (e f : Event) → length (both_text n e f) ≡ length (head_text (ascii "event ") n) + length (event_text e) + 2 + length (event_text f) + 1
unfolding both_text
length_both n e f = simp length-append

pub length_only : (words : List ℕ) (n : ℕ) (e : Event) → length (only_text words n e) ≡ length (head_text words n) + length (event_text e) + 1
unfolding only_text
length_only words n e = simp length-append

-- ---- bounds

-- a number of 8 bytes
abbrev pub EightBytes : ℕ → Type 0
EightBytes n = n < 18446744073709551616

event_short : (e : Event) → EightBytes (number_of e) → length (event_text e) ≤ 28
unfolding event_text
event_short (Waiting x) h = simp length-append (omega (arith, numeral_fits x h))
event_short (Idle x) h = simp length-append (omega (arith, numeral_fits x h))
event_short (Send z) h = simp length-append (omega (arith, numeral_fits z h))

pub both_short : (n : ℕ) (e f : Event) → EightBytes n → EightBytes (number_of e) → EightBytes (number_of f) → length (both_text n e f) ≤ 88
both_short n e f h he hf =
    omega (arith, length_both n e f, length_head (ascii "event ") n, numeral_fits n h, event_short e he, event_short f hf)

pub only_short : (words : List ℕ) (n : ℕ) (e : Event) → length words ≤ 19 → EightBytes n → EightBytes (number_of e) → length (only_text words n e) ≤ 88
only_short words n e w h he = omega (arith, length_only words n e, length_head words n, numeral_fits n h, event_short e he)

-- the line of a setting
pub setting_short : (words : List ℕ) (a b : ℕ) → length words ≤ 8 → EightBytes a → EightBytes b → length (setting_text words a b) ≤ 88
unfolding setting_text
setting_short words a b w ha hb =
    of_each (λ (l : List ℕ). length l ≤ 88) (eqb a b) [] (named words a ++ line (ascii ", ") (numeral b)) (λ same. omega arith)
    (λ other. simp (length-append, length_line) (omega (arith, numeral_fits a ha, numeral_fits b hb)))
