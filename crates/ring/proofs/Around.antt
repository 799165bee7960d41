-- The links' word rotated so that a station's own link is its lowest digit: its digits in order are the links to the right, and backwards from its
-- highest those to the left. So the zeros at either end of its complement are the unbroken runs. Assumes nothing.
use mathlib.Core.Path.{◌≡◌, refl, sym, ap, ap₂, ◌∙◌, subst}
use mathlib.Core.Bool.{Bool, false, cond}
use Prim.Native.Nat.{ℕ, zero, suc, ◌+◌, ◌-◌, ◌*◌, ◌/◌, ◌%◌, ◌^◌, ◌≤◌, ◌<◌}
use native.Mathlib.Nat.{mod-lt, mod-eq_of_lt, mod-eq-sub-mod, mod-add-mod, lt_of_lt_of_le, add-zero}
use native.Mathlib.Decide.{dec_lt}
use native.Mathlib.Omega.{arith}
use lib.Arith.{digits_lt}
use lib.Pow.{pow_pos, pow-add, pow_mono, shr_lt, shl_exact}
use lib.Count.{count_trailing_zeros, count_leading_zeros}
use Rattle.ring.specs.declared.Way.{Way}
use Rattle.ring.specs.declared.Way.TheVariants.{Left, Right}
use Rattle.ring.specs.Links.{usable, next_of, link_of, run_of, reach_of, rotated_of, Stands}
use Rattle.ring.proofs.Digits.{run, digit_shr, digit_low, digit_none, digit_below, digit_above, run_ext, run_cut, trailing_run, leading_run}

-- ---- the links that a run looks at

-- the link that is crossed after k hops
abbrev link_at : Way → ℕ → ℕ → ℕ → ℕ
link_at Right n at k = (at + k) % n
link_at Left n at k = (at + (n - 1 - k)) % n

-- a hop takes the next link's place
link_at_next : (way : Way) (n at k : ℕ) → at < n → suc k < n → link_at way n (next_of way n at) k ≡ link_at way n at (suc k)
link_at_next Right n at k h l =
    mod-add-mod (at + 1) n k ∙ ap (λ (x : ℕ). x % n) (let e : at + 1 + k ≡ at + suc k = omega arith in e)
link_at_next Left n at k h l =
    mod-add-mod (at + (n - 1)) n (n - 1 - k)
    ∙ mod-eq-sub-mod (let i : n ≤ at + (n - 1) + (n - 1 - k) = omega arith in i)
    ∙ ap (λ (x : ℕ). x % n) (let e : at + (n - 1) + (n - 1 - k) - n ≡ at + (n - 1 - suc k) = omega arith in e)

link_at_first : (way : Way) (n at : ℕ) → at < n → link_of way n at ≡ link_at way n at zero
link_at_first Right n at h = sym (mod-eq_of_lt (let i : at + zero < n = omega arith in i) ∙ add-zero at)
link_at_first Left n at h = ap (λ (x : ℕ). (at + x) % n) (let e : n - 1 ≡ n - 1 - zero = omega arith in e)

pub next_of_lt : (way : Way) (n at : ℕ) → at < n → next_of way n at < n
next_of_lt Right n at h = mod-lt (at + 1) (let i : zero < n = omega arith in i)
next_of_lt Left n at h = mod-lt (at + (n - 1)) (let i : zero < n = omega arith in i)

pub link_of_lt : (way : Way) (n at : ℕ) → at < n → link_of way n at < n
link_of_lt Right n at h = h
link_of_lt Left n at h = next_of_lt Left n at h

run_of_lem : (way : Way) (n w m at : ℕ) → at < n → m ≤ n → run_of way n w m at ≡ run (λ k. usable w (link_at way n at k)) m
unfolding run_of run
run_of_lem way n w zero at h l = refl
run_of_lem way n w (suc m) at h l =
    ap₂ (λ (b : Bool) (r : ℕ). cond b (suc r) zero) (ap (usable w) (link_at_first way n at h))
    (run_of_lem way n w m (next_of way n at) (next_of_lt way n at h) (omega arith)
    ∙ run_ext (λ k. usable w (link_at way n (next_of way n at) k)) (λ k. usable w (link_at way n at (suc k))) m
    (λ k i. ap (usable w) (link_at_next way n at k h (omega arith))))

-- ---- the rotated word

module _ (n own w : ℕ) (s : Stands n own w) where
  -- the part that stays below the cut
  pub high_lt : w / 2 ^ own < 2 ^ (n - own)
  high_lt = shr_lt (n - own) own (subst (λ (j : ℕ). w < 2 ^ j) (let e : n ≡ (n - own) + own = omega arith in e) s.clear)

  rotated_lt : rotated_of n own w < 2 ^ n
  rotated_lt =
      subst (λ (j : ℕ). rotated_of n own w < j)
      (sym (pow-add 2 own (n - own)) ∙ ap (λ (j : ℕ). 2 ^ j) (let e : own + (n - own) ≡ n = omega arith in e))
      (digits_lt (mod-lt w (pow_pos own)) high_lt)

  rotated_digit : (k : ℕ) → k < n → usable (rotated_of n own w) k ≡ usable w ((own + k) % n)
  rotated_digit k h = go (dec_lt k (n - own))
    where
      go : Dec (k < n - own) → usable (rotated_of n own w) k ≡ usable w ((own + k) % n)
      go (yes l) =
          digit_below (w % 2 ^ own) (n - own) (w / 2 ^ own) k high_lt l ∙ digit_shr w own k
          ∙ ap (usable w) (sym (mod-eq_of_lt (let i : own + k < n = omega arith in i)))
      go (no f) =
          let ge : n - own ≤ k = omega arith in
          let j : ℕ = k - (n - own) in
          let at : k ≡ (n - own) + j = omega arith in
          let back : j ≡ (own + k) - n = omega arith in
          ap (usable (rotated_of n own w)) at ∙ digit_above (w % 2 ^ own) (n - own) (w / 2 ^ own) j high_lt
          ∙ digit_low w own j (omega arith)
          ∙ ap (usable w) (back ∙ sym (mod-eq-sub-mod (let i : n ≤ own + k = omega arith in i) ∙ mod-eq_of_lt (let i : (own + k) - n < n = omega arith in i)))

  in_word : rotated_of n own w < 2 ^ 64
  in_word = lt_of_lt_of_le rotated_lt (pow_mono {i = n} {j = 64} (omega arith))

  pub right_is : count_trailing_zeros 64 ((2 ^ 64 - 1) - rotated_of n own w) ≡ reach_of Right n own w
  right_is =
      trailing_run 64 (rotated_of n own w) in_word
      ∙ run_cut (usable (rotated_of n own w)) n 64 (omega arith) (digit_none (rotated_of n own w) n rotated_lt)
      ∙ run_ext (usable (rotated_of n own w)) (λ k. usable w (link_at Right n own k)) n rotated_digit
      ∙ sym (run_of_lem Right n w n own s.station (omega arith))

  -- the word's n digits moved to the top of 64
  abbrev raised : ℕ
  raised = rotated_of n own w * 2 ^ (64 - n)

  raised_is : (rotated_of n own w * 2 ^ (64 - n)) % 2 ^ 64 ≡ rotated_of n own w * 2 ^ (64 - n)
  raised_is = shl_exact n (64 - n) 64 rotated_lt (omega arith)

  raised_lt : raised < 2 ^ 64
  raised_lt = subst (λ (x : ℕ). x < 2 ^ 64) raised_is (mod-lt raised (pow_pos 64))

  raised_digit : (k : ℕ) → k < n → usable raised (64 - 1 - k) ≡ usable w (link_at Left n own k)
  raised_digit k h =
      let at : 64 - 1 - k ≡ (64 - n) + (n - 1 - k) = omega arith in
      ap₂ usable (sym (add-zero raised)) at
      ∙ digit_above (rotated_of n own w) (64 - n) zero (n - 1 - k) (pow_pos (64 - n))
      ∙ rotated_digit (n - 1 - k) (omega arith)

  raised_end : usable raised (64 - 1 - n) ≡ false
  raised_end =
      ap (λ (x : ℕ). usable x (64 - 1 - n)) (sym (add-zero raised))
      ∙ digit_below (rotated_of n own w) (64 - n) zero (64 - 1 - n) (pow_pos (64 - n)) (omega arith)
      ∙ digit_none zero (64 - 1 - n) (pow_pos (64 - 1 - n))

  pub left_is : count_leading_zeros 64 ((2 ^ 64 - 1) - (rotated_of n own w * 2 ^ (64 - n)) % 2 ^ 64) ≡ reach_of Left n own w
  left_is =
      ap (λ (x : ℕ). count_leading_zeros 64 ((2 ^ 64 - 1) - x)) raised_is
      ∙ leading_run 64 raised raised_lt
      ∙ run_cut (λ k. usable raised (64 - 1 - k)) n 64 (omega arith) raised_end
      ∙ run_ext (λ k. usable raised (64 - 1 - k)) (λ k. usable w (link_at Left n own k)) n raised_digit
      ∙ sym (run_of_lem Left n w n own s.station (omega arith))
