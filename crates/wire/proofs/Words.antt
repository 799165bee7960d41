-- One turn more of the loops over words: a word is read behind those that were read, and written behind those that were written.
-- Assumes nothing.
use Prim.Native.Nat.{ℕ, suc, ◌+◌, ◌*◌, ◌-◌, ◌≤◌, ◌<◌}
use mathlib.Core.List.{List, [], ◌∷◌, ◌++◌, append_assoc, append-nil}
use mathlib.Core.Path.{◌≡◌, refl, sym, ap, ◌∙◌}
use native.Mathlib.Omega.{arith}
use native.Mathlib.Numerals.{add-one}
use lib.ListN.{length, take, set, get_or}
use lib.Seq.{take-suc, take-suc-set, take_all, length-take-le}
use Rattle.wire.specs.Wire.{le, digits, put, length_digits}
use Rattle.wire.specs.Words.{words_bytes, words_length, words_at}
use Rattle.wire.proofs.Puts.{put_put}

-- ---- reading: the first i words of l, and those still to come, are the whole

module _ (xs : List ℕ) (at n : ℕ) (l whole : List ℕ) (i : ℕ) (e : length l ≡ n) (w : take i l ++ words_at (n - i) xs (at + 4 * i) ≡ whole) where
  pub read_more : i < n → take (i + 1) (set l i (le 4 xs (at + 4 * i))) ++ words_at (n - (i + 1)) xs (at + 4 * (i + 1)) ≡ whole
  unfolding words_at
  read_more h =
      let d : n - i ≡ suc (n - (i + 1)) = omega arith in
      let k : at + 4 * (i + 1) ≡ at + 4 * i + 4 = omega arith in
      let t : take (i + 1) (set l i (le 4 xs (at + 4 * i))) ≡ take i l ++ (le 4 xs (at + 4 * i) ∷ []) =
      rw add-one (take-suc-set l i (le 4 xs (at + 4 * i)) (omega arith)) in
      rw (t, k, append_assoc) (rw d at w)

  pub read_all : n ≤ i → l ≡ whole
  unfolding words_at
  read_all h =
      let d : n - i ≡ 0 = omega arith in
      sym (take_all i l (omega arith)) ∙ sym (append-nil (take i l)) ∙ (rw d at w)

-- ---- writing: the first i words are written

words_append : (us vs : List ℕ) → words_bytes (us ++ vs) ≡ words_bytes us ++ words_bytes vs
unfolding words_bytes
words_append [] vs = refl
words_append (u ∷ us) vs = rw (words_append us vs, append_assoc)

pub write_more : (xs : List ℕ) (at : ℕ) (ws : List ℕ) (i : ℕ) → i < length ws → at + 4 * length ws ≤ length xs →
    put (put xs at (words_bytes (take i ws))) (at + 4 * i) (digits 4 (get_or ws i 0)) ≡ put xs at (words_bytes (take (i + 1) ws))
unfolding words_bytes
write_more xs at ws i h k =
    put_put xs (words_bytes (take i ws)) (digits 4 (get_or ws i 0)) at (at + 4 * i)
    (omega (arith, words_length (take i ws), length-take-le i ws (omega arith)))
    (omega (arith, length_digits 4 (get_or ws i 0)))
    ∙ ap (λ (r : List ℕ). put xs at (words_bytes (take i ws) ++ r)) (sym (append-nil (digits 4 (get_or ws i 0))))
    ∙ ap (λ (r : List ℕ). put xs at r) (sym (words_append (take i ws) (get_or ws i 0 ∷ [])))
    ∙ rw (add-one, take-suc ws i 0)
