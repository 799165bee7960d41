-- The part of a stretch in a node, row by row: apart from the node, the whole of it, part of a block, or both halves.
-- Assumes nothing.
use Prim.Native.Nat.{ℕ, zero, suc, ◌+◌, ◌-◌}
use mathlib.Core.Bool.{true, false}
use mathlib.Core.List.{List, [], ◌∷◌, ◌++◌}
use mathlib.Core.Logic.{◌⊎◌, inl, inr, ⊎_elim}
use mathlib.Core.Path.{◌≡◌}
use Rattle.decide.proofs.Cases.{by_cases, true_or_false}
use Rattle.index.specs.Tree.{size_of, from_of, to_of, stands_at}
use Rattle.stretch.specs.declared.Found.TheVariants.{Nothing}
use Rattle.stretch.specs.Found.{Source, and_found, entry_found, whole, apart, part_in, found_in}
use Rattle.stretch.specs.Used.{Node, used_in, read_in, Among}

-- what holds of a node in each row holds of every node
module _ (n first last : ℕ) (P : ℕ → ℕ → Type 0) where
  pub by_halves :
      ((k x : ℕ) → apart n first last k x ≡ true → P k x)
      → ((k x : ℕ) → apart n first last k x ≡ false → whole n first last k x ≡ true → P k x)
      → ((x : ℕ) → apart n first last 0 x ≡ false → whole n first last 0 x ≡ false → P 0 x)
      → ((k x : ℕ) → apart n first last (suc k) x ≡ false → whole n first last (suc k) x ≡ false → P k x → P k (x + size_of k) → P (suc k) x)
      → (k x : ℕ) → P k x
  by_halves none one part both zero x =
      by_cases (true_or_false (apart n first last 0 x)) (none 0 x)
      (λ a. by_cases (true_or_false (whole n first last 0 x)) (one 0 x a) (part x a))
  by_halves none one part both (suc k) x =
      by_cases (true_or_false (apart n first last (suc k) x)) (none (suc k) x)
      (λ a. by_cases (true_or_false (whole n first last (suc k) x)) (one (suc k) x a)
      (λ w. both k x a w (by_halves none one part both k x) (by_halves none one part both k (x + size_of k))))

-- ---- what is found

module _ (q : Source) (first last : ℕ) where
  pub found_apart : (k x : ℕ) → apart q.events first last k x ≡ true → found_in q first last k x ≡ Nothing
  unfolding found_in
  found_apart zero x a = rw a
  found_apart (suc k) x a = rw a

  pub found_whole : (k x : ℕ) → apart q.events first last k x ≡ false → whole q.events first last k x ≡ true →
      found_in q first last k x ≡ entry_found q (stands_at q.events k x) (to_of q.events k x - from_of x)
  unfolding found_in
  found_whole zero x a w = rw (a, w)
  found_whole (suc k) x a w = rw (a, w)

  pub found_part : (x : ℕ) → apart q.events first last 0 x ≡ false → whole q.events first last 0 x ≡ false → found_in q first last 0 x ≡ part_in q first last x
  unfolding found_in
  found_part x a w = rw (a, w)

  pub found_both : (k x : ℕ) → apart q.events first last (suc k) x ≡ false → whole q.events first last (suc k) x ≡ false →
      found_in q first last (suc k) x ≡ and_found (found_in q first last k x) (found_in q first last k (x + size_of k))
  unfolding found_in
  found_both k x a w = rw (a, w)

-- ---- the entries used, and the blocks partly read

module _ (n first last : ℕ) where
  pub used_apart : (k x : ℕ) → apart n first last k x ≡ true → used_in n first last k x ≡ []
  unfolding used_in
  used_apart zero x a = rw a
  used_apart (suc k) x a = rw a

  pub used_whole : (k x : ℕ) → apart n first last k x ≡ false → whole n first last k x ≡ true → used_in n first last k x ≡ record { level = k; block = x } ∷ []
  unfolding used_in
  used_whole zero x a w = rw (a, w)
  used_whole (suc k) x a w = rw (a, w)

  pub used_part : (x : ℕ) → apart n first last 0 x ≡ false → whole n first last 0 x ≡ false → used_in n first last 0 x ≡ []
  unfolding used_in
  used_part x a w = rw (a, w)

  pub used_both : (k x : ℕ) → apart n first last (suc k) x ≡ false → whole n first last (suc k) x ≡ false →
      used_in n first last (suc k) x ≡ used_in n first last k x ++ used_in n first last k (x + size_of k)
  unfolding used_in
  used_both k x a w = rw (a, w)

  pub read_apart : (k x : ℕ) → apart n first last k x ≡ true → read_in n first last k x ≡ []
  unfolding read_in
  read_apart zero x a = rw a
  read_apart (suc k) x a = rw a

  pub read_whole : (k x : ℕ) → apart n first last k x ≡ false → whole n first last k x ≡ true → read_in n first last k x ≡ []
  unfolding read_in
  read_whole zero x a w = rw (a, w)
  read_whole (suc k) x a w = rw (a, w)

  pub read_part_lem : (x : ℕ) → apart n first last 0 x ≡ false → whole n first last 0 x ≡ false → read_in n first last 0 x ≡ x ∷ []
  unfolding read_in
  read_part_lem x a w = rw (a, w)

  pub read_both : (k x : ℕ) → apart n first last (suc k) x ≡ false → whole n first last (suc k) x ≡ false →
      read_in n first last (suc k) x ≡ read_in n first last k x ++ read_in n first last k (x + size_of k)
  unfolding read_in
  read_both k x a w = rw (a, w)

-- ---- a list in two parts has an element of either

module _ {A : Type 0} (d : A) where
  left_append : (es fs : List A) → Among d es → Among d (es ++ fs)
  left_append [] fs m = absurd m
  left_append (e ∷ es) fs (inl m) = inl m
  left_append (e ∷ es) fs (inr m) = inr (left_append es fs m)

  right_append : (es fs : List A) → Among d fs → Among d (es ++ fs)
  right_append [] fs m = m
  right_append (e ∷ es) fs m = inr (right_append es fs m)

  either_append : (es fs : List A) → Among d (es ++ fs) → Among d es ⊎ Among d fs
  either_append [] fs m = inr m
  either_append (e ∷ es) fs (inl m) = inl (inl m)
  either_append (e ∷ es) fs (inr m) = ⊎_elim (λ l. inl (inr l)) (λ r. inr r) (either_append es fs m)

-- what both halves use and read, and no more
module _ (n first last k x : ℕ) (a : apart n first last (suc k) x ≡ false) (w : whole n first last (suc k) x ≡ false) where
  pub used_left : (d : Node) → Among d (used_in n first last k x) → Among d (used_in n first last (suc k) x)
  used_left d m = rw (used_both n first last k x a w) (left_append d (used_in n first last k x) (used_in n first last k (x + size_of k)) m)

  pub used_right : (d : Node) → Among d (used_in n first last k (x + size_of k)) → Among d (used_in n first last (suc k) x)
  used_right d m = rw (used_both n first last k x a w) (right_append d (used_in n first last k x) (used_in n first last k (x + size_of k)) m)

  pub used_either : (d : Node) → Among d (used_in n first last (suc k) x) → Among d (used_in n first last k x) ⊎ Among d (used_in n first last k (x + size_of k))
  used_either d m = either_append d (used_in n first last k x) (used_in n first last k (x + size_of k)) (rw (used_both n first last k x a w) at m)

  pub read_left : (b : ℕ) → Among b (read_in n first last k x) → Among b (read_in n first last (suc k) x)
  read_left b m = rw (read_both n first last k x a w) (left_append b (read_in n first last k x) (read_in n first last k (x + size_of k)) m)

  pub read_right : (b : ℕ) → Among b (read_in n first last k (x + size_of k)) → Among b (read_in n first last (suc k) x)
  read_right b m = rw (read_both n first last k x a w) (right_append b (read_in n first last k x) (read_in n first last k (x + size_of k)) m)
