-- Public functions of `wire`, by name: two answers that meet the contract are equal.
-- Assumes nothing.
use Rattle.std.specs.Prelude.{List, length, ℕ, ℤ, ◌≡◌}
use Rattle.wire.specs.Signed.{signed_of, unsigned_of}
use Rattle.wire.specs.Wire.{be, digits, digits_be, le, put}
use Rattle.wire.specs.Words.{words_at, words_bytes}
use Rattle.paper.specs.Determined.{Determined}

pub record Functions : Type 0 where
  -- get16 (a leaf: it asks that at + 2 ≤ length s.now)
  pub get16 : (s : List ℕ) (at : ℕ) → Determined (λ (r : ℕ). r ≡ le 2 s at)
  -- get32 (a leaf: it asks that at + 4 ≤ length s.now)
  pub get32 : (s : List ℕ) (at : ℕ) → Determined (λ (r : ℕ). r ≡ le 4 s at)
  -- get64 (a leaf: it asks that at + 8 ≤ length s.now)
  pub get64 : (s : List ℕ) (at : ℕ) → Determined (λ (r : ℕ). r ≡ le 8 s at)
  -- put16 (a leaf: it asks that at + 2 ≤ length s.old)
  pub put16 : (s : List ℕ) (at v : ℕ) → Determined (λ (after-s : List ℕ). after-s ≡ put s at (digits 2 v))
  -- put32 (a leaf: it asks that at + 4 ≤ length s.old)
  pub put32 : (s : List ℕ) (at v : ℕ) → Determined (λ (after-s : List ℕ). after-s ≡ put s at (digits 4 v))
  -- put64 (a leaf: it asks that at + 8 ≤ length s.old)
  pub put64 : (s : List ℕ) (at v : ℕ) → Determined (λ (after-s : List ℕ). after-s ≡ put s at (digits 8 v))
  -- get16be (a leaf: it asks that at + 2 ≤ length s.now)
  pub get16be : (s : List ℕ) (at : ℕ) → Determined (λ (r : ℕ). r ≡ be 2 s at)
  -- get48be (a leaf: it asks that at + 6 ≤ length s.now)
  pub get48be : (s : List ℕ) (at : ℕ) → Determined (λ (r : ℕ). r ≡ be 6 s at)
  -- put16be (a leaf: it asks that at + 2 ≤ length s.old)
  pub put16be : (s : List ℕ) (at v : ℕ) → Determined (λ (after-s : List ℕ). after-s ≡ put s at (digits_be 2 v))
  -- put48be (a leaf: it asks that at + 6 ≤ length s.old)
  pub put48be : (s : List ℕ) (at v : ℕ) → Determined (λ (after-s : List ℕ). after-s ≡ put s at (digits_be 6 v))
  -- read_words (a leaf: it asks that at + 4 * N ≤ length s.now)
  pub read_words : (N : ℕ) (s : List ℕ) (at : ℕ) → Determined (λ (r : List ℕ). r ≡ words_at N s at)
  -- write_words (a leaf: it asks that at + 4 * N ≤ length s.old)
  pub write_words : (N : ℕ) (words s : List ℕ) (at : ℕ) → Determined (λ (after-s : List ℕ). (after-s ≡ put s at (words_bytes words)) × (length words ≡ N))
  -- signed64
  pub signed64 : (x : ℕ) → Determined (λ (r : ℤ). r ≡ signed_of x)
  -- unsigned64
  pub unsigned64 : (x : ℤ) → Determined (λ (r : ℕ). r ≡ unsigned_of x)
