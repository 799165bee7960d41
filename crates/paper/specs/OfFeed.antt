-- Public functions of `feed`, by name: two answers that meet the contract are equal.
-- Assumes nothing.
use Rattle.decide.specs.declared.refusal.Refusal.{Refusal}
use Rattle.feed.specs.Feed.{ends_of, fed_byte, fed_of, finish_of, start_of}
use Rattle.feed.specs.declared.Feed.{Feed}
use Rattle.std.specs.Prelude.{Bool, List, Result, ℕ, ◌≡◌}
use Rattle.summary.specs.declared.Summary.{Summary}
use Rattle.paper.specs.Determined.{Determined}

pub record Functions : Type 0 where
  -- Feed::new
  pub feed_new : Determined (λ (r : Feed). r ≡ start_of)
  -- Feed::byte
  pub feed_byte : (self : Feed) (b : ℕ) → Determined (λ (r : Feed). r ≡ fed_byte self b)
  -- Feed::feed
  pub feed_feed : (self : Feed) (chunk : List ℕ) → Determined (λ (r : Feed). r ≡ fed_of self chunk)
  -- Feed::ends
  pub feed_ends : (self : Feed) → Determined (λ (r : Bool). r ≡ ends_of self)
  -- Feed::finish
  pub feed_finish : (self : Feed) → Determined (λ (r : Result Summary Refusal). r ≡ finish_of self)
