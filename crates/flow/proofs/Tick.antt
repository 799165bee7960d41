-- The tick, row by row: which shaper waits, what it is given, and what it is left with.
-- Assumes nothing.
use Prim.Native.Nat.{ℕ, ◌+◌, min}
use mathlib.Core.Bool.{Bool, true, false, ◌||◌}
use mathlib.Core.Logic.{◌⊎◌, inl, inr, ◌↔◌, ◌≢◌, ⊎_elim}
use mathlib.Core.Path.{◌≡◌, refl, ◌∙◌}
use Rattle.decide.specs.Test.{either, or_r}
use Rattle.shaper.specs.Credit.{next}
use Rattle.shaper.specs.Credit as shaper
use Rattle.queue.specs.Queue.{holds_frame}
use Rattle.settings.specs.declared.Settings.{Settings}
use Rattle.credits.specs.declared.Which.{Which}
use Rattle.credits.specs.declared.Which.TheVariants.{M, A, B, C, D}
use Rattle.credits.specs.Which.{bucket_of, credit_of, limits_for}
use Rattle.credits.proofs.Range.{credit_fed}
use Rattle.flow.specs.declared.Flow.{Flow}
use Rattle.flow.specs.Parts.{stage_holds, with_credits}
use Rattle.flow.specs.Tick.{waits, amount_of, tick_events, tick_of}
use Rattle.flow.specs.Frames.{Holding, Staged}
use Rattle.flow.proofs.Held.{holding, staged}

or_true : (a b : Bool) → ((a || b) ≡ true) ↔ ((a ≡ true) ⊎ (b ≡ true))
or_true a b = (either a b, ⊎_elim (λ p. rw p) (or_r a b))

-- ---- who waits

module _ (f : Flow) (a b c : Bool) where
  -- M waits when the control queue holds a frame;
  pub m_waits : (waits f a b c M ≡ true) ↔ Holding f.control
  m_waits = holding f.control

  -- the host's tick says whether A, B .. traffic waits;
  pub a_waits : (waits f a b c A ≡ true) ↔ (a ≡ true)
  a_waits = (λ h. h, λ h. h)

  pub b_waits : (waits f a b c B ≡ true) ↔ (b ≡ true)
  b_waits = (λ h. h, λ h. h)

  -- C when B or C waits;
  pub c_waits : (waits f a b c C ≡ true) ↔ ((b ≡ true) ⊎ (c ≡ true))
  c_waits = or_true b c

  -- D when B or C waits or the stage or secondary queue holds a frame.
  pub d_waits : (waits f a b c D ≡ true) ↔ (((b ≡ true) ⊎ (c ≡ true)) ⊎ (Staged f ⊎ Holding f.secondary))
  d_waits =
      let behind = or_true (stage_holds f) (holds_frame f.secondary) in
      let all = or_true (b || c) (stage_holds f || holds_frame f.secondary) in (
        λ h. ⊎_elim
            (λ p. inl ((or_true b c).0 p))
            (λ p. inr (⊎_elim (λ s. inl ((staged f).0 s)) (λ q. inr ((holding f.secondary).0 q)) (behind.0 p)))
            (all.0 h),
        λ h. all.1
            (⊎_elim
            (λ p. inl ((or_true b c).1 p))
            (λ p. inr (behind.1 (⊎_elim (λ s. inl ((staged f).1 s)) (λ q. inr ((holding f.secondary).1 q)) p)))
            h),
      )

-- ---- what it is given

-- C's amount is the smaller of its setting and its share of the allowed rate;
pub c_amount : (s : Settings) (share : ℕ) → amount_of s share C ≡ min s.shapers.c.amount share
c_amount s share = refl

-- every other shaper's is its setting.
pub set_amount : (s : Settings) (share : ℕ) (w : Which) → w ≢ C → amount_of s share w ≡ (bucket_of s w).amount
set_amount s share M n = refl
set_amount s share A n = refl
set_amount s share B n = refl
set_amount s share C n = absurd (n refl)
set_amount s share D n = refl

-- ---- what it is left with

-- the credit of a shaper after a tick of this amount, waiting or not,
abbrev pub ticks : Settings → Flow → Which → Bool → ℕ → ℕ
ticks s f w waiting amount = next (limits_for s w) (credit_of f.credits w) (shaper.tick_of waiting amount)

-- and after this tick
abbrev pub after_tick : Settings → Flow → ℕ → Bool → Bool → Bool → Which → ℕ
after_tick s f share a b c w = ticks s f w (waits f a b c w) (amount_of s share w)

-- a flow in which each credit is that, is the flow after the tick
pub tick_each : (s : Settings) (f : Flow) (share : ℕ) (a b c : Bool) {v w x y z : ℕ}
    → v ≡ after_tick s f share a b c M → w ≡ after_tick s f share a b c A → x ≡ after_tick s f share a b c B → y ≡ after_tick s f share a b c C
    → z ≡ after_tick s f share a b c D → with_credits f (record { m = v; a = w; b = x; c = y; d = z }) ≡ tick_of s f share a b c
unfolding tick_of
tick_each s f share a b c m a' b' c' d = rw (m, a', b', c', d)

module _ (s : Settings) (f : Flow) (share : ℕ) (a b c : Bool) (w : Which) where
  -- A tick adds the amount; while traffic waits the sum is cut to hiLimit,
  pub tick_waiting : waits f a b c w ≡ true
      → credit_of (tick_of s f share a b c).credits w ≡ min (credit_of f.credits w + amount_of s share w) (bucket_of s w).hi
  unfolding tick_of
  tick_waiting e = credit_fed s f.credits (tick_events s f share a b c) w ∙ rw e

  -- otherwise to loLimit.
  pub tick_idle : waits f a b c w ≡ false
      → credit_of (tick_of s f share a b c).credits w ≡ min (credit_of f.credits w + amount_of s share w) (bucket_of s w).lo
  unfolding tick_of
  tick_idle e = credit_fed s f.credits (tick_events s f share a b c) w ∙ rw e
