-- How far short the shapers are that a client frame needs, in plain words.
-- Assumes nothing.
use Prim.Native.Nat.{ℕ, ◌≤◌, ◌<◌, max}
use mathlib.Core.Bool.{true, false, ◌&&◌, true≢false}
use mathlib.Core.List.{List, [], ◌∷◌}
use mathlib.Core.Logic.{◌↔◌}
use mathlib.Core.Path.{◌≡◌, refl, sym, ap, ◌∙◌}
use native.Mathlib.Omega.{arith}
use borrow.Author.Tests.{ne_eqb}
use lib.Dec.{eqb}
use Rattle.decide.specs.Test.{both}
use Rattle.decide.proofs.Cases.{by_cases, true_or_false}
use Rattle.shaper.proofs.Short as shaper
use Rattle.settings.specs.declared.Settings.{Settings}
use Rattle.settings.specs.Range.{SettingsOk}
use Rattle.credits.specs.declared.Credits.{Credits}
use Rattle.credits.specs.declared.Way.{Way}
use Rattle.credits.specs.declared.Way.TheVariants.{Excess}
use Rattle.credits.specs.declared.Which.{Which}
use Rattle.credits.specs.declared.Which.TheVariants.{A, B, C, D}
use Rattle.credits.specs.Which.{bucket_of, credit_of, permits_of, permits_all}
use Rattle.credits.specs.Short.{short_of, short_all, AllExceed}
use Rattle.credits.specs.Way.{needs_of, way_of}
use Rattle.credits.proofs.Range.{bucket_ok_lem}
use Rattle.credits.proofs.Ways.{way_a, way_c}

module _ (s : Settings) (c : Credits) where
  -- The shortfall of several is the least amount whose addition would make each credit exceed its loLimit.
  pub short_least : (ws : List Which) (x : ℕ) → AllExceed s c x ws ↔ (short_all s c ws ≤ x)
  short_least [] x = (λ h. omega arith, λ h. tt)
  short_least (w ∷ ws) x =
      let one = shaper.shortfall_least (credit_of c w) (bucket_of s w).lo x in
      let rest = short_least ws x in (
        λ h. let a = one.0 h.0 in let b = rest.0 h.1 in omega (arith, a, b),
        λ h. (one.1 (omega arith), rest.1 (omega arith)),
      )

  -- of one it is its own,
  pub short_one : (w : Which) → short_all s c (w ∷ []) ≡ short_of s c w
  short_one w = omega arith

  -- and of two the larger
  pub short_two : (v w : Which) → short_all s c (v ∷ w ∷ []) ≡ max (short_of s c v) (short_of s c w)
  short_two v w = ap (max (short_of s c v)) (short_one w)

  -- all permit exactly if nothing is missing,
  pub permits_short : (ws : List Which) → (permits_all s c ws ≡ true) ↔ (short_all s c ws ≡ 0)
  permits_short [] = (λ e. refl, λ e. refl)
  permits_short (w ∷ ws) =
      let one = shaper.permits_short (credit_of c w) (bucket_of s w).lo in
      let rest = permits_short ws in (
        λ e.
            let p = both (permits_of s c w) (permits_all s c ws) e in
            let a = one.0 p.0 in
            let b = rest.0 p.1 in
            omega (arith, a, b),
        λ e. rw (one.1 (omega arith), rest.1 (omega arith)),
      )

  -- as one test
  pub permits_by : (ws : List Which) → permits_all s c ws ≡ eqb (short_all s c ws) 0
  permits_by ws = shaper.by_zero (permits_all s c ws) (short_all s c ws) (permits_short ws)

  -- and where something is missing one of them does not
  pub denied_short : (ws : List Which) → 0 < short_all s c ws → permits_all s c ws ≡ false
  denied_short ws = shaper.fails_above (permits_all s c ws) (short_all s c ws) (permits_short ws)

  -- loLimit is at most 65,536, so at most 65,537 are missing
  pub short_most : SettingsOk s → (ws : List Which) → short_all s c ws ≤ 65537
  short_most good [] = omega arith
  short_most good (w ∷ ws) = omega (arith, (bucket_ok_lem good w).lo_most, short_most good ws)

  -- ---- by class: what a client frame lacks, where its shapers don't permit it

  -- Client A lacks what A lacks.
  pub short_a : short_all s c (needs_of (way_of s c 0)) ≡ short_of s c A
  short_a = ap (λ (w : Way). short_all s c (needs_of w)) (way_a s c) ∙ short_one A

  -- A frame of B or C that is turned down was tried as excess: one that goes as B is permitted.
  pub tried_excess : (class : ℕ) → (class ≡ 0 → ⊥) → permits_all s c (needs_of (way_of s c class)) ≡ false → way_of s c class ≡ Excess
  unfolding way_of
  tried_excess class n e =
      let own = eqb class 1 && permits_all s c (B ∷ D ∷ []) in
      let is = ne_eqb class 0 n in
      by_cases (true_or_false own)
      (λ p. absurd (true≢false (sym (both (eqb class 1) (permits_all s c (B ∷ D ∷ [])) p).1 ∙ (rw (is, p) at e))))
      (λ p. rw (is, p))

  -- For client B that of the excess attempt: what C and D lack, the larger.
  pub short_b : permits_all s c (needs_of (way_of s c 1)) ≡ false → short_all s c (needs_of (way_of s c 1)) ≡ max (short_of s c C) (short_of s c D)
  short_b e = ap (λ (w : Way). short_all s c (needs_of w)) (tried_excess 1 (λ z. omega arith) e) ∙ short_two C D

  -- Client C the same.
  pub short_c : short_all s c (needs_of (way_of s c 2)) ≡ max (short_of s c C) (short_of s c D)
  short_c = ap (λ (w : Way). short_all s c (needs_of w)) (way_c s c) ∙ short_two C D
