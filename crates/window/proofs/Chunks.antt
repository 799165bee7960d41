-- Each record is fed its own chunks, though equal ones are fed once: so what each comes to is what its bytes come to.
-- Assumes nothing.
use mathlib.Core.Bool.{true, false, ◌&&◌}
use mathlib.Core.List.{List, [], ◌∷◌, flatten}
use mathlib.Core.Path.{◌≡◌, refl, ap, ◌∙◌}
use Prim.Native.Nat.{ℕ}
use native.Mathlib.Omega.{arith}
use Rattle.decide.specs.Test.{both}
use Rattle.decide.proofs.Cases.{by_cases, true_or_false}
use Rattle.wire.specs.Wire.{Bytes}
use Rattle.account.specs.Account.{summarize_of}
use Rattle.feed.specs.Feed.{start_of, fed_of, fed_chunks, finish_of}
use Rattle.feed.proofs.Promises.{fed_whole}
use Rattle.window.specs.declared.Pair.{Pair}
use Rattle.window.specs.Both.{alike_of, both_start, both_fed, Chunks, both_chunks, first_chunks, second_chunks}
use Rattle.window.proofs.Equal.{alike_exactly}

-- where all chunks so far were equal, the states are
abbrev pub InStep : Pair → Type 0
InStep p = p.same ≡ true → p.first ≡ p.second

module _ (p : Pair) (w v : List ℕ) where
  -- the rows
  pub fed_same : p.same ≡ true → alike_of w v ≡ true → both_fed p w v ≡ record { first = fed_of p.first w; second = fed_of p.first w; same = true }
  unfolding both_fed
  fed_same s a = rw (s, a)

  pub fed_other : (p.same && alike_of w v) ≡ false → both_fed p w v ≡ record { first = fed_of p.first w; second = fed_of p.second v; same = false }
  unfolding both_fed
  fed_other o = rw o

  -- each by its own chunk
  pub fed_each : InStep p → ((both_fed p w v).first ≡ fed_of p.first w) × ((both_fed p w v).second ≡ fed_of p.second v) × InStep (both_fed p w v)
  fed_each s =
      by_cases (true_or_false (p.same && alike_of w v))
      (λ e. let h = both p.same (alike_of w v) e in
      let r = fed_same h.0 h.1 in
      let same = s h.0 in
      let bytes = (alike_exactly w v).0 h.1 in
      rw r (refl, ap (λ x. fed_of x w) same ∙ ap (fed_of p.second) bytes, λ _. refl))
      (λ e. rw (fed_other e) (refl, refl, λ z. absurd (false_true z)))
    where
      false_true : false ≡ true → ⊥
      false_true e = let z : ◌≡◌ {A = ℕ} 0 1 = cc in omega arith

-- chunk after chunk
pub chunks_each : (p : Pair) (cs : Chunks) → InStep p → ((both_chunks p cs).first ≡ fed_chunks p.first (first_chunks cs)) × ((both_chunks p cs).second ≡ fed_chunks p.second (second_chunks cs))
unfolding fed_chunks
chunks_each p [] s = (refl, refl)
chunks_each p (c ∷ cs) s =
    let e = fed_each p c.0 c.1 s in
    let r = chunks_each (both_fed p c.0 c.1) cs e.2 in
    (r.0 ∙ ap (λ x. fed_chunks x (first_chunks cs)) e.0, r.1 ∙ ap (λ x. fed_chunks x (second_chunks cs)) e.1)

-- from none
pub both_chunks_lem : (cs : Chunks) → ((both_chunks both_start cs).first ≡ fed_chunks start_of (first_chunks cs)) × ((both_chunks both_start cs).second ≡ fed_chunks start_of (second_chunks cs))
both_chunks_lem cs = chunks_each both_start cs (λ _. refl)

-- What each comes to is what its bytes come to, in either form, however they were cut into chunks.
pub both_summed : (cs : Chunks) → Bytes (flatten (first_chunks cs)) → Bytes (flatten (second_chunks cs)) →
    (finish_of (both_chunks both_start cs).first ≡ summarize_of (flatten (first_chunks cs))) × (finish_of (both_chunks both_start cs).second ≡ summarize_of (flatten (second_chunks cs)))
both_summed cs b d =
    let e = both_chunks_lem cs in
    (ap finish_of e.0 ∙ fed_whole (first_chunks cs) b, ap finish_of e.1 ∙ fed_whole (second_chunks cs) d)
