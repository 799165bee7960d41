-- What a summary means: for each start credit up to hiLimit, need says whether every send was permitted, event by event, and `plain_end_of` the end
-- credit; and the summary of a list is the join of its parts' summaries. Assumes nothing.
use Prim.Native.Nat.{ℕ, ◌+◌, ◌≤◌, ◌<◌, max}
use mathlib.Core.List.{List, [], ◌∷◌, ◌++◌}
use mathlib.Core.Logic.{inr}
use mathlib.Core.Path.{◌≡◌, refl, sym, ap, ◌∙◌}
use native.Mathlib.Omega.{arith}
use lib.ListN.{length}
use Rattle.decide.specs.Test.{Holds}
use Rattle.shaper.specs.declared.Limits.{Limits}
use Rattle.shaper.specs.declared.Event.{Event}
use Rattle.shaper.specs.declared.Event.TheVariants.{Waiting, Idle, Send}
use Rattle.shaper.specs.Limits.{limits_ok}
use Rattle.shaper.specs.Credit.{Valid, AllValid, next, Allowed, Permitted, end_credit, accrued_of, sent_of}
use Rattle.shaper.proofs.Credit.{next_max}
use Rattle.plain.specs.declared.Plain.{Plain}
use Rattle.plain.specs.Plain.{plain_empty, plain_single, plain_joined, plain_of, plain_end_of}
use Rattle.plain.specs.Range.{Sound, Same}
use Rattle.plain.proofs.Laws.{joined_sound, empty_left, joined_assoc, first_then, then_first, end_joined}

-- ---- counts of a list of events

module _ (l : Limits) where
  pub single_limits : (e : Event) → (plain_single l e).limits ≡ l
  single_limits (Waiting x) = refl
  single_limits (Idle x) = refl
  single_limits (Send z) = refl

  pub plain_limits : (es : List Event) → (plain_of l es).limits ≡ l
  plain_limits [] = refl
  plain_limits (e ∷ es) = single_limits e

  pub events_length : (es : List Event) → (plain_of l es).events ≡ length es
  events_length [] = refl
  events_length (Waiting x ∷ es) = let h = events_length es in omega arith
  events_length (Idle x ∷ es) = let h = events_length es in omega arith
  events_length (Send z ∷ es) = let h = events_length es in omega arith

  pub plain_accrued : (es : List Event) → (plain_of l es).accrued ≡ accrued_of es
  plain_accrued [] = refl
  plain_accrued (Waiting x ∷ es) = let h = plain_accrued es in omega arith
  plain_accrued (Idle x ∷ es) = let h = plain_accrued es in omega arith
  plain_accrued (Send z ∷ es) = let h = plain_accrued es in omega arith

  pub plain_sent : (es : List Event) → (plain_of l es).sent ≡ sent_of es
  plain_sent [] = refl
  plain_sent (Waiting x ∷ es) = let h = plain_sent es in omega arith
  plain_sent (Idle x ∷ es) = let h = plain_sent es in omega arith
  plain_sent (Send z ∷ es) = let h = plain_sent es in omega arith

  -- summaries of one setting
  pub alike : (a b : Plain) → a.limits ≡ l → b.limits ≡ l → Same a b
  alike a b p q =
      let e = p ∙ sym q in
      (ap (λ (m : Limits). m.mtu) e, (ap (λ (m : Limits). m.lo) e, ap (λ (m : Limits). m.hi) e))

  head_same : (e : Event) (es : List Event) → Same (plain_single l e) (plain_of l es)
  head_same e es = alike (plain_single l e) (plain_of l es) (single_limits e) (plain_limits es)

module _ (l : Limits) (ok : Holds (limits_ok l)) where
  -- ---- one event

  pub single_sound : (e : Event) → Valid l e → Sound (plain_single l e)
  single_sound (Waiting x) v = (ok, (omega arith, inr (omega arith)))
  single_sound (Idle x) v = (ok, (omega arith, inr (omega arith)))
  single_sound (Send z) v = (ok, (omega arith, inr (omega arith)))

  allowed_need : (e : Event) (c : ℕ) → Allowed l c e → (plain_single l e).need ≤ c
  allowed_need (Waiting x) c h = omega arith
  allowed_need (Idle x) c h = omega arith
  allowed_need (Send z) c h = omega arith

  need_allowed : (e : Event) (c : ℕ) → (plain_single l e).need ≤ c → Allowed l c e
  need_allowed (Waiting x) c h = tt
  need_allowed (Idle x) c h = tt
  need_allowed (Send z) c h = omega arith

  single_end : (e : Event) (c : ℕ) → c ≤ l.hi → plain_end_of (plain_single l e) c ≡ next l c e
  unfolding plain_end_of
  single_end (Waiting x) c h = omega arith
  single_end (Idle x) c h = omega arith
  single_end (Send z) c h = omega arith

  -- ---- a list of events

  pub plain_sound : (es : List Event) → AllValid l es → Sound (plain_of l es)
  plain_sound [] v = (ok, (omega arith, inr (omega arith)))
  plain_sound (e ∷ es) v =
      joined_sound (plain_single l e) (plain_of l es) (single_sound e v.0) (plain_sound es v.1) (head_same l e es)

  -- the summary of two lists, one after the other, is the join of theirs
  pub plain_append : (xs ys : List Event) → AllValid l xs → AllValid l ys → plain_of l (xs ++ ys) ≡ plain_joined (plain_of l xs) (plain_of l ys)
  plain_append [] ys v w = sym (rw (plain_limits l ys) at (empty_left (plain_of l ys) (plain_sound ys w)))
  plain_append (e ∷ xs) ys v w =
      ap (plain_joined (plain_single l e)) (plain_append xs ys v.1 w)
      ∙ sym
      (joined_assoc (plain_single l e) (plain_of l xs) (plain_of l ys) (single_sound e v.0) (plain_sound xs v.1) (plain_sound ys w)
      (head_same l e xs) (alike l (plain_of l xs) (plain_of l ys) (plain_limits l xs) (plain_limits l ys)))

  -- ---- From credit c: permitted throughout exactly if c ≥ need, ending at min(c + gain, ceiling).

  -- the head and the rest, where the whole is permitted
  head_rest : (e : Event) (es : List Event) → AllValid l (e ∷ es) → (c : ℕ) → c ≤ l.hi → (plain_of l (e ∷ es)).need ≤ c → Allowed l c e × ((plain_of l es).need ≤ next l c e)
  head_rest e es v c hc n =
      let h : c ≤ (plain_single l e).limits.hi = rw (single_limits l e) hc in
      let k = first_then (plain_single l e) (plain_of l es) (single_sound e v.0) (plain_sound es v.1) (head_same l e es) c h n in
      (need_allowed e c k.0, rw (single_end e c hc) at k.1)

  pub permitted_need : (es : List Event) → AllValid l es → (c : ℕ) → c ≤ l.hi → Permitted l c es → (plain_of l es).need ≤ c
  permitted_need [] v c hc p = omega arith
  permitted_need (e ∷ es) v c hc p =
      let h : c ≤ (plain_single l e).limits.hi = rw (single_limits l e) hc in
      then_first (plain_single l e) (plain_of l es) (single_sound e v.0) (plain_sound es v.1) (head_same l e es) c h
      (allowed_need e c p.0)
      (rw (single_end e c hc) (permitted_need es v.1 (next l c e) (next_max l ok e c hc) p.1))

  pub need_permitted : (es : List Event) → AllValid l es → (c : ℕ) → c ≤ l.hi → (plain_of l es).need ≤ c → Permitted l c es
  need_permitted [] v c hc n = tt
  need_permitted (e ∷ es) v c hc n =
      let k = head_rest e es v c hc n in
      (k.0, need_permitted es v.1 (next l c e) (next_max l ok e c hc) k.1)

  end_empty : (c : ℕ) → c ≤ l.hi → plain_end_of (plain_empty l) c ≡ c
  unfolding plain_end_of
  end_empty c hc = omega arith

  pub end_credit_lem : (es : List Event) → AllValid l es → (c : ℕ) → c ≤ l.hi → (plain_of l es).need ≤ c → end_credit l c es ≡ plain_end_of (plain_of l es) c
  end_credit_lem [] v c hc n = sym (end_empty c hc)
  end_credit_lem (e ∷ es) v c hc n =
      let h : c ≤ (plain_single l e).limits.hi = rw (single_limits l e) hc in
      end_credit_lem es v.1 (next l c e) (next_max l ok e c hc) (head_rest e es v c hc n).1
      ∙ ap (plain_end_of (plain_of l es)) (sym (single_end e c hc))
      ∙ sym (end_joined (plain_single l e) (plain_of l es) (single_sound e v.0) (plain_sound es v.1) (head_same l e es) c h n)

  -- ---- the bytes sent are fewer than the bytes accrued plus hiLimit

  sent_step : (es : List Event) → AllValid l es → (c : ℕ) → Permitted l c es → sent_of es < accrued_of es + max c 1
  sent_step [] v c p = omega arith
  sent_step (Waiting x ∷ es) v c p = let h = sent_step es v.1 (next l c (Waiting x)) p.1 in omega arith
  sent_step (Idle x ∷ es) v c p = let h = sent_step es v.1 (next l c (Idle x)) p.1 in omega arith
  sent_step (Send z ∷ es) v c p = let h = sent_step es v.1 (next l c (Send z)) p.1 in omega arith

  pub sent_bound : (es : List Event) → AllValid l es → (c : ℕ) → c ≤ l.hi → Permitted l c es → (plain_of l es).sent < (plain_of l es).accrued + l.hi
  sent_bound es v c hc p =
      let h = sent_step es v c p in
      let s = plain_sent l es in
      let a = plain_accrued l es in
      omega arith
