-- The laws of `first_of`: it gives a number exactly when a row that bears it applies and none before it does; and rows that are written in the order of
-- their ranks may be tried one after the other. Assumes nothing.
use Prim.Native.Nat.{ℕ, ◌≤◌, ◌<◌}
use mathlib.Core.Bool.{Bool, true, false, cond, not, ◌||◌, true≢false}
use mathlib.Core.List.{List, [], ◌∷◌}
use mathlib.Core.Logic.{inl, inr, ⊎_elim}
use mathlib.Core.Path.{◌≡◌, refl, sym, ap, ◌∙◌}
use native.Mathlib.Omega.{arith}
use borrow.Author.Tests.{leb-true, leb-false, eqb-true, le-leb, eq-eqb, not-true}
use lib.Dec.{leb, eqb}
use Rattle.decide.specs.Refusal.{Fault, First, nothing, row, earlier, first, number_of, first_of, Among, Given, GivenExactly, RefusedExactly, Free, alike, ranked, not_before, in_order, chained}
use Rattle.decide.specs.Test.{both, either}

-- ---- the row that counts

-- it applies, is among the rows, and has the lowest rank of those that apply
pub record Lowest (fs : List Fault) (f : Fault) : Type 0 where
  pub among : Among f fs
  pub applies : f.applies ≡ true
  pub none_before : (g : Fault) → Among g fs → g.applies ≡ true → f.rank ≤ g.rank

-- what `first` says
abbrev Says : List Fault → First → Type 0
Says fs nothing = Free fs
Says fs (row f) = Lowest fs f

-- a row that does not apply changes nothing
skipped : (f : Fault) (fs : List Fault) (x : First) → f.applies ≡ false → Says fs x → Says (f ∷ fs) x
skipped f fs nothing e s = λ g m a. ⊎_elim (λ p. true≢false (sym a ∙ ap (λ (h : Fault). h.applies) p ∙ e)) (λ k. s g k a) m
skipped f fs (row r) e s =
    record {
      among = inr s.among;
      applies = s.applies;
      none_before = λ g m a. ⊎_elim (λ p. absurd (true≢false (sym a ∙ ap (λ (h : Fault). h.applies) p ∙ e))) (λ k. s.none_before g k a) m;
    }

same_rank : (f g : Fault) → g ≡ f → f.rank ≤ g.rank
same_rank f g e = let h : g.rank ≡ f.rank = ap (λ (x : Fault). x.rank) e in omega arith

-- a row that applies counts, or the one that counted goes on to
counted : (f : Fault) (fs : List Fault) (x : First) → f.applies ≡ true → Says fs x → Says (f ∷ fs) (earlier f x)
counted f fs nothing e s =
    record {
      among = inl refl;
      applies = e;
      none_before = λ g m a. ⊎_elim (λ p. same_rank f g p) (λ k. absurd (s g k a)) m;
    }
counted f fs (row r) e s = go (leb f.rank r.rank) refl
  where
    go : (b : Bool) → leb f.rank r.rank ≡ b → Says (f ∷ fs) (cond b (row f) (row r))
    go true h =
        record {
          among = inl refl;
          applies = e;
          none_before = λ g m a. ⊎_elim (λ p. same_rank f g p) (λ k. let l = leb-true f.rank r.rank h in let n = s.none_before g k a in omega arith) m;
        }
    go false h =
        record {
          among = inr s.among;
          applies = s.applies;
          none_before = λ g m a. ⊎_elim (λ p. let l = leb-false f.rank r.rank h in let n = same_rank f g p in omega arith) (λ k. s.none_before g k a) m;
        }

says_cond : (f : Fault) (fs : List Fault) (x : First) (b : Bool) → f.applies ≡ b → Says fs x → Says (f ∷ fs) (cond b (earlier f x) x)
says_cond f fs x true e s = counted f fs x e s
says_cond f fs x false e s = skipped f fs x e s

says : (fs : List Fault) → Says fs (first fs)
unfolding first
says [] = λ g m a. m
says (f ∷ fs) = says_cond f fs (first fs) f.applies refl (says fs)

-- ---- rows of one rank bear one number

alike_number : (f g : Fault) (fs : List Fault) → alike f fs ≡ true → Among g fs → f.rank ≡ g.rank → f.number ≡ g.number
alike_number f g [] a m e = absurd m
alike_number f g (h ∷ fs) a m e =
    let p = both (not (eqb f.rank h.rank) || eqb f.number h.number) (alike f fs) a in
    ⊎_elim
    (λ k. let q : g.number ≡ h.number = ap (λ (x : Fault). x.number) k in
    let r : g.rank ≡ h.rank = ap (λ (x : Fault). x.rank) k in
    ⊎_elim
    (λ n. absurd (true≢false (sym (eq-eqb f.rank h.rank (omega arith)) ∙ not-true (eqb f.rank h.rank) n)))
    (λ n. let z = eqb-true f.number h.number n in omega arith)
    (either (not (eqb f.rank h.rank)) (eqb f.number h.number) p.0))
    (λ k. alike_number f g fs p.1 k e)
    m

ranked_number : (f g : Fault) (fs : List Fault) → ranked fs ≡ true → Among f fs → Among g fs → f.rank ≡ g.rank → f.number ≡ g.number
ranked_number f g [] a m n e = absurd m
ranked_number f g (h ∷ fs) a m n e =
    let p = both (alike h fs) (ranked fs) a in
    ⊎_elim
    (λ k. ⊎_elim
    (λ j. ap (λ (x : Fault). x.number) (k ∙ sym j))
    (λ j. ap (λ (x : Fault). x.number) k ∙ alike_number h g fs p.0 j (sym (ap (λ (x : Fault). x.rank) k) ∙ e))
    n)
    (λ k. ⊎_elim
    (λ j. sym (alike_number h f fs p.0 k (sym (ap (λ (x : Fault). x.rank) j) ∙ sym e)) ∙ sym (ap (λ (x : Fault). x.number) j))
    (λ j. ranked_number f g fs p.1 k j e)
    n)
    m

-- ---- the laws

-- a number that is given has its cause
given_by : (fs : List Fault) (x : First) (n : ℕ) → 0 < n → Says fs x → number_of x ≡ n → Given fs n
given_by fs nothing n h s e = absurd (omega arith)
given_by fs (row f) n h s e =
    record { cause = f; among = s.among; bears = e; applies = s.applies; none_before = s.none_before }

-- a cause has its number given
gives_by : (fs : List Fault) (x : First) (n : ℕ) → ranked fs ≡ true → Says fs x → Given fs n → number_of x ≡ n
gives_by fs nothing n r s g = absurd (s g.cause g.among g.applies)
gives_by fs (row f) n r s g =
    let p = s.none_before g.cause g.among g.applies in
    let q = g.none_before f s.among s.applies in
    ranked_number f g.cause fs r s.among g.among (omega arith) ∙ g.bears

-- the answer is n exactly when a row with n applies and none before it does
pub first_exact : (fs : List Fault) → ranked fs ≡ true → (n : ℕ) → 0 < n → GivenExactly fs n
unfolding first_of
first_exact fs r n h =
    record { has_cause = given_by fs (first fs) n h (says fs); is_given = gives_by fs (first fs) n r (says fs) }

-- and so is the number that a call answers, which is that of its rows
pub refused_exactly : (fs : List Fault) → ranked fs ≡ true → (number : ℕ) → number ≡ first_of fs → RefusedExactly number fs
refused_exactly fs r number e =
    record {
      has_cause = λ n h a. (first_exact fs r n h).has_cause (sym e ∙ a);
      is_given = λ n h g. e ∙ (first_exact fs r n h).is_given g;
    }

-- the call is carried out exactly when no row applies, where each row that applies bears a number
free_by : (fs : List Fault) (x : First) → ((f : Fault) → Among f fs → f.applies ≡ true → 0 < f.number) → Says fs x → number_of x ≡ 0 → Free fs
free_by fs nothing p s e = s
free_by fs (row f) p s e = let h = p f s.among s.applies in absurd (omega arith)

pub carried_out : (fs : List Fault) → ((f : Fault) → Among f fs → f.applies ≡ true → 0 < f.number) → first_of fs ≡ 0 → Free fs
unfolding first_of
carried_out fs p e = free_by fs (first fs) p (says fs) e

zero_by : (fs : List Fault) (x : First) → Says fs x → Free fs → number_of x ≡ 0
zero_by fs nothing s h = refl
zero_by fs (row f) s h = absurd (h f s.among s.applies)

pub free_carried : (fs : List Fault) → Free fs → first_of fs ≡ 0
unfolding first_of
free_carried fs h = zero_by fs (first fs) (says fs) h

-- ---- rows in the order of their ranks

-- no row from rank r on is before it
from_rank : (r : ℕ) (g : Fault) (fs : List Fault) → not_before r fs ≡ true → Among g fs → r ≤ g.rank
from_rank r g [] h m = absurd m
from_rank r g (f ∷ fs) h m =
    let p = both (leb r f.rank) (not_before r fs) h in
    ⊎_elim
    (λ k. let q : g.rank ≡ f.rank = ap (λ (x : Fault). x.rank) k in let l = leb-true r f.rank p.0 in omega arith)
    (λ k. from_rank r g fs p.1 k)
    m

keeps : (f : Fault) (fs : List Fault) (x : First) → not_before f.rank fs ≡ true → Says fs x → earlier f x ≡ row f
keeps f fs nothing h s = refl
keeps f fs (row g) h s = rw (le-leb f.rank g.rank (from_rank f.rank g fs h s.among))

chained_step : (f : Fault) (fs : List Fault) (b : Bool) → f.applies ≡ b → not_before f.rank fs ≡ true → number_of (first fs) ≡ chained fs → number_of (cond b (earlier f (first fs)) (first fs)) ≡ cond b f.number (chained fs)
chained_step f fs true e h i = ap number_of (keeps f fs (first fs) h (says fs))
chained_step f fs false e h i = i

-- rows in order are tried one after the other
pub in_order_lem : (fs : List Fault) → in_order fs ≡ true → first_of fs ≡ chained fs
unfolding first_of first
in_order_lem [] h = refl
in_order_lem (f ∷ fs) h =
    let p = both (not_before f.rank fs) (in_order fs) h in
    chained_step f fs f.applies refl p.0 (in_order_lem fs p.1)
