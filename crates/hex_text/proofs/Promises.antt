-- What reading hex text promises: a text in chunks of any sizes comes to what the whole text comes to.
-- Assumes nothing.
use Prim.Native.Nat.{ℕ, ◌<◌}
use mathlib.Core.Bool.{Bool, true, false, cond}
use mathlib.Core.List.{List, [], ◌∷◌, ◌++◌, flatten}
use mathlib.Core.Logic.{inl, inr, ⊎_elim}
use mathlib.Core.Path.{◌≡◌, refl, sym, ap, ◌∙◌}
use Rattle.decide.proofs.Cases.{by_cases, true_or_false}
use Rattle.std.specs.Prelude.{Err}
use Rattle.decide.specs.declared.refusal.Refusal.{Refusal}
use Rattle.decide.specs.Number.{number_in, refusal_of}
use Rattle.summary.specs.Answer.{answer_number}
use Rattle.shaper.specs.declared.Limits.{Limits}
use Rattle.record.specs.Record.{written}
use Rattle.record.specs.Items.{Item, written_items, unrolled, Formed}
use Rattle.account.specs.Account.{summarize_of}
use Rattle.account.proofs.Promises.{summarize_refused_exactly}
use Rattle.account.proofs.Promises as account
use Rattle.feed.specs.Feed as Feeding
use Rattle.feed.proofs.Promises.{fed_once}
use Rattle.hex_text.specs.declared.Hex.{Hex}
use Rattle.hex_text.specs.Hex.{digits_of, pairs, is_hex, text_of, TextCause}
use Rattle.hex_text.specs.Fed.{start_of, read_char, read_text, read_chunks, is_whole, finish_of}
use Rattle.hex_text.proofs.Digits.{text_bytes}
use Rattle.hex_text.proofs.Rest.{answer_of, goes}

-- two chunks one after the other are their characters one after the other
pub text_chunks : (x : Hex) (cs ds : List ℕ) → read_text x (cs ++ ds) ≡ read_text (read_text x cs) ds
unfolding read_text
text_chunks x [] ds = refl
text_chunks x (c ∷ cs) ds = text_chunks (read_char x c) cs ds

-- so are any number of them
pub text_chunks_all : (x : Hex) (chunks : List (List ℕ)) → read_chunks x chunks ≡ read_text x (flatten chunks)
unfolding read_chunks read_text flatten
text_chunks_all x [] = refl
text_chunks_all x (cs ∷ chunks) = text_chunks_all (read_text x cs) chunks ∙ rw (text_chunks x cs (flatten chunks))

text_read : (cs : List ℕ) → finish_of (read_text start_of cs) ≡ text_of cs
unfolding answer_of finish_of text_of
text_read cs =
    goes Feeding.finish_of (Err (refusal_of 2)) cs start_of tt
    ∙ ap (λ a. cond (is_hex cs) a (Err (refusal_of 2))) (fed_once (pairs (digits_of cs)) (text_bytes cs))

-- A text in chunks of any sizes gives what the whole text gives.
pub text_whole : (chunks : List (List ℕ)) → finish_of (read_chunks start_of chunks) ≡ text_of (flatten chunks)
text_whole chunks = ap finish_of (text_chunks_all start_of chunks) ∙ text_read (flatten chunks)

-- ---- either form

-- hex whose bytes are these comes to what they come to
text_record : (chunks : List (List ℕ)) (xs : List ℕ) → is_hex (flatten chunks) ≡ true → pairs (digits_of (flatten chunks)) ≡ xs → finish_of (read_chunks start_of chunks) ≡ summarize_of xs
unfolding text_of
text_record chunks xs h e = text_whole chunks ∙ rw (h, e)

-- Events are counted unrolled: a record's text comes to what that of its unrolled form comes to, each in chunks of any sizes.
pub either_form : (l : Limits) (is : List Item) → Formed true l is → (chunks unrolls : List (List ℕ)) → is_hex (flatten chunks) ≡ true → is_hex (flatten unrolls) ≡ true →
    pairs (digits_of (flatten chunks)) ≡ written_items l is → pairs (digits_of (flatten unrolls)) ≡ written l (unrolled is) →
    finish_of (read_chunks start_of chunks) ≡ finish_of (read_chunks start_of unrolls)
either_form l is w chunks unrolls h k p q =
    text_record chunks (written_items l is) h p ∙ account.either_form l is w ∙ sym (text_record unrolls (written l (unrolled is)) k q)

-- ---- before the end

itself : (b : Bool) → cond b true false ≡ b
itself true = refl
itself false = refl

-- Whether a text may end so far is whether its characters so far are hex.
pub text_so_far : (chunks : List (List ℕ)) → is_whole (read_chunks start_of chunks).place ≡ is_hex (flatten chunks)
unfolding answer_of
text_so_far chunks =
    ap (λ x. is_whole x.place) (text_chunks_all start_of chunks)
    ∙ sym (itself (is_whole (read_text start_of (flatten chunks)).place))
    ∙ goes (λ f. true) false (flatten chunks) start_of tt
    ∙ itself (is_hex (flatten chunks))

-- ---- refusals

module _ (cs : List ℕ) (n : ℕ) (p : 0 < n) where
  means : (f : Refusal) → number_in f ≡ n → text_of cs ≡ Err f → TextCause cs n
  unfolding text_of
  means f k h =
      by_cases (true_or_false (is_hex cs))
      (λ e. inr (e, (summarize_refused_exactly true (pairs (digits_of cs)) n (text_bytes cs) p).0 f k (sym (rw e) ∙ h)))
      (λ e. let g = rw e at h in inl (e, sym (ap answer_number g ∙ k)))

  meant : TextCause cs n → text_of cs ≡ Err (refusal_of n)
  unfolding text_of
  meant c =
      ⊎_elim
      (λ x. rw x.0 (ap (λ m. Err (refusal_of m)) (sym x.1)))
      (λ x. rw x.0 ((summarize_refused_exactly true (pairs (digits_of cs)) n (text_bytes cs) p).1 x.1))
      c

-- A number is given exactly when it has its cause in the text.
pub text_refused_exactly : (chunks : List (List ℕ)) (n : ℕ) → 0 < n →
    ((f : Refusal) → number_in f ≡ n → finish_of (read_chunks start_of chunks) ≡ Err f → TextCause (flatten chunks) n)
    × (TextCause (flatten chunks) n → finish_of (read_chunks start_of chunks) ≡ Err (refusal_of n))
text_refused_exactly chunks n p =
    let e = text_whole chunks in
    (λ f k h. means (flatten chunks) n p f k (sym e ∙ h), λ c. e ∙ meant (flatten chunks) n p c)
