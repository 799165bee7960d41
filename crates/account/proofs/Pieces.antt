-- Joining the pieces of a cut record gives the summary of the whole, in any grouping.
-- Assumes nothing.
use Rattle.std.specs.Prelude.{Ok}
use Rattle.std.proofs.Common.{◌≡◌, ℕ, zero, suc, ◌+◌, ◌≤◌, true, List, [], ◌∷◌, ◌++◌, replicate, sym, refl, ap, ◌∙◌, append_assoc, append-nil, suc-add, zero-add, arith, length-append}
use Rattle.shaper.specs.declared.Limits.{Limits}
use Rattle.shaper.specs.declared.Event.{Event}
use Rattle.shaper.specs.Credit.{AllValid}
use Rattle.wire.specs.Wire.{Bytes}
use Rattle.summary.specs.Summary.{summary_of}
use Rattle.summary.proofs.Promises.{join_append}
use Rattle.record.specs.Record.{WellFormed}
use Rattle.record.specs.Items.{Item, run, item_of, written_items, unrolled_item, unrolled, ItemOk, ItemsOk, Formed}
use Rattle.record.specs.Read.{whole, read_record}
use Rattle.record.proofs.Written.{unrolled_append}
use Rattle.record.proofs.Wrote.{read_items_lem, formed_events}
use Rattle.account.specs.Account.{summarized, summarize_in, summarize_of}
use Rattle.account.specs.Pieces.{Tree, piece, both, Cuts, joined_along}
use Rattle.account.specs.Pieces as P
use Rattle.account.proofs.Promises.{summarize_items}

pub valid_left : (l : Limits) (xs ys : List Event) → AllValid l (xs ++ ys) → AllValid l xs
valid_left l [] ys v = tt
valid_left l (e ∷ xs) ys v = (v.0, valid_left l xs ys v.1)

valid_right : (l : Limits) (xs ys : List Event) → AllValid l (xs ++ ys) → AllValid l ys
valid_right l [] ys v = v
valid_right l (e ∷ xs) ys v = valid_right l xs ys v.1

-- a part of a well-formed record is one
pub part_left : (l : Limits) (xs ys : List Event) → WellFormed l (xs ++ ys) → WellFormed l xs
part_left l xs ys w =
    record { settings = w.settings; valid = valid_left l xs ys w.valid; few = omega (arith, w.few, length-append xs ys) }

pub part_right : (l : Limits) (xs ys : List Event) → WellFormed l (xs ++ ys) → WellFormed l ys
part_right l xs ys w =
    record { settings = w.settings; valid = valid_right l xs ys w.valid; few = omega (arith, w.few, length-append xs ys) }

-- the pieces of a well-formed record's events, joined along the tree, come to the summary of all of them
pub cut_joins : (l : Limits) (es : List Event) (t : Tree) → Cuts l es t → WellFormed l es → joined_along t ≡ Ok (summary_of l es)
cut_joins l es (piece bytes) (P.Cuts.whole is bs ok e) w =
    ap summarize_of e ∙ summarize_items true l is (record { settings = w.settings; items = ok; few = w.few })
cut_joins l es (both t u) (P.Cuts.parted xs ys a b c d) w =
    let p = part_left l xs ys w in
    let q = part_right l xs ys w in
    rw (cut_joins l xs t c p, cut_joins l ys u d q)
    (join_append l w.settings xs ys p.valid q.valid (omega (arith, w.few, length-append xs ys)))

-- A well-formed record, given by its bytes, cut between events into pieces, each piece's record summarized from its bytes: joined in any grouping but in
-- their order, the summaries give the summary of the whole.
pub pieces_join : (xs : List ℕ) (l : Limits) (es : List Event) (t : Tree) → Bytes xs → read_record xs ≡ whole l es → Cuts l es t → joined_along t ≡ summarize_of xs
unfolding summarize_in
pieces_join xs l es t b r c =
    let w = read_items_lem true xs l es b r in
    let f = rw (sym w.gives) at (formed_events true l w.items w.formed) in
    cut_joins l es t c f ∙ sym (ap summarized r)

-- ---- a cut inside a run

-- so many of a tick as an item stand for that many,
unrolled_of : (e : Event) (n : ℕ) → 1 ≤ n → unrolled_item (item_of e n) ≡ replicate n e
unrolled_of e zero h = absurd (omega arith)
unrolled_of e (suc zero) h = refl
unrolled_of e (suc (suc n)) h = refl

-- and are in range where a run of more is
shorter_ok : (l : Limits) (e : Event) (count n : ℕ) → ItemOk true l (run e count) → n ≤ count → ItemOk true l (item_of e n)
shorter_ok l e count zero r h = r.2
shorter_ok l e count (suc zero) r h = r.2
shorter_ok l e count (suc (suc n)) r h = (r.0, r.1, r.2, omega arith, omega (arith, r.4))

replicate_add : (m n : ℕ) (e : Event) → replicate (m + n) e ≡ replicate m e ++ replicate n e
replicate_add zero n e = rw zero-add
replicate_add (suc m) n e = rw (suc-add m n) (ap (λ (q : List Event). e ∷ q) (replicate_add m n e))

ok_append : (l : Limits) (is js : List Item) → ItemsOk true l is → ItemsOk true l js → ItemsOk true l (is ++ js)
ok_append l [] js a b = b
ok_append l (i ∷ is) js a b = (a.0, ok_append l is js a.1 b)

-- A cut inside a run leaves a shorter run or a single tick on each side: both sides are records, and their events are those of the whole.
pub record CutInRun (l : Limits) (is : List Item) (e : Event) (m n : ℕ) (js : List Item) : Type 0 where
  pub left_ok : ItemsOk true l (is ++ (item_of e m ∷ []))
  pub right_ok : ItemsOk true l (item_of e n ∷ js)
  pub events : unrolled (is ++ (run e (m + n) ∷ js)) ≡ unrolled (is ++ (item_of e m ∷ [])) ++ unrolled (item_of e n ∷ js)

module _ (l : Limits) (is : List Item) (e : Event) (m n : ℕ) (js : List Item) (a : 1 ≤ m) (b : 1 ≤ n) where
  pub cut_in_run : ItemsOk true l is → ItemOk true l (run e (m + n)) → ItemsOk true l js → CutInRun l is e m n js
  cut_in_run before r after =
      record {
        left_ok = ok_append l is (item_of e m ∷ []) before (shorter_ok l e (m + n) m r (omega arith), tt);
        right_ok = (shorter_ok l e (m + n) n r (omega arith), after);
        events =
            unrolled_append is (run e (m + n) ∷ js)
            ∙ rw (replicate_add m n e, unrolled_append is (item_of e m ∷ []), unrolled_of e m a, unrolled_of e n b, append-nil (replicate m e), append_assoc, append_assoc);
      }

  -- so its sides, joined, come to the summary of the whole
  pub cut_in_run_joins : Formed true l (is ++ (run e (m + n) ∷ js)) → ItemsOk true l is → ItemOk true l (run e (m + n)) → ItemsOk true l js →
      joined_along (both (piece (written_items l (is ++ (item_of e m ∷ [])))) (piece (written_items l (item_of e n ∷ js)))) ≡ summarize_of (written_items l (is ++ (run e (m + n) ∷ js)))
  cut_in_run_joins w before r after =
      let c = cut_in_run before r after in
      let front = is ++ (item_of e m ∷ []) in
      let behind = item_of e n ∷ js in
      cut_joins l (unrolled front ++ unrolled behind) (both (piece (written_items l front)) (piece (written_items l behind)))
      (P.Cuts.parted (unrolled front) (unrolled behind) (piece (written_items l front)) (piece (written_items l behind))
      (P.Cuts.whole front (written_items l front) c.left_ok refl) (P.Cuts.whole behind (written_items l behind) c.right_ok refl))
      (rw c.events at (formed_events true l (is ++ (run e (m + n) ∷ js)) w))
      ∙ ap (λ (q : List Event). Ok (summary_of l q)) (sym c.events)
      ∙ sym (summarize_items true l (is ++ (run e (m + n) ∷ js)) w)
