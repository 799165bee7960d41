-- Files of summaries are joined so, by the laws of `sheet`; the pieces of a well-formed record are well formed.
-- Assumes nothing.
use Rattle.std.specs.Prelude.{Ok}
use Prim.Native.Nat.{◌+◌, ◌≤◌}
use mathlib.Core.Bool.{true}
use mathlib.Core.List.{List, [], ◌∷◌, ◌++◌, map, flatten}
use mathlib.Core.Path.{◌≡◌, refl, sym, ap, ◌∙◌}
use native.Mathlib.Omega.{arith}
use borrow.Author.Tests.{eq-eqb, ne_eqb}
use lib.ListN.{length, length-append}
use Rattle.shaper.specs.declared.Limits.{Limits}
use Rattle.shaper.specs.declared.Event.{Event}
use Rattle.shaper.specs.Limits.{most_events}
use Rattle.summary.specs.Answer.{Answer}
use Rattle.summary.specs.Summary.{summary_of}
use Rattle.record.specs.Items.{Item, written_items, unrolled, ItemsOk, Formed}
use Rattle.record.proofs.Written.{unrolled_append}
use Rattle.record.proofs.Wrote.{formed_events}
use Rattle.account.specs.Account.{summarize_of}
use Rattle.account.proofs.Promises.{summarize_items}
use Rattle.sheet.specs.Sheet.{sheet_length}
use Rattle.sheet.specs.Files.{joined_from, joined_of, file_of}
use Rattle.sheet.proofs.Files.{open_2, open_3, opens, piece_file, ValidPieces, files_joined}
use Rattle.paper.specs.Program.{JoinsFiles}

-- the parts of items in range are in range
pub parts_ok : (l : Limits) (is js : List Item) → ItemsOk true l (is ++ js) → ItemsOk true l is × ItemsOk true l js
parts_ok l [] js v = (tt, v)
parts_ok l (i ∷ is) js v = let r = parts_ok l is js v.1 in ((v.0, r.0), r.1)

-- and so are the parts of a record
module _ (l : Limits) (is js : List Item) (w : Formed true l (is ++ js)) where
  many : length (unrolled is) + length (unrolled js) ≤ most_events
  many = omega (arith, w.few, ap length (unrolled_append is js), length-append (unrolled is) (unrolled js))

  front : Formed true l is
  front = record { settings = w.settings; items = (parts_ok l is js w.items).0; few = omega (arith, many) }

  behind : Formed true l js
  behind = record { settings = w.settings; items = (parts_ok l is js w.items).1; few = omega (arith, many) }

-- the events of the pieces
all_unrolled : (pieces : List (List Item)) → unrolled (flatten pieces) ≡ flatten (map unrolled pieces)
unfolding flatten
all_unrolled [] = refl
all_unrolled (is ∷ pieces) = unrolled_append is (flatten pieces) ∙ ap (λ (es : List Event). unrolled is ++ es) (all_unrolled pieces)

module _ (l : Limits) where
  pieces_valid : (pieces : List (List Item)) → Formed true l (flatten pieces) → ValidPieces l (map unrolled pieces)
  unfolding flatten
  pieces_valid [] w = tt
  pieces_valid (is ∷ pieces) w =
      ((formed_events true l is (front l is (flatten pieces) w)).valid, pieces_valid pieces (behind l is (flatten pieces) w))

  -- the files of the pieces, from their bytes
  from_bytes : (is : List Item) → Formed true l is → file_of (summarize_of (written_items l is)) ≡ piece_file l (unrolled is)
  from_bytes is w = ap file_of (summarize_items true l is w)

  all_from_bytes : (pieces : List (List Item)) → Formed true l (flatten pieces) →
      map (λ piece. file_of (summarize_of (written_items l piece))) pieces ≡ map (piece_file l) (map unrolled pieces)
  unfolding flatten
  all_from_bytes [] w = refl
  all_from_bytes (is ∷ pieces) w =
      rw (from_bytes is (front l is (flatten pieces) w), all_from_bytes pieces (behind l is (flatten pieces) w))

  -- joined in their order they come to the summary of all their events
  pieces_joined : (is : List Item) (rest : List (List Item)) → Formed true l (is ++ flatten rest)
      → joined_of (file_of (summarize_of (written_items l is))) (map (λ piece. file_of (summarize_of (written_items l piece))) rest)
      ≡ Ok (summary_of l (unrolled (is ++ flatten rest)))
  pieces_joined is rest w =
      let p = front l is (flatten rest) w in
      let q = behind l is (flatten rest) w in
      let events : unrolled (is ++ flatten rest) ≡ unrolled is ++ flatten (map unrolled rest) =
      unrolled_append is (flatten rest) ∙ ap (λ (es : List Event). unrolled is ++ es) (all_unrolled rest) in
      ap (λ file. joined_of file (map (λ piece. file_of (summarize_of (written_items l piece))) rest)) (from_bytes is p)
      ∙ ap (joined_of (piece_file l (unrolled is))) (all_from_bytes rest q)
      ∙ files_joined l w.settings (unrolled is) (map unrolled rest) (formed_events true l is p).valid (pieces_valid rest q)
      (omega (arith, many l is (flatten rest) w, ap length (all_unrolled rest)))
      ∙ ap (λ (es : List Event). Ok (summary_of l es)) (sym events)

pub joins_files : JoinsFiles
unfolding joined_from
joins_files =
    record {
      other_length = λ xs e. open_2 xs (ne_eqb (length xs) sheet_length e);
      out_of_range = λ xs e r. open_3 xs (eq-eqb (length xs) sheet_length e) r;
      opened = λ xs e r. opens xs (eq-eqb (length xs) sheet_length e) r;
      no_more = λ a. refl;
      joins = λ s t xs files e. rw e;
      refuses = λ s n xs files e. rw e;
      stands = λ n xs files. refl;
      all = λ xs files. refl;
      written_file = λ s n. (refl, refl);
      pieces =
          λ l whole is rest v w same.
          pieces_joined l is rest w ∙ ap (λ (es : List Event). Ok (summary_of l es)) (sym same) ∙ sym (summarize_items true l whole v);
    }
