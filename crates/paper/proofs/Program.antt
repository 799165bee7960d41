-- Text is read and printed so, by the laws of `hex` and `report`.
-- Assumes nothing.
use Rattle.std.specs.Prelude.{Ok}
use Prim.Native.Nat.{ℕ, ◌≤◌}
use mathlib.Core.Bool.{false}
use mathlib.Core.Path.{◌≡◌, refl, ap, ◌∙◌}
use native.Mathlib.Omega.{arith}
use native.Mathlib.Numerals.{add-one}
use borrow.Author.Tests.{le-leb, leb-true, ne_eqb}
use lib.Dec.{leb}
use Rattle.decide.specs.Test.{test, both}
use Rattle.decide.specs.Refusal.{first, first_of}
use Rattle.decide.proofs.Cases.{by_cases, true_or_false}
use Rattle.wire.specs.Wire.{le}
use Rattle.shaper.specs.Kind.{event_of}
use Rattle.summary.specs.Answer.{Answer}
use Rattle.summary.specs.Summary.{summary_of, joined, ceiling_of, need_ℤ}
use Rattle.record.specs.Read.{is_run, item_faults, item_kind, item_number, item_count, read_items, read_in}
use Rattle.account.specs.Account.{summarize_in}
use Rattle.feed.specs.Feed.{fed_of, fed_chunks}
use Rattle.feed.proofs.Promises.{fed_whole, ends_stands}
use Rattle.hex_text.specs.Hex.{is_within, glyph_of, text_of}
use Rattle.hex_text.specs.Fed.{read_text, read_chunks}
use Rattle.hex_text.proofs.Promises.{text_whole}
use Rattle.hex_text.proofs.Ends.{ends_two, ends_named}
use Rattle.report.specs.Text.{ascii, signed_numeral, line}
use Rattle.report.specs.Report.{counts_text, started_text, settled_text, printed_of}
use Rattle.report.proofs.Numeral.{numeral_one, numeral_more}
use Rattle.report.proofs.Promises.{example, text_example}
use Rattle.paper.proofs.Files.{joins_files}
use Rattle.paper.specs.Program.{Characters, HexText, Printed, FedBytes, Program}

-- ---- hex text

-- a character that is not between two others
outside : (low high c : ℕ) → ((low ≤ c) × (c ≤ high) → ⊥) → is_within low high c ≡ false
outside low high c n =
    by_cases (true_or_false (is_within low high c))
    (λ e. let p = both (leb low c) (leb c high) e in absurd (n (leb-true low c p.0, leb-true c high p.1)))
    (λ e. e)

characters : Characters
unfolding glyph_of
characters =
    record {
      digit = λ c h k. rw (le-leb 48 c h, le-leb c 57 k);
      upper = λ c h k. rw (outside 48 57 c (λ p. omega arith), le-leb 65 c h, le-leb c 70 k);
      lower = λ c h k. rw (outside 48 57 c (λ p. omega arith), outside 65 70 c (λ p. omega arith), le-leb 97 c h, le-leb c 102 k);
      blank = (refl, refl, refl, refl);
      other = λ c d u l t f r s. rw (outside 48 57 c d, outside 65 70 c u, outside 97 102 c l, ne_eqb c 9 t, ne_eqb c 10 f, ne_eqb c 13 r, ne_eqb c 32 s);
    }

hex_text : HexText
hex_text =
    record {
      characters = characters;
      exactly = λ text. refl;
      none = (refl, refl);
      more = λ c cs. (refl, refl);
      a_digit = λ d b ds. (refl, refl);
      a_blank = λ b ds. (refl, refl);
      another = λ b. refl;
      paired = (refl, λ h l ds. refl);
    }

-- ---- what is printed

printed : Printed
unfolding signed_numeral line counts_text started_text settled_text printed_of
printed =
    record {
      no_word = refl;
      words = λ c rest. refl;
      one_digit = numeral_one;
      more_digits = numeral_more;
      signed = λ n. (refl, rw add-one);
      lines = λ words number. refl;
      counts = λ s. refl;
      permitted = λ s credit e. rw e;
      not_permitted = λ s e. rw e;
      refused = λ n. refl;
      not_settled = λ s n e. rw e;
    }

-- the paper's record as hex text comes to its summary
example_text : text_of (ascii "0e00 1000 4000 64000000 2c010000 060001009600 060003003c00 060003004000 060002003200") ≡ Ok example
unfolding text_of glyph_of summarize_in read_in read_items is_run item_faults item_kind item_number item_count event_of first first_of test le summary_of joined ceiling_of need_ℤ
example_text = refl

fed : FedBytes
unfolding fed_of fed_chunks
fed =
    record {
      whole = fed_whole;
      no_chunk = λ f. refl;
      a_chunk = λ f chunk chunks. refl;
      no_byte = λ f. refl;
      a_byte = λ f b bs. refl;
      ends = ends_stands;
    }

pub program : Program
unfolding text_of read_text read_chunks
program =
    record {
      chunks = text_whole;
      no_chunk = λ x. refl;
      a_chunk = λ x chunk chunks. refl;
      no_character = λ x. refl;
      a_character = λ x c cs. refl;
      ends = ends_two;
      ends_named = ends_named;
      text = hex_text;
      other = λ text e. rw e;
      hex = λ text e. rw e;
      example = ap printed_of example_text ∙ text_example;
      fed = fed;
      files = joins_files;
      printed = printed;
    }
