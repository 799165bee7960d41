-- The commands `rpr summarize` and `rpr join`: hex text, read in chunks of any sizes, summaries in files, and what is printed of them, for the third condition.
-- Assumes nothing.
use Rattle.decide.specs.declared.refusal.Refusal.{Refusal}
use Rattle.std.specs.Prelude.{Ok, Err, Some, None}
use Rattle.decide.specs.Number.{number_in, refusal_of}
use Rattle.std.specs.Prelude.{ℕ, ◌+◌, ◌*◌, ◌-◌, ◌/◌, ◌%◌, ◌≤◌, ◌<◌, Bool, true, false, ◌&&◌, ◌⊎◌, ◌≡◌, eqb, pos, negsuc, length}
use Prim.Native.Char.{Char, code}
use Prim.Native.String.{String}
use Prim.Native.String.{[] as end, ◌∷◌ as ◌before◌}
use mathlib.Core.List.{List, [], ◌∷◌, ◌++◌, map, flatten}
use Rattle.shaper.specs.declared.Limits.{Limits}
use Rattle.summary.specs.declared.Summary.{Summary}
use Rattle.summary.specs.Answer.{Answer, answer_number}
use Rattle.summary.specs.Answer.{Outcome}
use Rattle.summary.specs.Answer.{join_of, settle_of}
use Rattle.summary.specs.Range.{in_range}
use Rattle.record.specs.Items.{Item, written_items, unrolled, Formed}
use Rattle.account.specs.Account.{summarize_of}
use Rattle.wire.specs.Wire.{Bytes}
use Rattle.feed.specs.declared.Feed.{Feed}
use Rattle.feed.specs.declared.Stage.TheVariants.{Stopped}
use Rattle.feed.specs.Feed as feeding
use Rattle.feed.specs.Feed.{fed_byte, fed_of, fed_chunks}
use Rattle.hex_text.specs.declared.Glyph.TheVariants.{Digit, Blank, Other}
use Rattle.hex_text.specs.Hex.{glyph_of, unless_other, all_hex, onto, digits_of, pairs, is_hex, text_of}
use Rattle.hex_text.specs.declared.Hex.{Hex}
use Rattle.hex_text.specs.Fed.{start_of, read_char, read_text, read_chunks, finish_of, is_lost, ends_of}
use Rattle.sheet.specs.Sheet.{sheet_of, summary_at}
use Rattle.sheet.specs.Files.{opened_of, joined_from, joined_of, file_of}
use Rattle.report.specs.Text.{ascii, numeral, signed_numeral, line}
use Rattle.report.specs.Report.{counts_text, printed_of}

-- ---- hex text

-- A character: a digit of either letter case, a blank or line end (tab, line feed, carriage return, space), or other text.
pub record Characters : Type 0 where
  pub digit : (c : ℕ) → 48 ≤ c → c ≤ 57 → glyph_of c ≡ Digit (c - 48)
  pub upper : (c : ℕ) → 65 ≤ c → c ≤ 70 → glyph_of c ≡ Digit (c - 65 + 10)
  pub lower : (c : ℕ) → 97 ≤ c → c ≤ 102 → glyph_of c ≡ Digit (c - 97 + 10)
  pub blank : (glyph_of 9 ≡ Blank) × (glyph_of 10 ≡ Blank) × (glyph_of 13 ≡ Blank) × (glyph_of 32 ≡ Blank)
  pub other : (c : ℕ) → ((48 ≤ c) × (c ≤ 57) → ⊥) → ((65 ≤ c) × (c ≤ 70) → ⊥) → ((97 ≤ c) × (c ≤ 102) → ⊥)
      → (c ≡ 9 → ⊥) → (c ≡ 10 → ⊥) → (c ≡ 13 → ⊥) → (c ≡ 32 → ⊥) → glyph_of c ≡ Other

pub record HexText : Type 0 where
  pub characters : Characters
  -- no character is other text, and there is no odd digit
  pub exactly : (text : List ℕ) → is_hex text ≡ (all_hex text && eqb (length (digits_of text) % 2) 0)
  pub none : (all_hex [] ≡ true) × (digits_of [] ≡ [])
  pub more : (c : ℕ) (cs : List ℕ) → (all_hex (c ∷ cs) ≡ unless_other (glyph_of c) (all_hex cs)) × (digits_of (c ∷ cs) ≡ onto (glyph_of c) (digits_of cs))
  pub a_digit : (d : ℕ) (b : Bool) (ds : List ℕ) → (unless_other (Digit d) b ≡ b) × (onto (Digit d) ds ≡ d ∷ ds)
  pub a_blank : (b : Bool) (ds : List ℕ) → (unless_other Blank b ≡ b) × (onto Blank ds ≡ ds)
  pub another : (b : Bool) → unless_other Other b ≡ false
  -- two digits are a byte, the higher first
  pub paired : (pairs [] ≡ []) × ((h l : ℕ) (ds : List ℕ) → pairs (h ∷ l ∷ ds) ≡ (16 * h + l) ∷ pairs ds)

-- ---- what is printed

pub record Printed : Type 0 where
  -- words by their characters' numbers,
  pub no_word : ascii end ≡ []
  pub words : (c : Char) (rest : String) → ascii (c before rest) ≡ code c ∷ ascii rest
  -- numbers in decimal without leading zeros, a negative one behind its sign
  pub one_digit : (n : ℕ) → n < 10 → numeral n ≡ (48 + n) ∷ []
  pub more_digits : (n : ℕ) → 10 ≤ n → numeral n ≡ numeral (n / 10) ++ ((48 + n % 10) ∷ [])
  pub signed : (n : ℕ) → (signed_numeral (pos n) ≡ numeral n) × (signed_numeral (negsuc n) ≡ ascii "-" ++ numeral (n + 1))
  pub lines : (words number : List ℕ) → line words number ≡ words ++ number ++ ascii "\n"
  -- events, accrued, sent, ceiling, need;
  pub counts : (s : Summary)
      → counts_text s
      ≡ line (ascii "events ") (numeral s.events) ++ line (ascii "accrued ") (numeral s.accrued) ++ line (ascii "sent ") (numeral s.sent)
      ++ line (ascii "ceiling ") (signed_numeral s.ceiling) ++ line (ascii "need ") (numeral s.need)
  -- the start is loLimit; if need is larger the last line is `start 100 not permitted`.
  pub permitted : (s : Summary) (credit : ℕ) → settle_of s s.limits.lo ≡ Ok (Some credit)
      → printed_of (Ok s) ≡ counts_text s ++ (ascii "start " ++ numeral s.limits.lo) ++ line (ascii " permitted end ") (numeral credit)
  pub not_permitted : (s : Summary) → settle_of s s.limits.lo ≡ Ok None
      → printed_of (Ok s) ≡ counts_text s ++ (ascii "start " ++ numeral s.limits.lo) ++ ascii " not permitted\n"
  -- A refusal prints only `refused N`.
  pub refused : (r : Refusal) → printed_of (Err r) ≡ line (ascii "refused ") (numeral (number_in r))
  pub not_settled : (s : Summary) (r : Refusal) → settle_of s s.limits.lo ≡ Err r → printed_of (Ok s) ≡ printed_of (Err r)

-- ---- bytes in chunks

-- A record in either form that is fed in chunks of any sizes: chunk after chunk, and within one byte after byte.
pub record FedBytes : Type 0 where
  pub whole : (chunks : List (List ℕ)) → Bytes (flatten chunks) → feeding.finish_of (fed_chunks feeding.start_of chunks) ≡ summarize_of (flatten chunks)
  pub no_chunk : (f : Feed) → fed_chunks f [] ≡ f
  pub a_chunk : (f : Feed) (chunk : List ℕ) (chunks : List (List ℕ)) → fed_chunks f (chunk ∷ chunks) ≡ fed_chunks (fed_of f chunk) chunks
  pub no_byte : (f : Feed) → fed_of f [] ≡ f
  pub a_byte : (f : Feed) (b : ℕ) (bs : List ℕ) → fed_of f (b ∷ bs) ≡ fed_of (fed_byte f b) bs
  -- Behind a fault nothing need be read: no byte more changes the answer.
  pub ends : (f : Feed) → feeding.ends_of f ≡ true → (bs : List ℕ) → feeding.finish_of (fed_of f bs) ≡ feeding.finish_of f

-- ---- summaries in files

-- What the command `rpr join` answers of files of bytes, in the order given.
pub record JoinsFiles : Type 0 where
  -- A file of another number of bytes than 48 is 2, one whose summary is outside its range is 3, and any other holds its summary.
  pub other_length : (xs : List ℕ) → (length xs ≡ 48 → ⊥) → opened_of xs ≡ Err (refusal_of 2)
  pub out_of_range : (xs : List ℕ) → length xs ≡ 48 → in_range (summary_at xs) ≡ false → opened_of xs ≡ Err (refusal_of 3)
  pub opened : (xs : List ℕ) → length xs ≡ 48 → in_range (summary_at xs) ≡ true → opened_of xs ≡ Ok (summary_at xs)
  -- Each is joined to those before it; a refusal stands, whatever follows.
  pub no_more : (a : Answer) → joined_from a [] ≡ a
  pub joins : (s t : Summary) (xs : List ℕ) (files : List (List ℕ)) → opened_of xs ≡ Ok t
      → joined_from (Ok s) (xs ∷ files) ≡ joined_from (join_of s t) files
  pub refuses : (s : Summary) (r : Refusal) (xs : List ℕ) (files : List (List ℕ)) → opened_of xs ≡ Err r
      → joined_from (Ok s) (xs ∷ files) ≡ joined_from (Err r) files
  pub stands : (r : Refusal) (xs : List ℕ) (files : List (List ℕ)) → joined_from (Err r) (xs ∷ files) ≡ joined_from (Err r) files
  -- The first is opened, and the others are joined to it.
  pub all : (xs : List ℕ) (files : List (List ℕ)) → joined_of xs files ≡ joined_from (opened_of xs) files
  -- What --sheet writes is a summary's 48 bytes, and of a refusal nothing.
  pub written_file : (s : Summary) (r : Refusal) → (file_of (Ok s) ≡ sheet_of s) × (file_of (Err r) ≡ [])
  -- A record in either form cut between events into pieces, each in either form, summarized on its own from its bytes and written to a file: joined in their
  -- order, the files give the summary of the whole.
  pub pieces : (l : Limits) (whole is : List Item) (rest : List (List Item)) → Formed true l whole → Formed true l (is ++ flatten rest)
      → unrolled whole ≡ unrolled (is ++ flatten rest)
      → joined_of (file_of (summarize_of (written_items l is))) (map (λ piece. file_of (summarize_of (written_items l piece))) rest) ≡ summarize_of (written_items l whole)

-- ---- together

pub record Program : Type 0 where
  -- However the text is cut, it is read as a whole:
  pub chunks : (chunks : List (List ℕ)) → finish_of (read_chunks start_of chunks) ≡ text_of (flatten chunks)
  -- chunk after chunk, and within one character after character;
  pub no_chunk : (x : Hex) → read_chunks x [] ≡ x
  pub a_chunk : (x : Hex) (chunk : List ℕ) (chunks : List (List ℕ)) → read_chunks x (chunk ∷ chunks) ≡ read_chunks (read_text x chunk) chunks
  pub no_character : (x : Hex) → read_text x [] ≡ x
  pub a_character : (x : Hex) (c : ℕ) (cs : List ℕ) → read_text x (c ∷ cs) ≡ read_text (read_char x c) cs
  -- Where a text can only come to 2 the rest need not be read;
  pub ends : (x : Hex) → ends_of x ≡ true → (cs : List ℕ) → answer_number (finish_of (read_text x cs)) ≡ 2
  -- past other text, and past the refusal of 2, it comes to that refusal.
  pub ends_named : (x : Hex) → (is_lost x.place ≡ true) ⊎ (x.feed.stage ≡ Stopped (refusal_of 2)) → (cs : List ℕ) → finish_of (read_text x cs) ≡ Err (refusal_of 2)
  -- other text or an odd digit, anywhere, is 2 before all else, and else its bytes are a record.
  pub text : HexText
  pub other : (text : List ℕ) → is_hex text ≡ false → text_of text ≡ Err (refusal_of 2)
  pub hex : (text : List ℕ) → is_hex text ≡ true → text_of text ≡ summarize_of (pairs (digits_of text))
  pub fed : FedBytes
  pub files : JoinsFiles
  pub printed : Printed
  -- For the paper's record it prints exactly this.
  pub example : printed_of (text_of (ascii "0e00 1000 4000 64000000 2c010000 060001009600 060003003c00 060003004000 060002003200"))
      ≡ ascii "events 4\naccrued 200\nsent 124\nceiling 100\nneed 11\nstart 100 permitted end 100\n"
