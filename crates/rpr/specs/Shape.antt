-- The shape of every call: the number of its first fault, alone but for what 6 says beside it, and the lent bytes as they were; or its answer and what it writes.
-- Assumes nothing.
use Rattle.std.specs.Prelude.{ℕ, ◌%◌, ◌≤◌, ◌<◌, not, List, [], ◌∷◌, ◌++◌, ◌≡◌, eqb, length}
use Rattle.decide.specs.Refusal.{Fault, fault, first_of, refused_or}
use Rattle.wire.specs.Wire.{digits}
use Rattle.shaper.specs.Short.{detail_of}
use Rattle.answer.specs.Bytes.{packed, refused_bytes}

-- Byte 0 is 0 where the call was carried out, else the refusal number, and then every other byte is 0
unfoldable pub answer_of : List Fault → ℕ → ℕ
answer_of rows said = refused_or (λ n. n) (first_of rows) said

-- but that the 6 of rpr_offer_client says how far short in bytes 4 to 7,
abbrev pub short_told : ℕ → ℕ → ℕ
short_told short n = packed (refused_bytes n (detail_of n short))

unfoldable pub short_answer_of : List Fault → ℕ → ℕ → ℕ
short_answer_of rows short said = refused_or (short_told short) (first_of rows) said

-- and every lent byte is as it was.
unfoldable pub after_of : List Fault → List ℕ → List ℕ → List ℕ
after_of rows old new = refused_or (λ n. old) (first_of rows) new

-- 2: a slice whose length is not the one named.
abbrev pub other_length_of : ℕ → List ℕ → Fault
other_length_of n xs = fault 2 (not (eqb (length xs) n))

-- ---- what a host reads from an answer

-- a number alone in the eight bytes of an answer
abbrev pub alone : ℕ → List ℕ
alone n = n ∷ 0 ∷ 0 ∷ 0 ∷ 0 ∷ 0 ∷ 0 ∷ 0 ∷ []

-- Byte 0 of the answer is the number, and where that is not 0 every other byte is 0.
pub record Bears (number answer : ℕ) : Type 0 where
  pub byte_0 : answer % 256 ≡ number
  pub others : 0 < number → digits 8 answer ≡ alone number

-- The same where 6 says how far short: it does so in bytes 4 to 7, and every other number is alone.
pub record BearsShort (short number answer : ℕ) : Type 0 where
  pub byte_0 : answer % 256 ≡ number
  pub six : number ≡ 6 → digits 8 answer ≡ (6 ∷ 0 ∷ 0 ∷ 0 ∷ []) ++ digits 4 short
  pub others : 0 < number → (number ≡ 6 → ⊥) → digits 8 answer ≡ alone number

-- the answer is 6, and bytes 4 to 7 are how far short, which fits them: loLimit + 1 − credit, 1 to 65,537
pub record SaysShort (answer short : ℕ) : Type 0 where
  pub bytes : digits 8 answer ≡ (6 ∷ 0 ∷ 0 ∷ 0 ∷ []) ++ digits 4 short
  pub least : 1 ≤ short
  pub most : short ≤ 65537

-- byte 0 of the answer is the number of the row that counts, alone where it is not 0; and then the lent bytes are as they were
abbrev pub Leaves : List Fault → ℕ → List ℕ → List ℕ → Type 0
Leaves rows answer old after = Bears (first_of rows) answer × (0 < first_of rows → after ≡ old)

-- the same where 6 says how far short
abbrev pub LeavesShort : List Fault → ℕ → ℕ → List ℕ → List ℕ → Type 0
LeavesShort rows short answer old after = BearsShort short (first_of rows) answer × (0 < first_of rows → after ≡ old)

-- byte 0 of the answer is 0
abbrev pub Carried : ℕ → Type 0
Carried answer = answer % 256 ≡ 0
