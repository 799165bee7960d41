-- The text is cut twice: where the word begins, and where it ends. Assumes nothing.
use Rattle.std.proofs.Common.{◌≡◌, ◌+◌, ◌-◌, ◌≤◌, ◌++◌, ℕ, List, ap, length, take, drop, arith, append_assoc, length-append}
use Rattle.std.proofs.lemmas.Grind.{common_steps}
use Rattle.std.proofs.lemmas.List.{take-append-drop}
use Rattle.script.proofs.words.WordsIterator.next.Goals as goal

-- what lies behind the first n elements, whole
whole_behind : (s : List ℕ) (n : ℕ) → take (length s - n) (drop n s) ≡ drop n s
whole_behind s n = grind (arith, common_steps)

-- a text is what was passed over, and the parts into which the rest was cut
cut_twice : (s word rest : List ℕ) (n : ℕ) → take (length s - n) (drop n s) ≡ word ++ rest → take n s ++ word ++ rest ≡ s
cut_twice s word rest n cut =
    rw (append_assoc, ← cut, whole_behind) (take-append-drop n s)

-- so the parts are no longer than it
both_within : (s word rest : List ℕ) (n : ℕ) → take (length s - n) (drop n s) ≡ word ++ rest → length word + length rest ≤ length s
both_within s word rest n cut =
    omega (arith, simp length-append at (ap length (cut_twice s word rest n cut)))

pub returns-clause-steps : goal.returns-clause-steps
returns-clause-steps c =
    let s = c.args.self.now.0.now in
    let n = c.in_ok-start.start in
    let cut = c.split_at.ensures.by_index.0 in
    let within = both_within s c.split_at.result.0.now c.split_at.result.1.now n cut in
    (grind (arith, common_steps), grind (arith, common_steps), (take n s, cut_twice s _ _ n cut))
