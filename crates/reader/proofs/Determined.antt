-- Two answers that meet a contract are equal.
-- Assumes nothing.
use Prim.Native.Nat.{ℕ}
use mathlib.Core.List.{List}
use mathlib.Core.Path.{◌≡◌, sym, ◌∙◌}
use denote.Ref.{Bor}
use Rattle.record.specs.Step.{Step}
use Rattle.reader.specs.declared.Reader.{Reader}
use Rattle.reader.specs.Walk.{new_of, next_of, moved_of}

pub new_determined : (s : Bor (List ℕ)) (r q : Reader) → r ≡ new_of s → q ≡ new_of s → r ≡ q
new_determined s r q e f = e ∙ sym f

pub next_determined : (d : Reader) (r q : Step) → r ≡ next_of d → q ≡ next_of d → r ≡ q
next_determined d r q e f = e ∙ sym f

pub moved_determined : (d r q : Reader) → r ≡ moved_of d → q ≡ moved_of d → r ≡ q
moved_determined d r q e f = e ∙ sym f
