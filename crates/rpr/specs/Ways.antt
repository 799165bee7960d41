-- What the ring's two calls answer, byte by byte.
-- Assumes nothing.
use Rattle.std.specs.Prelude.{ℕ, Ok, Err}
use Rattle.decide.specs.Number.{number_in}
use Rattle.ring.specs.Choosing.{ChoiceAnswer, choose_of}
use Rattle.wrap.specs.Walking.{PathAnswer, path_of}
use Rattle.answer.specs.Bytes.{packed, chosen_bytes, moved_bytes}

-- The side with its distance, ttl and wrap mark; or the refusal's number alone.
abbrev pub choice_answer : ChoiceAnswer → ℕ
choice_answer (Ok c) = packed (chosen_bytes c.side c.distance c.ttl c.mark)
choice_answer (Err r) = number_in r

unfoldable pub choose_answer : ℕ → ℕ → ℕ → ℕ → ℕ → ℕ → ℕ → ℕ
choose_answer stations own target links side protection ring = choice_answer (choose_of stations own target links side protection ring)

-- Whether the frame is delivered, and its hops; or the refusal's number alone.
abbrev pub moved_answer : PathAnswer → ℕ
moved_answer (Ok j) = packed (moved_bytes j.delivered j.hops)
moved_answer (Err r) = number_in r

unfoldable pub path_answer : ℕ → ℕ → ℕ → ℕ → ℕ → ℕ
path_answer stations own target links home = moved_answer (path_of stations own target links home)
