-- What an answer is read by, whatever it leaves: the number of its refusal, what that says beside it, and what is there afterwards.
-- Assumes nothing.
use Rattle.std.specs.Prelude.{ℕ, Result, Ok, Err}
use Rattle.decide.specs.Number.{number_in, refusal_of}
use Rattle.decide.specs.declared.refusal.Refusal.{Refusal}
use Rattle.shaper.specs.declared.Refused.{Refused}

-- a refusal with nothing beside it
abbrev pub plain : Refusal → Refused
plain r = record { refusal = r; detail = 0 }

-- the refusal of a number, and what it says beside it
abbrev pub refused : ℕ → ℕ → Refused
refused n detail = record { refusal = refusal_of n; detail = detail }

-- 0 where the call is carried out, else the number of the refusal
abbrev pub number_said : {A : Type 0} → Result A Refused → ℕ
number_said (Ok a) = 0
number_said (Err e) = number_in e.refusal

-- what is said beside the number: nothing where the call is carried out
abbrev pub detail_said : {A : Type 0} → Result A Refused → ℕ
detail_said (Ok a) = 0
detail_said (Err e) = e.detail

-- what the call leaves; a refusal leaves what was there
abbrev pub afterwards : {A : Type 0} → A → Result A Refused → A
afterwards old (Ok a) = a
afterwards old (Err e) = old
