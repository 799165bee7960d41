-- The two cases of a parse, by whether the bytes are a whole frame. Assumes nothing.
use mathlib.Core.Path.{◌≡◌, refl}
use mathlib.Core.Bool.{true, false}
use mathlib.Core.List.{List}
use Prim.Native.Nat.{ℕ}
use Rattle.decide.specs.Test.{test}
use Rattle.decide.specs.Refusal.{first, first_of, RefusedExactly}
use Rattle.decide.proofs.Cases.{by_cases, true_or_false}
use Rattle.decide.proofs.Given.{refused_exactly}
use Rattle.std.specs.Prelude.{Ok, Err}
use Rattle.decide.specs.Number.{refusal_of}
use Rattle.advert.specs.Frame.{whole, advert_in, parsed_of, parsed_number, parse_faults}

pub parsed_whole : (xs : List ℕ) → test (whole xs) ≡ true → parsed_of xs ≡ Ok (advert_in xs)
unfolding parsed_of
parsed_whole xs e = rw e

pub parsed_not : (xs : List ℕ) → test (whole xs) ≡ false → parsed_of xs ≡ Err (refusal_of 2)
unfolding parsed_of
parsed_not xs e = rw e

-- 2 is given exactly when the bytes are not a whole frame
pub parse_refused_exactly : (xs : List ℕ) → RefusedExactly (parsed_number (parsed_of xs)) (parse_faults xs)
unfolding parsed_of first_of first
parse_refused_exactly xs =
    refused_exactly (parse_faults xs) refl (parsed_number (parsed_of xs))
    (by_cases (true_or_false (test (whole xs))) (λ e. rw (parsed_whole xs e, e)) (λ e. rw (parsed_not xs e, e)))
