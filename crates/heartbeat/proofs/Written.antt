-- The summary of events, joined with itself, is that of the written-out record.
-- Assumes nothing.
use Rattle.std.specs.Prelude.{Ok, Err}
use Rattle.decide.specs.Number.{refusal_of}
use Prim.Native.Nat.{ℕ, zero, suc, ◌*◌, ◌≤◌, ◌<◌}
use mathlib.Core.Bool.{true}
use mathlib.Core.List.{List, ◌++◌}
use mathlib.Core.Path.{◌≡◌, sym, ap, ◌∙◌}
use native.Mathlib.Nat.{suc-mul}
use native.Mathlib.Omega.{arith}
use lib.ListN.{length, length-append}
use Rattle.decide.specs.Test.{Holds}
use Rattle.shaper.specs.declared.Limits.{Limits}
use Rattle.shaper.specs.declared.Event.{Event}
use Rattle.shaper.specs.Limits.{limits_ok, most_events}
use Rattle.shaper.specs.Credit.{AllValid}
use Rattle.shaper.proofs.Credit.{valid_append}
use Rattle.summary.specs.Summary.{empty_of, joined, summary_of}
use Rattle.summary.specs.Range.{in_range}
use Rattle.summary.specs.Answer.{join_of}
use Rattle.summary.proofs.Promises.{summary_events, summary_limits, summary_range, joins_few, join_append}
use Rattle.heartbeat.specs.Repeat.{times_over, power_of, repeated_of}
use Rattle.heartbeat.proofs.Powers.{summed_once, repeated_9, repeated_made}

-- ---- events so many times over

pub length_times : (r : ℕ) (es : List Event) → length (times_over r es) ≡ r * length es
unfolding times_over
length_times zero es = omega arith
length_times (suc r) es = omega (arith, length-append (times_over r es) es, length_times r es, suc-mul r (length es))

pub valid_times : (l : Limits) (r : ℕ) (es : List Event) → AllValid l es → AllValid l (times_over r es)
unfolding times_over
valid_times l zero es v = tt
valid_times l (suc r) es v = valid_append l (times_over r es) es (valid_times l r es v) v

-- ---- their summary

module _ (l : Limits) (ok : Holds (limits_ok l)) (es : List Event) (v : AllValid l es) where
  pub power_summary : (r : ℕ) → r * length es ≤ most_events → power_of (summary_of l es) r ≡ summary_of l (times_over r es)
  unfolding power_of times_over summary_of
  power_summary zero n = ap empty_of (summary_limits l ok es)
  power_summary (suc r) n =
      let m = rw (suc-mul r (length es)) at n in
      let xs = times_over r es in
      let size = length_times r es in
      let w = valid_times l r es v in
      ap (λ s. joined s (summary_of l es)) (power_summary r (omega arith))
      ∙ summed_once (join_of (summary_of l xs) (summary_of l es)) (joined (summary_of l xs) (summary_of l es)) (summary_of l (xs ++ es))
      (joins_few (summary_of l xs) (summary_of l es) (summary_range l ok xs w (omega arith)) (summary_range l ok es v (omega arith))
      (summary_limits l ok xs ∙ sym (summary_limits l ok es)) (omega (arith, summary_events l ok xs, summary_events l ok es)))
      (join_append l ok xs es w v (omega arith))

  module _ (few : length es ≤ most_events) where
    range : in_range (summary_of l es) ≡ true
    range = summary_range l ok es v few

    -- as many as may be have the summary of all of them, written out
    pub repeated_events : (r : ℕ) → r * length es ≤ most_events → repeated_of (summary_of l es) r ≡ Ok (summary_of l (times_over r es))
    repeated_events r n = repeated_made (summary_of l es) r range (rw (summary_events l ok es) n) ∙ ap Ok (power_summary r n)

    -- and more are too many
    pub repeated_many : (r : ℕ) → most_events < r * length es → repeated_of (summary_of l es) r ≡ Err (refusal_of 9)
    repeated_many r n = repeated_9 (summary_of l es) r range (rw (summary_events l ok es) n)
