-- The header, the length of the index, the count of events and the settings, in that order; then what is asked.
-- Assumes nothing.
use Rattle.std.specs.Prelude.{Ok}
use Prim.Native.Nat.{ℕ}
use mathlib.Core.Bool.{Bool, true}
use mathlib.Core.List.{List}
use lib.ListN.{length}
use mathlib.Core.Path.{◌≡◌, sym, ap, ◌∙◌}
use borrow.Author.Rules.{rules}
use borrow.Author.Tests.{ltb-false}
use Rattle.shaper.specs.Limits.{most_events}
use Rattle.record.specs.Step.{Header, header_of_of}
use Rattle.record.proofs.Steps.{header_stands}
use Rattle.index.specs.Tree.{index_length}
use Rattle.stretch.specs.Stretch.{is_header, length_ok, asked_of}
use Rattle.stretch.proofs.Counts.{counted_says, counted_too_many, counted_own, counted_other, length_right}
use Rattle.stretch.proofs.Answers.{header_long, stretch_headless, stretch_length, stretch_other, stretch_settings, stretch_many, stretch_asked}
use Rattle.stretch.proofs.stretch.Goals as goal

-- it is a header, and the index has a right length
head : (xs : List ℕ) (h : Header) (b : Bool) → h ≡ header_of_of xs → b ≡ is_header h → b ≡ true → is_header (header_of_of xs) ≡ true
head xs h b e f g = sym (ap is_header e) ∙ sym f ∙ g

long : (m : ℕ) (b : Bool) → b ≡ length_ok m → b ≡ true → length_ok m ≡ true
long m b e f = sym e ∙ f

pub returns-then-not-is_header : goal.returns-then-not-is_header
returns-then-not-is_header c = let a = c.args in sym (stretch_headless a.s.now a.index.now a.first a.last (sym (ap is_header c.header_of-header.ensures) ∙ sym c.is_header.ensures ∙ c.if-not-is_header.true))

pub returns-then-not-is_length : goal.returns-then-not-is_length
returns-then-not-is_length c =
    let a = c.args in
    let h = head a.s.now _ _ c.header_of-header.ensures c.is_header.ensures c.if-not-is_header.false in
    sym (stretch_length a.s.now a.index.now a.first a.last h (sym c.is_length.ensures ∙ c.if-not-is_length.true))

pub count_events-requires : goal.count_events-requires
count_events-requires c =
    let a = c.args in
    let h = head a.s.now _ _ c.header_of-header.ensures c.is_header.ensures c.if-not-is_header.false in
    (header_long a.s.now h, long (length a.index.now) _ c.is_length.ensures c.if-not-is_length.false)

pub returns-in_err-counted : goal.returns-in_err-counted
returns-in_err-counted c =
    let a = c.args in
    let h = head a.s.now _ _ c.header_of-header.ensures c.is_header.ensures c.if-not-is_header.false in
    let m = long (length a.index.now) _ c.is_length.ensures c.if-not-is_length.false in
    let says = counted_other a.s.now a.index.now _ (sym c.count_events.ensures ∙ c.in_err-counted.was) in
    rw (stretch_other a.s.now a.index.now a.first a.last h m says.0, says.1) (search rules)

pub returns-in_err-limits : goal.returns-in_err-limits
returns-in_err-limits c =
    let a = c.args in
    let h = head a.s.now _ _ c.header_of-header.ensures c.is_header.ensures c.if-not-is_header.false in
    let m = long (length a.index.now) _ c.is_length.ensures c.if-not-is_length.false in
    let own = counted_own a.s.now a.index.now _ (sym c.count_events.ensures ∙ c.in_ok-counted.was) in
    rw (stretch_settings a.s.now a.index.now a.first a.last h m own _ (sym c.header_of-header.ensures ∙ c.in_err-limits.was)) (search rules)

pub asked-requires : goal.asked-requires
asked-requires c =
    let a = c.args in
    let m = long (length a.index.now) _ c.is_length.ensures c.if-not-is_length.false in
    let says = counted_says a.s.now a.index.now _ (sym c.count_events.ensures ∙ c.in_ok-counted.was ∙ ap Ok c.in-Some.is) in
    let set = sym c.header_of-header.ensures ∙ c.in_ok-limits.was in
    ((header_stands a.s.now _ set).in_range_lem, length_right a.s.now a.index.now m says.0 ∙ ap index_length (sym says.1), rw says.1 (ltb-false most_events _ says.2))

pub returns-in-Some : goal.returns-in-Some
returns-in-Some c =
    let a = c.args in
    let h = head a.s.now _ _ c.header_of-header.ensures c.is_header.ensures c.if-not-is_header.false in
    let m = long (length a.index.now) _ c.is_length.ensures c.if-not-is_length.false in
    let says = counted_says a.s.now a.index.now _ (sym c.count_events.ensures ∙ c.in_ok-counted.was ∙ ap Ok c.in-Some.is) in
    let set = sym c.header_of-header.ensures ∙ c.in_ok-limits.was in
    c.asked.ensures
    ∙ ap (λ n. asked_of c.in_ok-limits.limits a.s.now a.index.now n a.first a.last) says.1
    ∙ sym (stretch_asked a.s.now a.index.now a.first a.last h m says.0 _ set says.2)

pub returns-in-None : goal.returns-in-None
returns-in-None c =
    let a = c.args in
    let h = head a.s.now _ _ c.header_of-header.ensures c.is_header.ensures c.if-not-is_header.false in
    let m = long (length a.index.now) _ c.is_length.ensures c.if-not-is_length.false in
    let says = counted_too_many a.s.now a.index.now (sym c.count_events.ensures ∙ c.in_ok-counted.was ∙ ap Ok c.in-None.is) in
    sym (stretch_many a.s.now a.index.now a.first a.last h m says.0 _ (sym c.header_of-header.ensures ∙ c.in_ok-limits.was) says.1)
