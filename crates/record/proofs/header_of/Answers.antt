-- Each return is a row of what a header says, by the tests that led there.
-- Assumes nothing.
use mathlib.Core.Path.{sym, ◌∙◌}
use native.Mathlib.Omega.{arith}
use Rattle.record.proofs.Rows.{header_short, header_length, header_kind, header_outside, header_settings}
use Rattle.record.proofs.header_of.Goals as goal

pub returns-then-s-lt14 : goal.returns-then-s-lt14
returns-then-s-lt14 c = sym (header_short _ c.if-s-lt14.true)

pub returns-then-get16-ne14 : goal.returns-then-get16-ne14
returns-then-get16-ne14 c = sym (header_length c.args.s.now (omega arith) (λ e. c.if-get16-ne14.true (c.get16.ensures ∙ e)))

pub returns-then-get16-ne16 : goal.returns-then-get16-ne16
returns-then-get16-ne16 c =
    sym (header_kind c.args.s.now (omega arith) (cc) (λ e. c.if-get16-ne16.true (c.get16-2.ensures ∙ e)))

pub returns-then-not-in_range : goal.returns-then-not-in_range
returns-then-not-in_range c =
    let xs = c.args.s.now in
    let o = sym c.in_range.ensures ∙ c.if-not-in_range.true in
    sym (header_outside xs (omega arith) (cc) (cc) (cc))

pub returns : goal.returns
returns c =
    let xs = c.args.s.now in
    let o = sym c.in_range.ensures ∙ c.if-not-in_range.false in
    let g = header_settings xs (omega arith) (cc) (cc) (cc) in
    cc
