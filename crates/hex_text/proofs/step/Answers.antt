-- Each return is a row, by the codes and the place that led there.
-- Assumes nothing.
use Rattle.hex_text.proofs.Digits.{code_digit, code_blank, code_other}
use Rattle.hex_text.proofs.Steps.{step_other, step_lost, step_blank, step_first, step_second, step_pair}
use Rattle.hex_text.proofs.step.Goals as goal

pub returns-then-d-ge-OTHER : goal.returns-then-d-ge-OTHER
returns-then-d-ge-OTHER c =
    let other = code_other _ _ c.code_in-d.ensures c.if-d-ge-OTHER.true in
    rw c.new.ensures (step_other _ _ _ c.requires.1.0 other)

pub returns-then-d-ge-BLANK : goal.returns-then-d-ge-BLANK
returns-then-d-ge-BLANK c =
    let blank = code_blank _ _ c.code_in-d.ensures c.if-d-ge-OTHER.false c.if-d-ge-BLANK.true in
    rw c.new-then-d-ge-BLANK.ensures (step_blank _ _ _ c.requires.1.0 blank)

pub returns-then-e-lt-BLANK : goal.returns-then-e-lt-BLANK
returns-then-e-lt-BLANK c =
    let between = c.in-Between.is in
    let first = code_digit _ _ c.code_in-d.ensures c.if-d-ge-BLANK.false in
    let second = code_digit _ _ c.code_in-e.ensures c.if-e-lt-BLANK.true in
    rw (c.new-then-e-lt-BLANK.ensures, c.paired.ensures)
    (step_pair _ _ _ _ _ c.if-i-chunk.true c.requires.1.1 between first second)

pub returns-after-i-chunk : goal.returns-after-i-chunk
returns-after-i-chunk c =
    let digit = code_digit _ _ c.code_in-d.ensures c.if-d-ge-BLANK.false in
    rw c.new-in-Between.ensures (step_first _ _ _ c.requires.1.0 _ digit c.in-Between.is)

pub returns-in-Behind : goal.returns-in-Behind
returns-in-Behind c =
    let digit = code_digit _ _ c.code_in-d.ensures c.if-d-ge-BLANK.false in
    rw (c.new-in-Behind.ensures, c.paired-in-Behind.ensures)
    (step_second _ _ _ c.requires.1.0 _ digit _ c.in-Behind.is c.requires.1.1)

pub returns-in-Lost : goal.returns-in-Lost
returns-in-Lost c =
    rw c.new-in-Lost.ensures (step_lost _ _ _ c.requires.1.0 c.in-Lost.is)
