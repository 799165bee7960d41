-- Four bytes are the length and the kind, four bytes from the kind on the kind and the number (`Heads`).
-- Assumes nothing.
use Rattle.std.proofs.Common.{ℕ, ◌+◌, ◌/◌, ap, ◌∙◌}
use Rattle.account.proofs.Heads.{number_at, tested_at, after_is}
use Rattle.account.proofs.event.Goals as goal

pub returns : goal.returns
returns c =
    let a = c.args in
    let bytes = λ (j : ℕ). (c.type_inv.s j).fits in
    let xs = a.s.now in
    let head = c.get32-head.ensures in
    let above = c.get32-tail.ensures in
    let fits = c.sized-fits.ensures in
    let number = ap (λ (x : ℕ). x / 65536) above ∙ number_at xs a.at bytes in
    let fine = tested_at xs a.at bytes (a.span + 16) in
    c.grow.ensures ∙ after_is a.rise (a.span + 16) xs a.at a.p _ _ _ head number (rw (fits, number, head) fine)
