-- Both tests say that the bytes are equal.
-- Assumes nothing.
use mathlib.Core.Path.{◌∙◌}
use lib.Pointwise.{bytes_decides}
use Rattle.window.proofs.Equal.{agree, alike_exactly}
use Rattle.window.proofs.alike.Goals as goal

pub returns : goal.returns
returns c =
    let w = c.args.first.now in
    let v = c.args.second.now in
    c.eq.ensures
    ∙ agree _ _ (λ e. (alike_exactly w v).1 ((bytes_decides w v).0 e)) (λ e. (bytes_decides w v).1 ((alike_exactly w v).0 e))
