-- The parse says whether the bytes are a whole frame, and what it says.
-- Assumes nothing.
use mathlib.Core.Path.{sym, ap, ◌∙◌}
use Rattle.std.proofs.lemmas.Result.{err_from_is_err_and}
use Rattle.station.specs.Hear.{listen_of}
use Rattle.station.proofs.Hear.{frame_found, none_found, hear_not_whole, hear_whole}
use Rattle.station.proofs.Station.hear_known.Goals as goal

pub returns-in_err-said : goal.returns-in_err-said
returns-in_err-said c =
    let x = c.args in
    let xs : _ = x.frame.now in
    let back = err_from_is_err_and c.from_residual.result c.from_residual.ensures.1 in
    let found = none_found xs _ (sym c.parse.ensures ∙ c.in_err-said.was) in
    rw (back.1, back.2, found.1) (sym (hear_not_whole x.self xs found.0))

pub returns : goal.returns
returns c =
    let x = c.args in
    let xs : _ = x.frame.now in
    let found = frame_found xs _ (sym c.parse.ensures ∙ c.in_ok-said.was) in
    c.listen.ensures ∙ ap (listen_of x.self) found.1 ∙ sym (hear_whole x.self xs found.0)
