-- `Place::goes` meets its contract: each return is a row of the choice.
-- Assumes nothing.
use mathlib.Core.Path.{sym, ◌∙◌}
use Rattle.ring.proofs.Rows.{goes_regardless, goes_first, goes_second, goes_nowhere}
use Rattle.ring.proofs.Place.goes.Goals as goal
use Rattle.ring.proofs.Place.goes.Goals.{then-protection-eq-UNPROTECTED-via-then-protection-eq-UNPROTECTED, then-protection-eq-UNPROTECTED-via-else-protection-eq-UNPROTECTED+then-reaches}

pub returns-then-protection-eq-UNPROTECTED : goal.returns-then-protection-eq-UNPROTECTED
returns-then-protection-eq-UNPROTECTED c =
    let p = c.args.self in
    let a = c.args in
    c.along.ensures
    ∙ elim c.then-protection-eq-UNPROTECTED.branch [
      | then-protection-eq-UNPROTECTED-via-then-protection-eq-UNPROTECTED w ↦
          goes_regardless p.stations p.own p.target p.links a.side a.protection a.ring c.preferred-first.result c.preferred-first.ensures
          w.if-protection-eq-UNPROTECTED.true
      | then-protection-eq-UNPROTECTED-via-else-protection-eq-UNPROTECTED+then-reaches w ↦
          goes_first p.stations p.own p.target p.links a.side a.protection a.ring c.preferred-first.result c.preferred-first.ensures
          (sym w.reaches.ensures ∙ w.if-reaches.true)
    ]

pub returns-then-not-reaches : goal.returns-then-not-reaches
returns-then-not-reaches c =
    let p = c.args.self in
    let a = c.args in
    goes_nowhere p.stations p.own p.target p.links a.side a.protection a.ring c.preferred-first.result c.preferred-first.ensures
    c.if-protection-eq-UNPROTECTED.false
    (sym c.reaches.ensures ∙ c.if-reaches.false)
    c.other-second.result
    c.other-second.ensures
    (sym c.reaches-2.ensures ∙ c.if-not-reaches.true)

pub returns : goal.returns
returns c =
    let p = c.args.self in
    let a = c.args in
    c.along-2.ensures
    ∙ goes_second p.stations p.own p.target p.links a.side a.protection a.ring c.preferred-first.result c.preferred-first.ensures
    c.if-protection-eq-UNPROTECTED.false
    (sym c.reaches.ensures ∙ c.if-reaches.false)
    c.other-second.result
    c.other-second.ensures
    (sym c.reaches-2.ensures ∙ c.if-not-reaches.false)
