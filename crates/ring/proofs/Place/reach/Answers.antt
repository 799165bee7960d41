-- `Place::reach` meets its contract: the zeros at either end of the rotated word's complement are the unbroken runs.
-- Assumes nothing.
use mathlib.Core.Path.{sym, ap, ◌∙◌}
use Prim.Native.Nat.{ℕ, ◌-◌, ◌*◌, ◌%◌, ◌^◌}
use lib.Count.{count_trailing_zeros, count_leading_zeros}
use Rattle.ring.specs.declared.Way.{Way}
use Rattle.ring.specs.Links.{reach_of}
use Rattle.ring.proofs.Distances.{stands}
use Rattle.ring.proofs.Around.{right_is, left_is}
use Rattle.ring.proofs.Place.reach.Goals as goal

pub returns-in-Left : goal.returns-in-Left
returns-in-Left c =
    let a = c.args in
    c.from.ensures
    ∙ ap (λ (x : ℕ). count_leading_zeros 64 ((2 ^ 64 - 1) - (x * 2 ^ (64 - a.self.stations)) % 2 ^ 64)) c.rotated-word.ensures
    ∙ left_is a.self.stations a.self.own a.self.links (stands a.self.placed)
    ∙ ap (λ (w : Way). reach_of w a.self.stations a.self.own a.self.links) (sym c.in-Left.is)

pub returns-in-Right : goal.returns-in-Right
returns-in-Right c =
    let a = c.args in
    c.from-in-Right.ensures
    ∙ ap (λ (x : ℕ). count_trailing_zeros 64 ((2 ^ 64 - 1) - x)) c.rotated-word.ensures
    ∙ right_is a.self.stations a.self.own a.self.links (stands a.self.placed)
    ∙ ap (λ (w : Way). reach_of w a.self.stations a.self.own a.self.links) (sym c.in-Right.is)
