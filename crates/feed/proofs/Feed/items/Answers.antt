-- Where items were summed at once, the bytes behind them are fed; a fault among them, and all else, goes byte by byte; past a fault nothing changes.
-- Assumes nothing.
use Prim.Native.Nat.{ℕ, ◌-◌, ◌≤◌}
use mathlib.Core.Bool.{true}
use mathlib.Core.List.{[], ◌∷◌}
use mathlib.Core.Path.{◌≡◌, sym, ap, ◌∙◌}
use native.Mathlib.Omega.{arith}
use lib.ListN.{length, drop, length-drop}
use lib.Seq.{take_all}
use denote.Laws.{Is}
use denote.Struct.Declared.{row}
use denote.Struct.Laws.{val}
use Rattle.summary.specs.Range.{in_range}
use Rattle.feed.specs.declared.Stage.{Stage}
use Rattle.feed.specs.declared.Stage.TheVariants.{Summing}
use Rattle.feed.specs.declared.Feed.{Feed}
use Rattle.feed.specs.contracts.Feed.{the_type}
use Rattle.feed.proofs.Feed.TheLaws.{the_laws}
use Rattle.feed.specs.Feed.{none_held, fed_of}
use Rattle.feed.proofs.Rows.{may_sum_means, fed_stopped}
use Rattle.feed.proofs.Held.{beginning}
use Rattle.feed.proofs.Items.{at_once_fed}
use borrow.Author.Rules.{rules}
use Rattle.feed.proofs.Feed.items.Goals as goal

-- fourteen bytes are kept
pending_full : (f : Feed) → Is (row the_type) f (val the_type the_laws f ∷ []) → length f.pending ≡ 14
pending_full f g = search rules

pub at_once-front-requires : goal.at_once-front-requires
at_once-front-requires c =
    let ahead : (c.args.self.held ≡ 0) × (10 ≤ length c.args.chunk.now) × (in_range c.in-Summing.sum ≡ true) = may_sum_means _ _ _ (sym c.may_sum.ensures ∙ c.if-not-may_sum.false) in
    let a = ahead in (a.2, a.1)

pub returns-in-Ok : goal.returns-in-Ok
returns-in-Ok c =
    let ahead : (c.args.self.held ≡ 0) × (10 ≤ length c.args.chunk.now) × (in_range c.in-Summing.sum ≡ true) = may_sum_means _ _ _ (sym c.may_sum.ensures ∙ c.if-not-may_sum.false) in
    let f = c.args.self in
    let xs = c.args.chunk.now in
    let a = ahead in
    let n = c.at_once-front.result.end in
    c.bytes-in-Ok.ensures
    ∙ ap (fed_of (beginning (Summing c.in-Ok.all) none_held)) (take_all (length xs - n) (drop n xs) (omega (arith, length-drop n xs)))
    ∙ at_once_fed c.in-Summing.sum f.pending xs c.at_once-front.result c.in-Ok.all c.at_once-front.ensures c.in-Ok.is a.2 (pending_full f c.well_formed.0) (λ j. (c.type_inv.chunk j).fits)
    ∙ ap (λ (g : Stage). fed_of (record { stage = g; pending = f.pending; held = 0 }) xs) (sym c.in-Summing.is)
    ∙ ap (λ (k : ℕ). fed_of (record { stage = f.stage; pending = f.pending; held = k }) xs) (sym a.0)

pub returns-in-Stopped : goal.returns-in-Stopped
returns-in-Stopped c = sym (fed_stopped _ _ c.in-Stopped.is _)
