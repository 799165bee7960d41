-- What a row of the table picks, that the queues follow from it (the one that the origin names is without its first frame), and that it looks at nothing else
-- than the credits, the stage and the front of each queue.
-- Assumes nothing.
use mathlib.Core.Path.{◌≡◌, refl, ap}
use Rattle.queue.specs.Front.{fronted}
use Rattle.queue.specs.Queue.{first_frame, space_of}
use Rattle.settings.specs.declared.Settings.{Settings}
use Rattle.credits.specs.declared.Credits.{Credits}
use Rattle.flow.specs.declared.Flow.{Flow}
use Rattle.flow.specs.declared.Line.{Line}
use Rattle.flow.specs.declared.Line.TheVariants.{Control, Primary, Secondary}
use Rattle.flow.specs.Parts.{queue_of, with_credits}
use Rattle.flow.specs.Leave.{left_of}
use Rattle.selection.specs.declared.Pick.{Pick}
use Rattle.selection.specs.declared.Selected.{Selected}
use Rattle.selection.specs.declared.Sight.{Sight}
use Rattle.selection.specs.Select.{origin_of, leaves, select_of}
use Rattle.selection.specs.Pick.{sight_of, seen_in, front_at, pick_from, pick_of}
use Rattle.selection.proofs.Select.{Goes, control, primary, pressed, staged, secondary, nothing, goes, goes_selected}

-- the queue that looks so, and what is picked of it, with these credits left
pub front_seen : (v : Sight) (l : Line) → queue_of (seen_in v) l ≡ fronted (front_at v l)
front_seen v Control = refl
front_seen v Primary = refl
front_seen v Secondary = refl

abbrev pub of_front : Sight → Credits → Line → Pick
of_front v c l = record { origin = origin_of l; frame = first_frame (fronted (front_at v l)); credits = c; stage = v.stage }

pub front_picked : (v : Sight) (c : Credits) (l : Line) → pick_from (leaves (with_credits (seen_in v) c) l) ≡ of_front v c l
front_picked v c Control = refl
front_picked v c Primary = refl
front_picked v c Secondary = refl

-- what is picked, with the flow that it leaves
abbrev pub leaving : Flow → Pick → Selected
leaving f p = record { origin = p.origin; frame = p.frame; flow = left_of f p.origin p.credits p.stage }

module _ (s : Settings) (f : Flow) where
  row_leaves : {r : Selected} → Goes s f r → r ≡ leaving f (pick_from r)
  row_leaves (control a) = refl
  row_leaves (primary a b) = refl
  row_leaves (pressed a b c) = refl
  row_leaves (staged a b c d) = refl
  row_leaves (secondary a b c d e) = refl
  row_leaves (nothing a b c d e) = refl

  -- a selection is what is picked, and the flow that this leaves
  pub pick_leaves : select_of s f ≡ leaving f (pick_of s f)
  pick_leaves = row_leaves (goes s f)

  -- A selection looks at nothing else: a flow that looks like this one picks the same.
  seen : {r : Selected} → Goes s f r → pick_from (select_of s (seen_in (sight_of f))) ≡ pick_from r
  unfolding first_frame space_of
  seen (control a) = ap pick_from (goes_selected s (seen_in (sight_of f)) (control a))
  seen (primary a b) = ap pick_from (goes_selected s (seen_in (sight_of f)) (primary a b))
  seen (pressed a b c) = ap pick_from (goes_selected s (seen_in (sight_of f)) (pressed a b c))
  seen (staged a b c d) = ap pick_from (goes_selected s (seen_in (sight_of f)) (staged a b c d))
  seen (secondary a b c d e) = ap pick_from (goes_selected s (seen_in (sight_of f)) (secondary a b c d e))
  seen (nothing a b c d e) = ap pick_from (goes_selected s (seen_in (sight_of f)) (nothing a b c d e))

  pub sight_picks : pick_of s (seen_in (sight_of f)) ≡ pick_of s f
  sight_picks = seen (goes s f)
