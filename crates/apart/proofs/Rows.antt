-- The rows of what is printed of a setting, of what stands at a place, and of a turn.
-- Assumes nothing.
use Rattle.std.specs.Prelude.{Ok, Err, Some, None}
use Rattle.record.specs.Step.{placed}
use Rattle.decide.specs.declared.refusal.Refusal.{Refusal}
use mathlib.Core.Bool.{true, false}
use mathlib.Core.Path.{◌≡◌}
use mathlib.Core.List.{List, [], ◌++◌}
use Prim.Native.Nat.{ℕ, ◌+◌, ◌-◌, ◌/◌, ◌≤◌, ◌<◌, min}
use lib.ListN.{length}
use borrow.Author.Tests.{eq-eqb, ne_eqb, lt-ltb, le-ltb}
use Rattle.shaper.specs.declared.Event.{Event}
use Rattle.record.specs.Step.{item_at}
use Rattle.report.specs.Text.{ascii, numeral, line}
use Rattle.apart.specs.declared.Side.{Side}
use Rattle.apart.specs.declared.Place.{Place}
use Rattle.apart.specs.declared.Walk.{Walk}
use Rattle.apart.specs.declared.Stand.TheVariants.{Events, Ended, Unread}
use Rattle.apart.specs.declared.Finding.TheVariants.{Nothing, Both}
use Rattle.apart.specs.Told.{differ}
use Rattle.apart.specs.Text.{named, setting_text, both_text}
use Rattle.apart.specs.Turn.{stand_of, moved_of, both_on, pair_of, line_if}
use Rattle.apart.specs.Page.{level_of, most_turns}

module _ (words : List ℕ) (a b : ℕ) where
  -- "Settings that differ are printed first"
  pub setting_same : a ≡ b → setting_text words a b ≡ []
  unfolding setting_text
  setting_same same = rw (eq-eqb a b same)

  pub setting_other : (a ≡ b → ⊥) → setting_text words a b ≡ named words a ++ line (ascii ", ") (numeral b)
  unfolding setting_text
  setting_other other = rw (ne_eqb a b other)

-- ---- what stands at a place

module _ (side : Side) (w : List ℕ) (p : Place) where
  pub stand_events : (k v c next : ℕ) → item_at true side.mtu w p.at ≡ Ok (Some (placed k v c next)) → p.gone < c → stand_of side w p ≡ Events k v c next
  unfolding stand_of
  stand_events k v c next e h = rw (e, lt-ltb p.gone c h)

  pub stand_gone : (k v c next : ℕ) → item_at true side.mtu w p.at ≡ Ok (Some (placed k v c next)) → c ≤ p.gone → stand_of side w p ≡ Unread
  unfolding stand_of
  stand_gone k v c next e h = rw (e, le-ltb p.gone c h)

  pub stand_ended : item_at true side.mtu w p.at ≡ Ok None → side.last ≡ true → stand_of side w p ≡ Ended
  unfolding stand_of
  stand_ended e h = rw (e, h)

  pub stand_more : item_at true side.mtu w p.at ≡ Ok None → side.last ≡ false → stand_of side w p ≡ Unread
  unfolding stand_of
  stand_more e h = rw (e, h)

  pub stand_faulty : (r : Refusal) → item_at true side.mtu w p.at ≡ Err r → stand_of side w p ≡ Unread
  unfolding stand_of
  stand_faulty n e = rw e

-- ---- the place behind some events of an item

module _ (p : Place) (m c next : ℕ) where
  pub moved_within : p.gone + m < c → moved_of p m c next ≡ record { at = p.at; gone = p.gone + m }
  unfolding moved_of
  moved_within h = rw (lt-ltb (p.gone + m) c h)

  pub moved_behind : c ≤ p.gone + m → moved_of p m c next ≡ record { at = next; gone = 0 }
  unfolding moved_of
  moved_behind h = rw (le-ltb (p.gone + m) c h)

-- ---- two events

module _ (walk : Walk) (e f : Event) (c next d behind : ℕ) where
  -- "each place where kind or number differs, with both values"
  pub pair_differs : differ e f ≡ true → pair_of walk e f c next d behind ≡ both_on walk 1 c next d behind (Both e f)
  unfolding pair_of
  pair_differs other = rw other

  -- equal ones are passed as many at once as both items have left
  pub pair_same : differ e f ≡ false →
      pair_of walk e f c next d behind ≡ both_on walk (min (c - walk.first.gone) (d - walk.second.gone)) c next d behind Nothing
  unfolding pair_of
  pair_same same = rw same

module _ (n : ℕ) (e f : Event) where
  pub line_differs : differ e f ≡ true → line_if n e f ≡ both_text n e f
  unfolding line_if
  line_differs other = rw other

  pub line_same : differ e f ≡ false → line_if n e f ≡ []
  unfolding line_if
  line_same same = rw same

-- ---- how many events may stand from both places on

module _ (w v : List ℕ) (p q : Place) where
  pub level_first : (p.gone ≡ 0 → ⊥) → level_of w v p q ≡ 0
  unfolding level_of
  level_first some = rw (ne_eqb p.gone 0 some)

  pub level_second : p.gone ≡ 0 → (q.gone ≡ 0 → ⊥) → level_of w v p q ≡ 0
  unfolding level_of
  level_second none some = rw (eq-eqb p.gone 0 none, ne_eqb q.gone 0 some)

  pub level_both : p.gone ≡ 0 → q.gone ≡ 0 → level_of w v p q ≡ min (min ((length w - p.at) / 6) ((length v - q.at) / 6)) most_turns
  unfolding level_of
  level_both none both = rw (eq-eqb p.gone 0 none, eq-eqb q.gone 0 both)
