-- The offers, row by row: rows stand in the order of their ranks, so they may be tried one after the other.
-- Assumes nothing.
use Prim.Native.Nat.{ℕ, ◌≤◌, ◌<◌}
use Rattle.std.specs.Prelude.{Result}
use mathlib.Core.Bool.{Bool, true, false, cond, ◌&&◌, and-false}
use mathlib.Core.List.{[], ◌∷◌}
use mathlib.Core.Path.{◌≡◌, refl, ap, ◌∙◌}
use borrow.Author.Tests.{lt-ltb, le-ltb}
use lib.Dec.{eqb}
use Rattle.decide.specs.Refusal.{refused_or, RefusedExactly}
use Rattle.decide.proofs.Given.{in_order_lem, refused_exactly}
use Rattle.decide.proofs.Number.{number_told}
use Rattle.decide.proofs.Refused.{number_by}
use Rattle.queue.specs.declared.Frame.{Frame}
use Rattle.queue.specs.Queue.{space_of}
use Rattle.settings.specs.declared.Settings.{Settings}
use Rattle.credits.specs.declared.Credits.{Credits}
use Rattle.credits.specs.declared.Way.{Way}
use Rattle.credits.specs.declared.Way.TheVariants.{ClassA, ClassB, Excess}
use Rattle.credits.specs.declared.Which.{Which}
use Rattle.credits.specs.declared.Which.TheVariants.{B, C, D}
use Rattle.credits.specs.Which.{permits_of, permits_all}
use Rattle.credits.specs.Short.{short_all}
use Rattle.credits.specs.Way.{needs_of, mark_of, way_of}
use Rattle.credits.proofs.Ways.{way_b_failing, way_c}
use Rattle.flow.specs.declared.Client.{Client}
use Rattle.flow.specs.declared.Flow.{Flow}
use Rattle.flow.specs.declared.Line.{Line}
use Rattle.flow.specs.declared.Line.TheVariants.{Primary, Secondary}
use Rattle.flow.specs.Parts.{queue_of, capacity_of, stage_holds}
use Rattle.shaper.specs.declared.Refused.{Refused}
use Rattle.shaper.specs.Refused.{number_said}
use Rattle.flow.specs.Offer.{Entered, enter_faults, not_entered_of, appended_of, enter_of, queue_for, client_faults, client_frame, refused_of, laid_of, client_as, client_of}
use Rattle.flow.specs.Events.{way_back}

-- ---- into a queue

module _ (s : Settings) (f : Flow) (l : Line) (x : Frame) where
  -- 4 where the size exceeds the queue's space, and nothing is changed
  pub enter_refused : space_of (queue_of f l) (capacity_of s l) < x.size → enter_of s f l x ≡ not_entered_of 4
  unfolding refused_or
  enter_refused h = rw (in_order_lem (enter_faults s f l x) refl, lt-ltb (space_of (queue_of f l) (capacity_of s l)) x.size h)

  -- elsewhere the frame stands last in the queue
  pub enter_taken : x.size ≤ space_of (queue_of f l) (capacity_of s l) → enter_of s f l x ≡ appended_of f l x
  unfolding refused_or
  enter_taken h = rw (in_order_lem (enter_faults s f l x) refl, le-ltb (space_of (queue_of f l) (capacity_of s l)) x.size h)

  -- the number is that of the rows: 4 exactly when the size exceeds the space
  pub enter_exactly : RefusedExactly (number_said (enter_of s f l x)) (enter_faults s f l x)
  enter_exactly = refused_exactly (enter_faults s f l x) refl _ (number_by (λ (r : Entered). number_said r) _ _ number_told refl _)

-- Transit A goes to the primary queue,
pub transit_a : (s : Settings) → queue_for s 0 ≡ Primary
unfolding queue_for
transit_a s = refl

-- B and C to the secondary.
pub transit_b : (s : Settings) → queue_for s 1 ≡ Secondary
unfolding queue_for
transit_b s = refl

pub transit_c : (s : Settings) → queue_for s 2 ≡ Secondary
unfolding queue_for
transit_c s = refl

-- ---- the way of a client frame

module _ (s : Settings) (c : Credits) where
  -- class and mark say how a frame went in
  pub way_back_lem : (class : ℕ) → way_back class (mark_of (way_of s c class)) ≡ way_of s c class
  unfolding way_of
  way_back_lem class = go (eqb class 0) (eqb class 1 && permits_all s c (needs_of ClassB))
    where
      go : (a b : Bool) → cond a ClassA (cond (eqb (mark_of (cond a ClassA (cond b ClassB Excess))) 0) ClassB Excess) ≡ cond a ClassA (cond b ClassB Excess)
      go true b = refl
      go false true = refl
      go false false = refl

-- ---- into the stage

module _ (w : Way) (s : Settings) (f : Flow) (class size hops : ℕ) (over : Bool) where
  -- 5 where the stage holds a frame
  pub client_full : stage_holds f ≡ true → client_as w s f class size hops over ≡ refused_of 5 0
  unfolding refused_or
  client_full e = rw (in_order_lem (client_faults s f w over) refl, e)

  -- else 6 where a needed shaper does not permit, and how far short they are
  pub client_barred : stage_holds f ≡ false → permits_all s f.credits (needs_of w) ≡ false
      → client_as w s f class size hops over ≡ refused_of 6 (short_all s f.credits (needs_of w))
  unfolding refused_or
  client_barred e p = rw (in_order_lem (client_faults s f w over) refl, e, p)

  -- else 7 where an eligible frame would pass the congested fair rate
  pub client_over : stage_holds f ≡ false → permits_all s f.credits (needs_of w) ≡ true → (eqb (mark_of w) 1 && over) ≡ true
      → client_as w s f class size hops over ≡ refused_of 7 0
  unfolding refused_or
  client_over e p o = rw (in_order_lem (client_faults s f w over) refl, e, p, o)

  -- else the frame lies in the stage, and the needed shapers are charged
  pub client_taken : stage_holds f ≡ false → permits_all s f.credits (needs_of w) ≡ true → (eqb (mark_of w) 1 && over) ≡ false
      → client_as w s f class size hops over ≡ laid_of s f w (client_frame w class size hops)
  unfolding refused_or
  client_taken e p o = rw (in_order_lem (client_faults s f w over) refl, e, p, o)

  -- the number is that of the rows: 5, 6 and 7 exactly when they apply, in this order
  pub client_exactly : RefusedExactly (number_said (client_as w s f class size hops over)) (client_faults s f w over)
  client_exactly = refused_exactly (client_faults s f w over) refl _ (number_by (λ (r : Result Client Refused). number_said r) _ _ number_told refl _)

-- ---- D lacking is always 6

lacking : (s : Settings) (c : Credits) (w : Which) → permits_of s c D ≡ false → permits_all s c (w ∷ D ∷ []) ≡ false
lacking s c w e = ap (λ (b : Bool). permits_of s c w && (b && true)) e ∙ and-false (permits_of s c w)

module _ (s : Settings) (f : Flow) (size hops : ℕ) (over : Bool) (e : stage_holds f ≡ false) (d : permits_of s f.credits D ≡ false) where
  -- for client B, which then is excess and lacks D as such
  pub b_lacks_d : client_of s f 1 size hops over ≡ refused_of 6 (short_all s f.credits (C ∷ D ∷ []))
  b_lacks_d = rw (way_b_failing s f.credits (lacking s f.credits B d)) (client_barred Excess s f 1 size hops over e (lacking s f.credits C d))

  -- and for client C
  pub c_lacks_d : client_of s f 2 size hops over ≡ refused_of 6 (short_all s f.credits (C ∷ D ∷ []))
  c_lacks_d = rw (way_c s f.credits) (client_barred Excess s f 2 size hops over e (lacking s f.credits C d))
