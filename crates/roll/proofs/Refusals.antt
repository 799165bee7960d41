-- A mover's answer by what it reads: it refuses the record's earliest fault, then 12, and else writes its form of the record.
-- Assumes nothing.
use Prim.Native.Nat.{ℕ, ◌≤◌, ◌<◌}
use mathlib.Core.Bool.{Bool, true, false, ◌&&◌}
use mathlib.Core.List.{List, [], ◌∷◌}
use mathlib.Core.Logic.{inl, inr}
use mathlib.Core.Path.{◌≡◌, refl, sym, ap, ◌∙◌}
use native.Mathlib.Omega.{arith}
use lib.ListN.{length}
use Rattle.decide.specs.Refusal.{Fault, Among, Given}
use Rattle.std.specs.Prelude.{Ok, Err}
use Rattle.decide.specs.Number.{refusal_of}
use Rattle.decide.proofs.Cases.{of_each}
use Rattle.wire.specs.Wire.{Bytes}
use Rattle.shaper.specs.declared.Limits.{Limits}
use Rattle.shaper.specs.declared.Event.{Event}
use Rattle.record.specs.Record.{written}
use Rattle.record.specs.Read.{header_faults, event_faults, run_faults, is_run, item_faults, Read, unreadable, whole, read_in}
use Rattle.record.specs.Cause.{Why, too_many, has_fault, passes, Cause, in_header, behind_items}
use Rattle.record.proofs.Means.{unreadable_means, means_unreadable}
use Rattle.roll.specs.Moved.{Moved, moved_number, Output, refused, bytes, rolled_read, rolled_bytes, unrolled_read, unrolled_bytes, moved_of, left_of}
use Rattle.roll.specs.Exactly.{new_form, Short, Refuses, earliest, no_room, Carried, MovesExactly}
use Rattle.roll.proofs.Rooms.{row_written, row_short, row_refused, WhyRefused, by_record, too_short, refused_why, Wrote, wrote, left_as_long}

-- ---- no fault of a record is 12

abbrev Small : List Fault → Type 0
Small [] = Unit {0}
Small (f ∷ fs) = (f.number ≤ 9) × Small fs

among_small : (fs : List Fault) (f : Fault) → Small fs → Among f fs → f.number ≤ 9
among_small [] f s a = absurd a
among_small (g ∷ gs) f s (inl e) = rw e s.0
among_small (g ∷ gs) f s (inr a) = among_small gs f s.1 a

given_small : (fs : List Fault) (n : ℕ) → Small fs → Given fs n → n ≤ 9
given_small fs n s g = omega (arith, among_small fs g.cause s g.among, g.bears)

item_small : (runs : Bool) (mtu : ℕ) (q : List ℕ) → Small (item_faults runs mtu q)
unfolding item_faults
item_small runs mtu q = of_each Small (runs && is_run q) (run_faults q) (event_faults mtu q) (λ t. omega arith) (λ t. omega arith)

why_small : {runs : Bool} {mtu most done : ℕ} {q : List ℕ} {n : ℕ} → Why runs 9 mtu most done q n → n ≤ 9
why_small (too_many e z) = omega arith
why_small {runs} {mtu} {q} {n} (has_fault h g) = given_small (item_faults runs mtu q) n (item_small runs mtu q) g
why_small (passes h e p z) = omega arith

cause_small : {runs : Bool} {xs : List ℕ} {n : ℕ} → Cause runs xs n → n ≤ 9
cause_small {xs} {n} (in_header g) = given_small (header_faults xs) n (omega arith) g
cause_small (behind_items l is q e f h w) = why_small w

-- ---- what a mover makes of what it reads

-- Both movers refuse what is unreadable, and write what is whole in their own form.
pub record Makes (make : Read → Output) (form : Limits → List Event → List ℕ) : Type 0 where
  pub fails : (n : ℕ) → make (unreadable n) ≡ refused n
  pub gives : (l : Limits) (es : List Event) → make (whole l es) ≡ bytes (form l es)

pub roll_makes : Makes rolled_read new_form
roll_makes = record { fails = λ n. refl; gives = λ l es. refl }

pub unroll_makes : Makes unrolled_read written
unroll_makes = record { fails = λ n. refl; gives = λ l es. refl }

-- the record of which a mover makes bytes: it is whole
pub record Whole (r : Read) (form : Limits → List Event → List ℕ) (ys : List ℕ) : Type 0 where
  pub limits : Limits
  pub events : List Event
  pub reads : r ≡ whole limits events
  pub made : ys ≡ form limits events

-- ---- refused, or written

module _ {make : Read → Output} {form : Limits → List Event → List ℕ} (m : Makes make form) where
  pub made_whole : (r : Read) (ys : List ℕ) → make r ≡ bytes ys → Whole r form ys
  made_whole (unreadable n) ys e = absurd (let z : ◌≡◌ {A = ℕ} 0 1 = cc (m.fails n) in omega arith)
  made_whole (whole l es) ys e = record { limits = l; events = es; reads = refl; made = cc (m.gives l es) }

  made_refused : (r : Read) (n : ℕ) → make r ≡ refused n → r ≡ unreadable n
  made_refused (unreadable k) n e = cc (m.fails k)
  made_refused (whole l es) n e = absurd (let z : ◌≡◌ {A = ℕ} 0 1 = cc (m.gives l es) in omega arith)

  module _ (runs : Bool) (xs room : List ℕ) (b : Bytes xs) where
    abbrev output : Output
    output = make (read_in runs xs)

    why : {o : Output} {n : ℕ} → output ≡ o → WhyRefused room o n → Refuses runs form xs room n
    why {o} {n} e by_record = earliest (unreadable_means runs xs n b (made_refused (read_in runs xs) n e))
    why e (too_short {ys} h) =
        let w = made_whole (read_in runs xs) ys e in
        no_room (record { limits = w.limits; events = w.events; reads = w.reads; shorter = rw (← w.made) h })

    -- what it makes of a whole record
    makes : (l : Limits) (es : List Event) → read_in runs xs ≡ whole l es → output ≡ bytes (form l es)
    makes l es e = ap make e ∙ m.gives l es

    refuses : {n : ℕ} → 0 < n → Refuses runs form xs room n → moved_of output room ≡ Err (refusal_of n)
    refuses {n} p (earliest c) = ap (λ (o : Output). moved_of o room) (ap make (means_unreadable runs xs n p c) ∙ m.fails n) ∙ (row_refused n room).0
    refuses p (no_room s) =
        ap (λ (o : Output). moved_of o room) (makes s.limits s.events s.reads) ∙ (row_short (form s.limits s.events) room s.shorter).0

    numbered : (a : Moved) → moved_of output room ≡ a → (n : ℕ) → 0 < n → moved_number a ≡ n → Refuses runs form xs room n
    numbered (Ok k) e n p z = absurd (omega arith)
    numbered (Err r) e n p z = rw z at (why refl (refused_why room output r e).0)

    short : {n : ℕ} → Refuses runs form xs room n → n ≡ 12 → Short runs form xs room
    short (earliest c) z = absurd (omega (arith, cause_small c))
    short (no_room s) z = s

    carries : {n : ℕ} → moved_of output room ≡ Ok n → Carried runs form xs room n
    carries {n} e =
        let t = wrote room output n e in
        let w = made_whole (read_in runs xs) t.output t.made in
        let k : n ≡ length (form w.limits w.events) = t.counted ∙ ap length w.made in
        record { limits = w.limits; events = w.events; reads = w.reads; counted = k; fits = omega (arith, k, t.fits) }

    carried : {n : ℕ} → Carried runs form xs room n → moved_of output room ≡ Ok n
    carried c =
        ap (λ (o : Output). moved_of o room) (makes c.limits c.events c.reads)
        ∙ (row_written (form c.limits c.events) room c.fits).0
        ∙ ap Ok (sym c.counted)

    leaves : {n : ℕ} → Carried runs form xs room n → Wrote room (left_of output room) output n
    leaves {n} c = wrote room output n (carried c)

    written_form : {n : ℕ} (c : Carried runs form xs room n) → (leaves c).output ≡ form c.limits c.events
    written_form c = cc ((leaves c).made, makes c.limits c.events c.reads)

    moves_exactly : MovesExactly runs form xs room output
    moves_exactly =
        record {
          refused_exactly = λ n p. (numbered (moved_of output room) refl n p, λ r. refuses p r);
          short_exactly = (λ e. short (why refl (refused_why room output (refusal_of 12) e).0) refl, λ s. refuses (omega arith) (no_room s));
          refused_leaves = λ r e. (refused_why room output r e).1;
          written_exactly = λ n. (λ e. carries e, λ c. carried c);
          front = λ c. (leaves c).front ∙ written_form c;
          behind = λ c. (leaves c).behind;
          as_long = left_as_long room output;
        }

-- `rpr_roll`: an old record, in which no run may stand, to the new form.
pub roll_exactly : (xs room : List ℕ) → Bytes xs → MovesExactly false new_form xs room (rolled_bytes xs)
unfolding rolled_bytes
roll_exactly xs room b = moves_exactly roll_makes false xs room b

-- `rpr_unroll`: either form to the old one.
pub unroll_exactly : (xs room : List ℕ) → Bytes xs → MovesExactly true written xs room (unrolled_bytes xs)
unfolding unrolled_bytes
unroll_exactly xs room b = moves_exactly unroll_makes true xs room b
