-- The range of a flow: the test says exactly the named facts, both ways; and a fresh flow has it.
-- Assumes nothing.
use Prim.Native.Nat.{◌≤◌}
use mathlib.Core.Bool.{true}
use mathlib.Core.Logic.{inl, inr, ⊎_elim}
use mathlib.Core.Path.{◌≡◌, refl}
use native.Mathlib.Omega.{arith}
use Rattle.decide.specs.Test.{test, Holds, facts, passes}
use Rattle.queue.specs.Frame.{BoundsOk, frame_of}
use Rattle.queue.specs.Queue.{empty_queue}
use Rattle.queue.specs.Range.{queue_ok, QueueOk}
use Rattle.queue.proofs.Word.{held_facts, held_holds}
use Rattle.queue.proofs.Range.{queue_facts, queue_holds}
use Rattle.queue.proofs.Laws.{empty_ok_lem}
use Rattle.settings.specs.declared.Settings.{Settings}
use Rattle.settings.specs.Range.{SettingsOk}
use Rattle.credits.specs.declared.Which.{Which}
use Rattle.credits.specs.declared.Which.TheVariants.{M, A, B, C, D}
use Rattle.credits.specs.Which.{bucket_of, credit_of}
use Rattle.credits.proofs.Range.{bucket_ok_lem}
use Rattle.flow.specs.declared.Flow.{Flow}
use Rattle.flow.specs.declared.Line.{Line}
use Rattle.flow.specs.declared.Line.TheVariants.{Control, Primary, Secondary}
use Rattle.flow.specs.Parts.{queue_of, capacity_of, bounds_of}
use Rattle.flow.specs.Range.{flow_ok, FlowOk}
use Rattle.flow.specs.Tick.{start_of}

-- ---- the settings, queue by queue

module _ {s : Settings} (ok : SettingsOk s) where
  pub bounds_ok : BoundsOk (bounds_of s)
  bounds_ok = record { mtu_most = ok.mtu_most }

  pub capacity_most : (l : Line) → capacity_of s l ≤ 1048576
  capacity_most Control = ok.of_queues.control_most
  capacity_most Primary = ok.of_queues.primary_most
  capacity_most Secondary = ok.of_queues.secondary_most

-- three queues in range are each queue in range
pub by_line : (s : Settings) (f : Flow) → QueueOk (bounds_of s) s.queues.control f.control → QueueOk (bounds_of s) s.queues.primary f.primary
    → QueueOk (bounds_of s) s.queues.secondary f.secondary → (l : Line) → QueueOk (bounds_of s) (capacity_of s l) (queue_of f l)
by_line s f c p q Control = c
by_line s f c p q Primary = p
by_line s f c p q Secondary = q

-- ---- the test and the facts

module _ (s : Settings) (f : Flow) where
  pub in_range_facts : test (flow_ok s f) ≡ true → FlowOk s f
  unfolding flow_ok
  in_range_facts e =
      let ((m, (a, (b, (c, d)))), (k, (p, (q, g)))) = facts (flow_ok s f) e in
      record {
        credits = credits m a b c d;
        queues =
            by_line s f
            (queue_facts (bounds_of s) s.queues.control f.control k)
            (queue_facts (bounds_of s) s.queues.primary f.primary p)
            (queue_facts (bounds_of s) s.queues.secondary f.secondary q);
        stage = ⊎_elim (λ z. inl z) (λ r. inr (held_facts (bounds_of s) (frame_of f.stage) r)) g;
      }
    where
      credits : f.credits.m ≤ s.shapers.m.hi → f.credits.a ≤ s.shapers.a.hi → f.credits.b ≤ s.shapers.b.hi
          → f.credits.c ≤ s.shapers.c.hi → f.credits.d ≤ s.shapers.d.hi → (w : Which) → credit_of f.credits w ≤ (bucket_of s w).hi
      credits m a b c d M = m
      credits m a b c d A = a
      credits m a b c d B = b
      credits m a b c d C = c
      credits m a b c d D = d

  pub facts_in_range : FlowOk s f → test (flow_ok s f) ≡ true
  unfolding flow_ok
  facts_in_range ok =
      let c = ok.credits in
      let q : (l : Line) → Holds (queue_ok (bounds_of s) (capacity_of s l) (queue_of f l)) = λ l. queue_holds (bounds_of s) (capacity_of s l) (queue_of f l) (ok.queues l) in
      passes
      (flow_ok s f)
      ((c M, (c A, (c B, (c C, c D)))), (q Control, (q Primary, (q Secondary, ⊎_elim (λ z. inl z) (λ r. inr (held_holds (bounds_of s) (frame_of f.stage) r)) ok.stage))))

-- ---- a fresh flow

-- Credit starts at loLimit.
pub start_credit : (s : Settings) (w : Which) → credit_of (start_of s).credits w ≡ (bucket_of s w).lo
unfolding start_of
start_credit s M = refl
start_credit s A = refl
start_credit s B = refl
start_credit s C = refl
start_credit s D = refl

pub start_queue : (s : Settings) (l : Line) → queue_of (start_of s) l ≡ empty_queue
unfolding start_of
start_queue s Control = refl
start_queue s Primary = refl
start_queue s Secondary = refl

pub start_stage : (s : Settings) → (start_of s).stage ≡ 0
unfolding start_of
start_stage s = refl

pub start_ok : {s : Settings} → SettingsOk s → FlowOk s (start_of s)
start_ok {s} ok =
    record {
      credits = λ w. let b = bucket_ok_lem ok w in omega (arith, start_credit s w, b.hi_least);
      queues = λ l. rw (start_queue s l) (empty_ok_lem (bounds_of s) (capacity_of s l));
      stage = inl (start_stage s);
    }
