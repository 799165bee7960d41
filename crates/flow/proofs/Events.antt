-- Each call feeds each shaper the events that it is to it: a tick one event, a charge one send to each shaper that was asked and permitted, all else
-- nothing. Assumes nothing.
use Prim.Native.Nat.{ℕ, ◌≤◌}
use Rattle.std.specs.Prelude.{Result}
use mathlib.Core.Bool.{Bool, true, false, cond, ◌&&◌}
use mathlib.Core.List.{List, [], ◌∷◌, ◌++◌}
use mathlib.Core.Path.{◌≡◌, refl, ap, sym, subst, ◌∙◌}
use native.Mathlib.Omega.{arith}
use borrow.Author.Tests.{ltb-true}
use lib.Dec.{eqb}
use Rattle.decide.proofs.Cases.{by_cases, true_or_false}
use Rattle.decide.proofs.Refused.{of_answer}
use Rattle.shaper.specs.declared.Event.{Event}
use Rattle.shaper.specs.declared.Event.TheVariants.{Send}
use Rattle.shaper.specs.Credit.{AllValid, Permitted, end_credit}
use Rattle.shaper.specs.declared.Refused.{Refused}
use Rattle.shaper.specs.Refused.{number_said, afterwards}
use Rattle.shaper.specs.Credit as shaper
use Rattle.shaper.proofs.Credit.{end_append, permitted_append, valid_append}
use Rattle.queue.specs.declared.Frame.{Frame}
use Rattle.queue.specs.declared.Queue.{Queue}
use Rattle.settings.specs.declared.Settings.{Settings}
use Rattle.settings.specs.Range.{SettingsOk}
use Rattle.credits.specs.declared.Credits.{Credits}
use Rattle.credits.specs.declared.Way.{Way}
use Rattle.credits.specs.declared.Which.{Which}
use Rattle.credits.specs.declared.Which.TheVariants.{M, A, B, C, D}
use Rattle.credits.specs.Which.{credit_of, limits_for, permits_all, member, sends, fed}
use Rattle.credits.specs.Way.{needs_of, mark_of, way_of}
use Rattle.credits.proofs.Charge.{permits_member}
use Rattle.credits.proofs.Range.{bucket_ok_lem, credit_fed}
use Rattle.flow.specs.declared.Client.{Client}
use Rattle.flow.specs.declared.Flow.{Flow}
use Rattle.flow.specs.declared.Line.{Line}
use Rattle.flow.specs.declared.Line.TheVariants.{Control, Primary, Secondary}
use Rattle.flow.specs.Parts.{stage_holds, with_queue}
use Rattle.flow.specs.Tick.{waits, amount_of, tick_events, tick_of}
use Rattle.flow.specs.Offer.{Entered, enter_of, refused_of, mark_said, flow_after, client_as, client_of}
use Rattle.flow.specs.Events.{no_events, client_events, Feeds}
use Rattle.flow.proofs.Offer.{client_full, client_barred, client_over, client_taken, way_back_lem}

module _ (s : Settings) (f : Flow) where
  -- ---- no charge, and a charge

  pub none_feeds : (g : Flow) → g.credits ≡ f.credits → Feeds s f g no_events
  none_feeds g e = record { credit = λ w. ap (λ (c : Credits). credit_of c w) e; permitted = λ w. tt; valid = λ w. tt }

  sends_permitted : (ws : List Which) (z : ℕ) → permits_all s f.credits ws ≡ true → (w : Which) → Permitted (limits_for s w) (credit_of f.credits w) (sends ws z w)
  sends_permitted ws z p w = go (member w ws) refl
    where
      go : (b : Bool) → member w ws ≡ b → Permitted (limits_for s w) (credit_of f.credits w) (cond b (Send z ∷ []) [])
      go true m = (ltb-true (limits_for s w).lo (credit_of f.credits w) (permits_member s f.credits w ws p m), tt)
      go false m = tt

  sends_valid : (ws : List Which) (z : ℕ) → (16 ≤ z) × (z ≤ s.mtu) → (w : Which) → AllValid (limits_for s w) (sends ws z w)
  sends_valid ws z h w = go (member w ws)
    where
      go : (b : Bool) → AllValid (limits_for s w) (cond b (Send z ∷ []) [])
      go true = (h, tt)
      go false = tt

  -- shapers that permit are charged one send each
  pub charge_feeds : (g : Flow) (ws : List Which) (z : ℕ) → (16 ≤ z) × (z ≤ s.mtu) → permits_all s f.credits ws ≡ true
      → g.credits ≡ fed s f.credits (sends ws z) → Feeds s f g (sends ws z)
  charge_feeds g ws z h p e =
      record {
        credit = λ w. ap (λ (c : Credits). credit_of c w) e ∙ credit_fed s f.credits (sends ws z) w;
        permitted = sends_permitted ws z p;
        valid = sends_valid ws z h;
      }

  -- ---- tick

  -- amount per tick 0 to 65,535
  amount_most : SettingsOk s → (share : ℕ) (w : Which) → amount_of s share w ≤ 65535
  amount_most good share M = (bucket_ok_lem good M).amount_most
  amount_most good share A = (bucket_ok_lem good A).amount_most
  amount_most good share B = (bucket_ok_lem good B).amount_most
  amount_most good share C = omega (arith, (bucket_ok_lem good C).amount_most)
  amount_most good share D = (bucket_ok_lem good D).amount_most

  tick_permitted : (w : Which) (c x : ℕ) (b : Bool) → Permitted (limits_for s w) c (shaper.tick_of b x ∷ [])
  tick_permitted w c x true = (tt, tt)
  tick_permitted w c x false = (tt, tt)

  tick_valid : (w : Which) (x : ℕ) (b : Bool) → x ≤ 65535 → AllValid (limits_for s w) (shaper.tick_of b x ∷ [])
  tick_valid w x true h = (h, tt)
  tick_valid w x false h = (h, tt)

  -- one event per tick
  pub tick_feeds : SettingsOk s → (share : ℕ) (a b c : Bool) → Feeds s f (tick_of s f share a b c) (tick_events s f share a b c)
  unfolding tick_of
  tick_feeds good share a b c =
      record {
        credit = credit_fed s f.credits (tick_events s f share a b c);
        permitted = λ w. tick_permitted w (credit_of f.credits w) (amount_of s share w) (waits f a b c w);
        valid = λ w. tick_valid w (amount_of s share w) (waits f a b c w) (amount_most good share w);
      }

  -- ---- offers

  queue_credits : (l : Line) (q : Queue) → (with_queue f l q).credits ≡ f.credits
  queue_credits Control q = refl
  queue_credits Primary q = refl
  queue_credits Secondary q = refl

  -- transit and control frames are charged to nobody
  pub enter_feeds : (l : Line) (x : Frame) → Feeds s f (afterwards f (enter_of s f l x)) no_events
  enter_feeds l x =
      none_feeds (afterwards f (enter_of s f l x)) (of_answer _ _ (λ (r : Entered). (afterwards f r).credits ≡ f.credits) _ (λ e. queue_credits l _) (λ e. refl))

  -- one send per charge
  pub client_feeds : (class size hops : ℕ) (over : Bool) → (16 ≤ size) × (size ≤ s.mtu)
      → let r = client_of s f class size hops over in Feeds s f (flow_after f r) (client_events class size (number_said r) (mark_said r))
  client_feeds class size hops over h =
      by_cases (true_or_false (stage_holds f)) (λ e. refused 5 0 refl (client_full w s f class size hops over e))
      (λ e. by_cases (true_or_false (permits_all s f.credits (needs_of w)))
      (λ p. by_cases (true_or_false (eqb (mark_of w) 1 && over))
      (λ o. refused 7 0 refl (client_over w s f class size hops over e p o))
      (λ o. subst Fed (sym (client_taken w s f class size hops over e p o)) (rw (way_back_lem s f.credits class) (charge_feeds _ (needs_of w) size h p refl))))
      (λ p. refused 6 _ refl (client_barred w s f class size hops over e p)))
    where
      w : Way
      w = way_of s f.credits class

      Fed : Result Client Refused → Type 0
      Fed r = Feeds s f (flow_after f r) (client_events class size (number_said r) (mark_said r))

      refused : (n detail : ℕ) → eqb (number_said (refused_of n detail)) 0 ≡ false → client_as w s f class size hops over ≡ refused_of n detail → Fed (client_as w s f class size hops over)
      refused n detail z e = subst Fed (sym e) (rw z (none_feeds f refl))

-- ---- one call after another

-- the events of the first, then those of the second
pub feeds_then : {s : Settings} {f g h : Flow} {es ds : Which → List Event} → Feeds s f g es → Feeds s g h ds → Feeds s f h (λ w. es w ++ ds w)
feeds_then {s} {f} {g} {h} {es} {ds} a b =
    record {
      credit =
          λ w. b.credit w
          ∙ ap (λ (c : ℕ). end_credit (limits_for s w) c (ds w)) (a.credit w)
          ∙ sym (end_append (limits_for s w) (es w) (ds w) (credit_of f.credits w));
      permitted =
          λ w. permitted_append (limits_for s w) (es w) (ds w) (credit_of f.credits w) (a.permitted w)
          (subst (λ (c : ℕ). Permitted (limits_for s w) c (ds w)) (a.credit w) (b.permitted w));
      valid = λ w. valid_append (limits_for s w) (es w) (ds w) (a.valid w) (b.valid w);
    }
