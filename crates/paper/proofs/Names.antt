-- The definitions say what stands there: nearly all by what they are.
-- Assumes nothing.
use Rattle.std.specs.Prelude.{Result, Ok, Err}
use Rattle.decide.proofs.Number.{number_told}
use Rattle.shaper.specs.declared.Refused.{Refused}
use Rattle.shaper.specs.Refused.{number_said, detail_said, afterwards}
use Rattle.shaper.specs.Shaper.{Charged}
use Rattle.queue.specs.Frame.{frame_of}
use Rattle.station.specs.declared.Client.{Client}
use Rattle.station.specs.declared.Selected.{Selected}
use Rattle.station.specs.Answers.{Done, origin_said, frame_said}
use Rattle.station.specs.Offers.{mark_told}
use Rattle.entry.specs.Brief.{brief_of, charge_brief_of, marked_of, chosen_of}
use Prim.Native.Nat.{ℕ, ◌+◌, ◌-◌, ◌%◌, ◌<◌}
use mathlib.Core.Bool.{true}
use mathlib.Core.List.{List, ◌∷◌}
use mathlib.Core.Path.{◌≡◌, refl, ap, ◌∙◌}
use native.Mathlib.Nat.{mod-eq_of_lt, add-mod_right}
use native.Mathlib.Omega.{arith}
use borrow.Author.Tests.{eq-eqb, ne_eqb, ltb-true, lt-ltb}
use Rattle.shaper.proofs.Short.{shortfall_least}
use Rattle.wire.specs.Wire.{le, be, digits, put}
use Rattle.wire.specs.Words.{words_at}
use Rattle.queue.specs.Queue.{frames_from, frames_of, first_frame, taken, sizes}
use Rattle.queue.proofs.Laws.{space_left, space_full}
use Rattle.credits.specs.declared.Which.{Which}
use Rattle.credits.specs.declared.Which.TheVariants.{M, A, B, C, D}
use Rattle.credits.specs.Which.{number_of, member}
use Rattle.credits.proofs.Charge.{same_which}
use Rattle.flow.proofs.Held.{head_first}
use Rattle.fair.proofs.Age.{shown_four_lem}
use Rattle.rates.proofs.Formulas.{smoothed_is, shown_is, steady_none, steady_next, aged_is, ramped_is, reduced_is, allowance_is, own_is, share_is}
use Rattle.answer.specs.Bytes.{bit_of}
use Rattle.ring.specs.declared.Way.TheVariants.{Left}
use Rattle.ring.specs.Links.{next_of}
use Rattle.ring.proofs.Rows.{tie_lower, tie_otherwise}
use Rattle.station.specs.declared.Station.{Station}
use Rattle.station.specs.Show.{held_on}
use Rattle.paper.specs.Names.{ShaperNames, QueueNames, GoingNames, ReadingNames, RateNames, PartNames, EntryNames, HistoryNames, RingNames, ByteNames, RefusalNames, Names}

-- ---- shapers

first : (w : Which) (ws : List Which) → member w (w ∷ ws) ≡ true
first M ws = refl
first A ws = refl
first B ws = refl
first C ws = refl
first D ws = refl

shapers : ShaperNames
shapers =
    record {
      settings = λ s. (refl, refl, refl, refl, refl);
      credits = λ c. (refl, refl, refl, refl, refl);
      limits = λ s w. refl;
      permitted = λ credit lo. (ltb-true lo credit, lt-ltb lo credit);
      missing = λ credit lo x. let least = shortfall_least credit lo x in (least.1, least.0);
      ticks = λ x. (refl, refl);
      nobody = λ w. refl;
      first = first;
      further = λ v w ws n. rw (ne_eqb (number_of v) (number_of w) (λ e. n (same_which v w e)));
      one_send = λ ws size w e. rw e;
      no_send = λ ws size w e. rw e;
    }

lines : QueueNames
unfolding sizes frames_from frames_of
lines =
    record {
      queues = λ f. (refl, refl, refl);
      capacities = λ s. (refl, refl, refl);
      sums = (refl, λ x xs. refl);
      frames = λ q. refl;
      frames_none = λ slots head. refl;
      frames_more = λ slots head n. refl;
      slot = λ w. refl;
      no_frame = refl;
      bounds = λ s. refl;
      hops_told = λ ttl. refl;
      none_below = λ stations. tt;
      more_below = λ stations x xs. (λ h. h, λ h. h);
      first = head_first;
      holding = λ q. (λ h. h, λ h. h);
      in_stage = λ f. (λ h. h, λ h. h);
      no_stage = λ f e. rw e;
      on_stage = λ f n. rw (lt-ltb 0 f.stage (omega arith));
      from_here = λ r origin e. rw (eq-eqb r.origin origin e);
      from_elsewhere = λ r origin n. rw (ne_eqb r.origin origin n);
      staged = λ way class size hops. refl;
    }

going : GoingNames
unfolding first_frame taken
going =
    record {
      space = space_left;
      full = space_full;
      first_slot = λ q. refl;
      without_first_lem = λ q. refl;
      leaves_queue = λ f l. refl;
      origins = (refl, refl, refl);
      charged = λ s f l w. refl;
      stage = λ f. refl;
      control = λ f q. refl;
      primary = λ f q. refl;
      secondary = λ f q. refl;
      as_a = λ mark. refl;
      as_b = λ class n. rw (ne_eqb class 0 n);
      as_excess = λ class mark n m. rw (ne_eqb class 0 n, ne_eqb mark 0 m);
    }

readings : ReadingNames
unfolding held_on
readings = record { queue = λ q. refl; no_stage = refl; stage = λ w n. rw (ne_eqb w 0 n); reading = λ st. refl; shown = shown_four_lem; blank = refl }

rates : RateNames
rates =
    record {
      smoothed = smoothed_is;
      shown = shown_is;
      steady_none = steady_none;
      steady_next = steady_next;
      gap = λ a b n. (λ h. omega arith, λ h. omega arith);
      aged = aged_is;
      ramped = ramped_is;
      reduced = reduced_is;
      allowance = allowance_is;
      own = own_is;
      share = share_is;
    }

anew : (st : Station) → PartNames st
anew st =
    record {
      flow = λ f. refl;
      fair = λ f. refl;
      credits = λ c. refl;
      stage = λ w. refl;
      counters = λ c. refl;
      heard = λ a. refl;
      done = refl;
      carried = λ next. (refl, refl, refl);
      refused = λ n. (number_told n, refl, refl);
      turned = λ n detail. (number_told n, refl, refl, refl);
      taken = λ r. (refl, refl, refl, refl);
      not_chosen = λ n. (number_told n, refl, refl, refl, refl);
      chosen = λ r. (refl, refl, refl, refl);
      not_told = λ n. (number_told n, refl, refl);
      told = λ a. (refl, refl);
      not_shown = λ n. (number_told n, refl, refl);
      shown = λ r. (refl, refl);
    }

brief : (r : Done) → (number_said (brief_of r) ≡ number_said r) × (detail_said (brief_of r) ≡ detail_said r)
brief (Ok st) = (refl, refl)
brief (Err e) = (refl, refl)

charge : (r : Charged) → (number_said (charge_brief_of r) ≡ number_said r) × (detail_said (charge_brief_of r) ≡ detail_said r)
charge (Ok s) = (refl, refl)
charge (Err e) = (refl, refl)

marked : (r : Result Client Refused) → (number_said (marked_of r) ≡ number_said r) × (detail_said (marked_of r) ≡ detail_said r) × (afterwards 0 (marked_of r) ≡ mark_told r)
marked (Ok r) = (refl, refl, refl)
marked (Err e) = (refl, refl, refl)

chosen : (r : Result Selected Refused) → (number_said (chosen_of r) ≡ number_said r) × (detail_said (chosen_of r) ≡ detail_said r)
    × (afterwards (record { origin = 0; frame = frame_of 0 }) (chosen_of r) ≡ record { origin = origin_said r; frame = frame_said r })
chosen (Ok r) = (refl, refl, refl)
chosen (Err e) = (refl, refl, refl)

refusals : RefusalNames
refusals =
    record {
      each = (refl, refl, refl, refl, refl, refl, refl, refl, refl, refl, refl, refl, refl);
      number = number_told;
      beside = λ n detail. refl;
      station = λ n detail. (refl, refl, refl, refl, refl);
    }

entries : EntryNames
entries =
    record {
      brief = brief;
      charge = charge;
      marked = marked;
      chosen = chosen;
      answered = λ st s r t. (refl, refl, refl, refl);
      passed = λ e. (refl, refl, refl, refl);
    }

histories : (st : Station) (w : Which) → HistoryNames st w
histories st w =
    record {
      no_call = (refl, refl);
      a_call = λ c cs. (refl, refl);
      tick = λ a b c. refl;
      client = λ class size hops. refl;
      transit = λ class size hops eligible. refl;
      control = λ size. refl;
      select = refl;
      age = refl;
      hear = λ frame bytes. refl;
      tell = refl;
      show = refl;
      of_done_lem = λ r. refl;
      of_client_lem = λ r. refl;
      of_selected_lem = λ r. refl;
    }

-- ---- the ring

left : (stations k : ℕ) → k + 1 < stations → next_of Left stations (k + 1) ≡ k
left stations k h =
    ap (λ (x : ℕ). x % stations) (let e : k + 1 + (stations - 1) ≡ k + stations = omega arith in e) ∙ add-mod_right k stations ∙ mod-eq_of_lt (omega arith)

left_last : (stations : ℕ) → 0 < stations → next_of Left stations 0 ≡ stations - 1
left_last stations h = ap (λ (x : ℕ). x % stations) (let e : 0 + (stations - 1) ≡ stations - 1 = omega arith in e) ∙ mod-eq_of_lt (omega arith)

sides : RingNames
unfolding bit_of
sides =
    record {
      codes = (refl, refl);
      home = (refl, refl);
      bits = (refl, refl);
      placed = λ stations own target links. (
        λ p. (p.ring, p.small, p.station, p.reached, p.differ, p.clear),
        λ h. record { ring = h.0; small = h.1; station = h.2; reached = h.3; differ = h.4; clear = h.5 },
      );
      left = left;
      left_last = left_last;
      no_hop = λ way stations at. refl;
      one_hop = λ way stations at n. refl;
      others = (refl, refl);
      tie_lower = tie_lower;
      tie_otherwise = tie_otherwise;
      no_link = λ way stations at. refl;
      one_link = λ way stations at n. refl;
      links_told_lem = λ stations own r. refl;
      byte_told = λ r k. refl;
      ends = λ delivered. refl;
      over = λ link rest. refl;
      chosen = λ code distance ttl mark. refl;
      moved = λ delivered hops. refl;
      refused = λ n. (refl, refl);
    }

numbers : ByteNames
unfolding le be digits put words_at
numbers =
    record {
      bytes = λ xs. (λ h. h, λ h. h);
      le_none = λ xs at. refl;
      le_more = λ n xs at. refl;
      be_none = λ xs at. refl;
      be_more = λ n xs at. refl;
      digits_none = λ v. refl;
      digits_more = λ n v. refl;
      words_none = λ xs at. refl;
      words_more = λ n xs at. refl;
      words_from_lem = λ xs k n. refl;
      held = λ q. refl;
      puts = λ xs at bs. refl;
      usual = λ weight unit ticks rate. refl;
    }

pub names : Names
names =
    record {
      refusals = refusals;
      shapers = shapers;
      lines = lines;
      going = going;
      readings = readings;
      rates = rates;
      anew = anew;
      entries = entries;
      histories = histories;
      sides = sides;
      numbers = numbers;
    }
