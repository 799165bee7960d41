-- The definitions say what stands there, by what they are.
-- Assumes nothing.
use Prim.Native.Nat.{ℕ}
use mathlib.Core.Bool.{true}
use mathlib.Core.List.{List, ◌++◌}
use mathlib.Core.Path.{◌≡◌, refl}
use Rattle.shaper.specs.declared.Limits.{Limits}
use Rattle.shaper.specs.declared.Event.{Event}
use Rattle.record.specs.Items.{Item, written_items, unrolled, ItemsOk}
use Rattle.account.specs.Pieces.{Tree, piece, both, Cuts}
use Rattle.wire.specs.Signed.{unsigned_of}
use Rattle.summary.proofs.Integers.{pos_less}
use Rattle.sheet.specs.Sheet.{sheet_of}
use Rattle.rpr.proofs.Steady.{one_more, no_more}
use Rattle.paper.specs.LentNames.{CallNames, MemoryNames, RateWords, MethodNames, PieceNames, SheetNames, SightNames, LentNames}

call : (xs : List ℕ) → CallNames xs
call xs =
    record {
      start = λ settings bytes. (refl, refl);
      tick = λ a b c. (refl, refl);
      client = λ class size hops. (refl, refl);
      transit = λ class size hops eligible. (refl, refl);
      control = λ size. (refl, refl);
      select = (refl, refl);
      age = (refl, refl);
      read_frame_lem = λ frame bytes. (refl, refl);
      write_frame_lem = λ room. (refl, refl);
      show = λ room. (refl, refl);
    }

memory : (mem : List ℕ) → MemoryNames mem
memory mem =
    record {
      lends = λ l. refl;
      after = λ l. refl;
      no_call = refl;
      a_call = λ l ls. refl;
      new_start = λ c xs. (λ h. h, λ h. h);
      none_new = tt;
      not_new = λ l ls. (λ h. h, λ h. h);
      started = λ settings. refl;
      station = refl;
      no_event = λ w. refl;
      told = λ w l ls. refl;
      ends = λ l. (λ h. h, λ h. h);
      no_interval = refl;
      one_more = λ l ls. one_more l mem ls;
      no_more = λ l ls. no_more l mem ls;
      word = λ room k. refl;
      none_steady = λ room k rate. tt;
      steady = λ room k rate l ls. (λ h. h, λ h. h);
      gives = λ room k rate. (λ h. h, λ h. h);
    }

rates : RateWords
rates = record { counters = (refl, refl, refl, refl); smoothed = (refl, refl, refl, refl) }

method_names : (mem : List ℕ) → MethodNames mem
method_names mem =
    record {
      words = (refl, refl);
      row = refl;
      three = λ f. refl;
      changes = (tt, tt, tt, tt);
      no_change = (λ h. h, λ h. h);
      steps = (tt, tt);
      no_step = (λ h. h, λ h. h, λ h. h, λ h. h);
      altered = λ room l. (λ h. h, λ h. h);
      within = λ room l. (λ h. h, λ h. h);
      rate = λ room s. (λ h. h, λ h. h);
      free = λ room s. (λ h. h, λ h. h);
    }

-- a cut, by the tree that it is along
module _ (l : Limits) where
  cut_piece : {es : List Event} {bytes : List ℕ} → Cuts l es (piece bytes)
      → (is : List Item) × ItemsOk true l is × (bytes ≡ written_items l is) × (es ≡ unrolled is)
  cut_piece (Cuts.whole is bytes ok e) = (is, ok, e, refl)

  cut_both : {es : List Event} {t u : Tree} → Cuts l es (both t u)
      → (first : List Event) × ((second : List Event) × Cuts l first t × Cuts l second u × (es ≡ first ++ second))
  cut_both (Cuts.parted first second t u a b) = (first, (second, a, b, refl))

pieces : PieceNames
pieces =
    record {
      piece_joined = λ bytes. refl;
      both_joined = λ t u. refl;
      piece_room = λ bytes room. refl;
      both_room = λ t u room. refl;
      piece_carried = λ bytes room. (λ h. h, λ h. h);
      both_carried = λ t u room. (λ h. h, λ h. h);
      cut = λ l es t. (λ h. h, λ h. h);
      piece_cut = λ l es bytes. (cut_piece l, λ h. rw h.3 (Cuts.whole h.0 bytes h.1 h.2));
      both_cut = λ l es t u. (cut_both l, λ h. rw h.1.3 (Cuts.parted h.0 h.1.0 t u h.1.1 h.1.2));
      piece_tree = λ bytes room. refl;
      both_tree = λ t u room. refl;
      piece_whole = λ bytes room. (λ h. h, λ h. h);
      both_whole = λ t u room. (λ h. h, λ h. h);
    }

sheets : SheetNames
unfolding sheet_of unsigned_of
sheets = record { sheet = λ s. refl; not_negative = λ n. refl; negative = λ m. refl; signed = λ p. rw (pos_less p.limits.hi p.depth); summed = λ room s. (refl, refl); refused = λ room n. (refl, refl) }

sights : SightNames
sights = record { picked = λ st. refl; seen_as = λ s v f. refl; seen_in_lem = λ v. refl; front = λ f. refl }

pub lent_names : LentNames
lent_names = record { call = call; memory = memory; rates = rates; methods = method_names; pieces = pieces; sheets = sheets; sights = sights }
