-- The list of what differs, cut at a position, and how it grows at its end: by a pair of events, or by one event more than the other record has.
-- Assumes nothing.
use Prim.Native.Nat.{ℕ, zero, suc, ◌+◌, ◌≤◌}
use mathlib.Core.Bool.{Bool, true, false}
use mathlib.Core.List.{List, [], ◌∷◌, ◌++◌}
use mathlib.Core.Path.{◌≡◌, refl, ◌∙◌}
use native.Mathlib.Nat.{add-zero, add-suc, suc-add}
use lib.ListN.{length, take, drop, drop_of_length-le}
use lib.Seq.{take-nil, drop-nil, take_all, take_at, drop_at, take-append_seam, drop-append_seam}
use Rattle.shaper.specs.declared.Event.{Event}
use Rattle.apart.specs.Told.{Told, both, first_only, second_only, differ, listed_if, list_from}

-- more lines behind go on behind a line, listed or not
listed_append : (b : Bool) (t : Told) (ts us : List Told) → listed_if b t (ts ++ us) ≡ listed_if b t ts ++ us
listed_append true t ts us = refl
listed_append false t ts us = refl

-- the list of two records is that of the first k events of each, then that of the rest of each
pub list_cut : (k n : ℕ) (es fs : List Event) → list_from n es fs ≡ list_from n (take k es) (take k fs) ++ list_from (n + k) (drop k es) (drop k fs)
unfolding list_from
list_cut zero n es fs = rw add-zero
list_cut (suc k) n [] [] = refl
list_cut (suc k) n (e ∷ es) [] = rw (list_cut k (suc n) es [], add-suc, suc-add, take-nil, drop-nil)
list_cut (suc k) n [] (f ∷ fs) = rw (list_cut k (suc n) [] fs, add-suc, suc-add, take-nil, drop-nil)
list_cut (suc k) n (e ∷ es) (f ∷ fs) = rw (list_cut k (suc n) es fs, add-suc, suc-add, listed_append)

-- One event more of each, where they are equally long: both events where they differ. This law and the next two cut before what was added.
pub list_pair : (n : ℕ) (es fs : List Event) (e f : Event) → length es ≡ length fs →
    list_from n (es ++ (e ∷ [])) (fs ++ (f ∷ [])) ≡ list_from n es fs ++ listed_if (differ e f) (both (n + length es) e f) []
unfolding list_from
list_pair n es fs e f h =
    list_cut (length fs) n (es ++ (e ∷ [])) (fs ++ (f ∷ [])) ∙ rw (h, take-append_seam fs, drop-append_seam fs, take_at es, drop_at es)

-- one event more of the first record, where it is at least as long,
pub list_first : (n : ℕ) (es fs : List Event) (e : Event) → length fs ≤ length es →
    list_from n (es ++ (e ∷ [])) fs ≡ list_from n es fs ++ (first_only (n + length es) e ∷ [])
unfolding list_from
list_first n es fs e h =
    list_cut (length es) n (es ++ (e ∷ [])) fs ∙ rw (take-append_seam, drop-append_seam, take_all (length es) fs, drop_of_length-le fs h)

-- or of the second
pub list_second : (n : ℕ) (es fs : List Event) (f : Event) → length es ≤ length fs →
    list_from n es (fs ++ (f ∷ [])) ≡ list_from n es fs ++ (second_only (n + length fs) f ∷ [])
unfolding list_from
list_second n es fs f h =
    list_cut (length fs) n es (fs ++ (f ∷ [])) ∙ rw (take-append_seam, drop-append_seam, take_all (length fs) es, drop_of_length-le es h)
