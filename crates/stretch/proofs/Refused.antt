-- What a stretch comes to: the earliest fault of the partly read blocks; else 3 exactly where an entry used is out of range; else a summary in range of all its events.
-- Assumes nothing.
use Prim.Native.Nat.{ℕ, suc, ◌+◌, ◌-◌, ◌*◌, ◌≤◌, ◌<◌, min, max}
use mathlib.Core.Bool.{true, false}
use mathlib.Core.List.{List, [], ◌∷◌, ◌++◌, append-nil}
use mathlib.Core.Logic.{◌⊎◌, inl, inr, ⊎_elim, ◌↔◌}
use mathlib.Core.Path.{◌≡◌, refl, sym, ap, ◌∙◌}
use native.Mathlib.Omega.{arith}
use borrow.Author.Tests.{eqb-true}
use lib.Dec.{eqb}
use lib.ListN.{drop}
use Rattle.decide.specs.Test.{both}
use Rattle.decide.proofs.Cases.{by_cases, true_or_false}
use Rattle.shaper.specs.Limits.{most_events}
use Rattle.summary.specs.declared.Summary.{Summary}
use Rattle.std.specs.Prelude.{Ok, Err}
use Rattle.decide.specs.declared.refusal.Refusal.{Refusal}
use Rattle.summary.specs.Summary.{joined, summary_of}
use Rattle.summary.specs.Range.{in_range}
use Rattle.summary.specs.Answer.{Answer, join_of}
use Rattle.summary.proofs.Promises.{joins_few, joined_range, joined_events, joined_limits}
use Rattle.record.specs.Read.{Events, faulty, events}
use Rattle.excerpt.specs.Excerpt.{read_part}
use Rattle.index.specs.Tree.{block_events, entry_length, top_level, size_of, from_of, to_of, stands_at}
use Rattle.index.specs.Entry.{summary_in, place_in}
use Rattle.index.proofs.Sizes.{size_next, size_block, size_top}
use Rattle.stretch.specs.declared.Found.{Found}
use Rattle.stretch.specs.declared.Found.TheVariants.{Nothing, Faulty, Outside, Sum}
use Rattle.stretch.specs.Found.{Source, joined_found, and_found, entry_ok, entry_found, part_summed, part_found, part_in, whole, apart, found_in}
use Rattle.stretch.specs.Used.{Node, used_in, read_in, used_of, read_of, Among, Used, node_ok, fault_or, first_fault}
use Rattle.stretch.proofs.Facts.{whole_facts, apart_not, not_apart, apart_facts}
use Rattle.stretch.proofs.Used.{used_exactly}
use Rattle.stretch.proofs.Rows.{by_halves, found_apart, found_whole, found_part, found_both, used_apart, used_whole, used_part, used_both, used_left, used_right, used_either, read_apart, read_whole, read_part_lem, read_both}

-- ---- faults

-- a join is no fault
joined_or : (x : Answer) (h : Found) → fault_or (joined_found x) h ≡ h
joined_or (Ok s) h = refl
joined_or (Err r) h = refl

-- of two parts the first one's fault goes before the second's, and a fault before an entry out of range
and_or : (f g h : Found) → fault_or (and_found f g) h ≡ fault_or f (fault_or g h)
unfolding and_found
and_or Nothing g h = refl
and_or (Faulty n) g h = refl
and_or Outside Nothing h = refl
and_or Outside (Faulty n) h = refl
and_or Outside Outside h = refl
and_or Outside (Sum b) h = refl
and_or (Sum a) Nothing h = refl
and_or (Sum a) (Faulty n) h = refl
and_or (Sum a) Outside h = refl
and_or (Sum a) (Sum b) h = joined_or (join_of a b) h

or_or : (f g h : Found) → fault_or (fault_or f g) h ≡ fault_or f (fault_or g h)
or_or Nothing g h = refl
or_or (Faulty n) g h = refl
or_or Outside g h = refl
or_or (Sum a) g h = refl

fault_said : (f : Found) (m : Refusal) → (fault_or f Nothing ≡ Faulty m) ↔ (f ≡ Faulty m)
fault_said Nothing m = (λ e. e, λ e. e)
fault_said (Faulty n) m = (λ e. e, λ e. e)
fault_said Outside m = (λ e. cc, λ e. cc)
fault_said (Sum s) m = (λ e. cc, λ e. cc)

-- an entry is its summary or is out of range
entry_in : (q : Source) (k x : ℕ) → node_ok q (record { level = k; block = x }) ≡ true →
    entry_found q (stands_at q.events k x) (to_of q.events k x - from_of x) ≡ Sum (summary_in q.limits q.index (entry_length * stands_at q.events k x))
unfolding entry_found
entry_in q k x o = rw o

entry_out : (q : Source) (k x : ℕ) → node_ok q (record { level = k; block = x }) ≡ false → entry_found q (stands_at q.events k x) (to_of q.events k x - from_of x) ≡ Outside
unfolding entry_found
entry_out q k x o = rw o

module _ (q : Source) (first last : ℕ) where
  faults_append : (bs cs : List ℕ) → first_fault q first last (bs ++ cs) ≡ fault_or (first_fault q first last bs) (first_fault q first last cs)
  unfolding first_fault
  faults_append [] cs = refl
  faults_append (b ∷ bs) cs =
      ap (fault_or (part_in q first last b)) (faults_append bs cs)
      ∙ sym (or_or (part_in q first last b) (first_fault q first last bs) (first_fault q first last cs))

  no_fault : (bs : List ℕ) → ((b : ℕ) → Among b bs → (s : Summary) × (part_in q first last b ≡ Sum s)) → first_fault q first last bs ≡ Nothing
  unfolding first_fault
  no_fault [] r = refl
  no_fault (b ∷ bs) r = rw (r b (inl refl)).1 (no_fault bs (λ c m. r c (inr m)))

  first_fault_lem : (k x : ℕ) → fault_or (found_in q first last k x) Nothing ≡ first_fault q first last (read_in q.events first last k x)
  unfolding first_fault
  first_fault_lem =
      by_halves q.events first last (λ k x. fault_or (found_in q first last k x) Nothing ≡ first_fault q first last (read_in q.events first last k x))
      (λ k x a. rw (found_apart q first last k x a, read_apart q.events first last k x a))
      (λ k x a w.
      rw (found_whole q first last k x a w, read_whole q.events first last k x a w)
      (by_cases (true_or_false (node_ok q (record { level = k; block = x }))) (λ o. rw (entry_in q k x o)) (λ o. rw (entry_out q k x o))))
      (λ x a w. rw (found_part q first last x a w, read_part_lem q.events first last x a w))
      (λ k x a w f g.
      rw (found_both q first last k x a w, read_both q.events first last k x a w)
      (and_or (found_in q first last k x) (found_in q first last k (x + size_of k)) Nothing
      ∙ ap (fault_or (found_in q first last k x)) g
      ∙ sym (or_or (found_in q first last k x) Nothing (first_fault q first last (read_in q.events first last k (x + size_of k))))
      ∙ ap (λ h. fault_or h (first_fault q first last (read_in q.events first last k (x + size_of k)))) f
      ∙ sym (faults_append (read_in q.events first last k x) (read_in q.events first last k (x + size_of k)))))

  -- A stretch is refused with a fault exactly where a partly read block has one, with the first one's: also before an entry that is out of range.
  pub fault_first : (k x : ℕ) (m : Refusal) → (found_in q first last k x ≡ Faulty m) ↔ (first_fault q first last (read_in q.events first last k x) ≡ Faulty m)
  fault_first k x m = (
    λ e. sym (first_fault_lem k x) ∙ (fault_said (found_in q first last k x) m).1 e,
    λ e. (fault_said (found_in q first last k x) m).0 (first_fault_lem k x ∙ e),
  )

-- ---- what is no fault

-- a summary of so many events, in range under the record's settings
abbrev pub Kept : Source → ℕ → Summary → Type 0
Kept q count s = (s.limits ≡ q.limits) × (in_range s ≡ true) × (s.events ≡ count)

-- an entry among those used is out of range
abbrev pub SomeOut : Source → List Node → Type 0
SomeOut q ds = (d : Node) × Among d ds × (node_ok q d ≡ false)

-- what is found where so many events and these entries are asked for: if it is out of range, an entry is; if it is a summary, it is kept and no entry is out of range
abbrev pub Told : Source → ℕ → List Node → Found → Type 0
Told q count ds Nothing = ⊥
Told q count ds (Faulty n) = Unit {0}
Told q count ds Outside = SomeOut q ds
Told q count ds (Sum s) = Kept q count s × ((d : Node) → Among d ds → node_ok q d ≡ true)

-- a partly read block is its fault or a summary
part_told : (q : Source) (x skipped count : ℕ) → ((s : Summary) → part_found q x skipped count ≡ Sum s → Kept q (count - skipped) s) → Told q (count - skipped) [] (part_found q x skipped count)
unfolding part_found
part_told q x skipped count f = of_events (read_part q.limits.mtu count q.bytes (place_in q.index (80 * x))) f
  where
    of_events : (v : Events) → ((s : Summary) → part_summed q.limits skipped v ≡ Sum s → Kept q (count - skipped) s) → Told q (count - skipped) [] (part_summed q.limits skipped v)
    of_events (faulty n) g = tt
    of_events (events es) g = (g (summary_of q.limits (drop skipped es)) refl, λ d m. absurd m)

-- two summaries of few enough events are joined
kept_joined : (q : Source) (m n : ℕ) (a b : Summary) → m + n ≤ most_events → Kept q m a → Kept q n b → (join_of a b ≡ Ok (joined a b)) × Kept q (m + n) (joined a b)
kept_joined q m n a b h u v =
    let e : a.limits ≡ b.limits = u.0 ∙ sym v.0 in
    let f : a.events + b.events ≤ most_events = omega arith in (
      joins_few a b u.1 v.1 e f,
      (joined_limits a b u.1 v.1 e ∙ u.0, joined_range a b u.1 v.1 e f, omega (arith, joined_events a b u.1 v.1 e)),
    )

-- two parts, one behind the other
module _ (q : Source) (m n : ℕ) (ds es all : List Node) (few : m + n ≤ most_events)
    (left : (d : Node) → Among d ds → Among d all) (right : (d : Node) → Among d es → Among d all) (either : (d : Node) → Among d all → Among d ds ⊎ Among d es) where
  told_both : (f g : Found) → Told q m ds f → Told q n es g → Told q (m + n) all (and_found f g)
  unfolding and_found
  told_both Nothing g t u = absurd t
  told_both (Faulty i) g t u = tt
  told_both Outside Nothing t u = absurd u
  told_both Outside (Faulty i) t u = tt
  told_both Outside Outside t u = (t.0, left t.0 t.1, t.2)
  told_both Outside (Sum b) t u = (t.0, left t.0 t.1, t.2)
  told_both (Sum a) Nothing t u = absurd u
  told_both (Sum a) (Faulty i) t u = tt
  told_both (Sum a) Outside t u = (u.0, right u.0 u.1, u.2)
  told_both (Sum a) (Sum b) t u =
      let k = kept_joined q m n a b few t.0 u.0 in
      rw k.0 (k.1, λ d i. ⊎_elim (t.1 d) (u.1 d) (either d i))

-- an entry out of range and no fault
told_out : (q : Source) (count : ℕ) (ds : List Node) (f : Found) → Told q count ds f → fault_or f Nothing ≡ Nothing → SomeOut q ds → f ≡ Outside
told_out q count ds Nothing t e o = absurd t
told_out q count ds (Faulty n) t e o = cc
told_out q count ds Outside t e o = refl
told_out q count ds (Sum s) t e o = cc (t.1 o.0 o.1, o.2)

-- beside a part apart from the stretch the other is all
and_none : (f : Found) → and_found f Nothing ≡ f
unfolding and_found
and_none Nothing = refl
and_none (Faulty n) = refl
and_none Outside = refl
and_none (Sum a) = refl

none_and : (g : Found) → and_found Nothing g ≡ g
unfolding and_found
none_and g = refl

-- ---- how many events of the stretch lie in a node

abbrev pub covered_in : ℕ → ℕ → ℕ → ℕ → ℕ → ℕ
covered_in n first last k x = min last (to_of n k x) - max first (from_of x)

module _ (n first last : ℕ) (some : first < last) (within : last ≤ n) (k x : ℕ) (meets : apart n first last (suc k) x ≡ false) where
  -- the second half ends where the node does
  same_end : to_of n (suc k) x ≡ to_of n k (x + size_of k)
  same_end = let z : x + size_of (suc k) ≡ x + size_of k + size_of k = omega (arith, size_next k) in ap (λ (y : ℕ). min (block_events * y) n) z

  covered_right : apart n first last k x ≡ true → covered_in n first last (suc k) x ≡ covered_in n first last k (x + size_of k)
  covered_right a =
      let f = not_apart n first last (suc k) x meets in
      by_cases (apart_facts n first last k x a) (λ h. absurd (omega arith))
      (λ h. let z : max first (from_of x) ≡ max first (from_of (x + size_of k)) = omega arith in cc (same_end, z))

  second_meets : apart n first last k x ≡ true → apart n first last k (x + size_of k) ≡ false
  second_meets a =
      let f = not_apart n first last (suc k) x meets in
      let e = same_end in
      by_cases (apart_facts n first last k x a) (λ h. absurd (omega arith)) (λ h. apart_not n first last k (x + size_of k) (omega arith) (omega arith))

  covered_left : apart n first last k (x + size_of k) ≡ true → covered_in n first last (suc k) x ≡ covered_in n first last k x
  covered_left b =
      let f = not_apart n first last (suc k) x meets in
      let e = same_end in
      by_cases (apart_facts n first last k (x + size_of k) b)
      (λ h. let z : min last (to_of n (suc k) x) ≡ min last (to_of n k x) = omega (arith, size_next k) in cc)
      (λ h. absurd (omega arith))

  covered_both : apart n first last k x ≡ false → apart n first last k (x + size_of k) ≡ false →
      covered_in n first last (suc k) x ≡ covered_in n first last k x + covered_in n first last k (x + size_of k)
  covered_both a b =
      let f = not_apart n first last k x a in
      let g = not_apart n first last k (x + size_of k) b in
      let e : min last (to_of n k x) ≡ from_of (x + size_of k) = omega arith in
      let m : max first (from_of (x + size_of k)) ≡ from_of (x + size_of k) = omega arith in
      rw (same_end, e, m) (parted (max first (from_of x)) (from_of (x + size_of k)) (min last (to_of n k (x + size_of k))) (omega arith) (omega arith))
    where
      parted : (a b c : ℕ) → a ≤ b → b ≤ c → c - a ≡ b - a + (c - b)
      parted a b c h i = omega arith

-- ---- the stretch

entry_facts : (covers : ℕ) (s : Summary) → entry_ok covers s ≡ true → (s.events ≡ covers) × (in_range s ≡ true)
entry_facts covers s o = let b = both (eqb s.events covers) (in_range s) o in (eqb-true s.events covers b.0, b.1)

summary_settings : (q : Source) (at : ℕ) → (summary_in q.limits q.index at).limits ≡ q.limits
unfolding summary_in
summary_settings q at = refl

abbrev ToldIn : Source → ℕ → ℕ → ℕ → ℕ → Type 0
ToldIn q first last k x = Told q (covered_in q.events first last k x) (used_in q.events first last k x) (found_in q first last k x)

-- A partly read block gives so many events in range, or a fault.
module _ (q : Source) (part-kept : (x skipped count : ℕ) → skipped < count → count ≤ block_events → (s : Summary) → part_found q x skipped count ≡ Sum s → Kept q (count - skipped) s)
    (first last : ℕ) (some : first < last) (within : last ≤ q.events) (most : q.events ≤ most_events) where
  -- the node alone, whose entry is used
  told_entry : (k x : ℕ) → apart q.events first last k x ≡ false → whole q.events first last k x ≡ true →
      Told q (covered_in q.events first last k x) (record { level = k; block = x } ∷ []) (entry_found q (stands_at q.events k x) (to_of q.events k x - from_of x))
  told_entry k x a w =
      let f = not_apart q.events first last k x a in
      let g = whole_facts q.events first last k x w in
      by_cases (true_or_false (node_ok q (record { level = k; block = x })))
      (λ o.
      let b = entry_facts (to_of q.events k x - from_of x) (summary_in q.limits q.index (entry_length * stands_at q.events k x)) o in
      rw (entry_in q k x o)
      ((summary_settings q (entry_length * stands_at q.events k x), b.1, omega arith), λ d m. ⊎_elim (λ t. rw t o) (λ t. absurd t) m))
      (λ o. rw (entry_out q k x o) (record { level = k; block = x }, inl refl, o))

  told_part : (x : ℕ) → apart q.events first last 0 x ≡ false → Told q (covered_in q.events first last 0 x) [] (part_in q first last x)
  told_part x a =
      let f = not_apart q.events first last 0 x a in
      let s = size_block in
      rw (← from_there (from_of x) (min last (to_of q.events 0 x)) (max first (from_of x)) (omega arith) (omega arith))
      (part_told q x (max first (from_of x) - from_of x) (min last (to_of q.events 0 x) - from_of x)
      (part-kept x (max first (from_of x) - from_of x) (min last (to_of q.events 0 x) - from_of x) (omega arith) (omega arith)))
    where
      from_there : (a b c : ℕ) → a ≤ b → a ≤ c → b - a - (c - a) ≡ b - c
      from_there a b c h i = omega arith

  -- both halves: one of them lies apart, or they are put together
  told_halves : (k x : ℕ) → apart q.events first last (suc k) x ≡ false → whole q.events first last (suc k) x ≡ false →
      (apart q.events first last k x ≡ false → ToldIn q first last k x) → (apart q.events first last k (x + size_of k) ≡ false → ToldIn q first last k (x + size_of k)) →
      ToldIn q first last (suc k) x
  told_halves k x a w f g =
      by_cases (true_or_false (apart q.events first last k x))
      (λ l.
      rw (found_both q first last k x a w, found_apart q first last k x l, none_and, used_both q.events first last k x a w, used_apart q.events first last k x l, covered_right q.events first last some within k x a l)
      (g (second_meets q.events first last some within k x a l)))
      (λ l.
      by_cases (true_or_false (apart q.events first last k (x + size_of k)))
      (λ r.
      rw (found_both q first last k x a w, found_apart q first last k (x + size_of k) r, and_none, used_both q.events first last k x a w, used_apart q.events first last k (x + size_of k) r, append-nil, covered_left q.events first last some within k x a r)
      (f l))
      (λ r.
      let h : covered_in q.events first last (suc k) x ≤ most_events = omega arith in
      let c = covered_both q.events first last some within k x a l r in
      rw (found_both q first last k x a w, c)
      (told_both q (covered_in q.events first last k x) (covered_in q.events first last k (x + size_of k)) (used_in q.events first last k x) (used_in q.events first last k (x + size_of k)) (used_in q.events first last (suc k) x)
      (rw c at h)
      (used_left q.events first last k x a w) (used_right q.events first last k x a w) (used_either q.events first last k x a w)
      (found_in q first last k x) (found_in q first last k (x + size_of k)) (f l) (g r))))

  told : (k x : ℕ) → apart q.events first last k x ≡ false → ToldIn q first last k x
  told =
      by_halves q.events first last (λ k x. apart q.events first last k x ≡ false → ToldIn q first last k x)
      (λ k x a b. absurd (mathlib.Core.Bool.true≢false (rw a at b)))
      (λ k x a w b. rw (found_whole q first last k x a w, used_whole q.events first last k x a w) (told_entry k x a w))
      (λ x a w b. rw (found_part q first last x a w, used_part q.events first last x a w) (told_part x a))
      (λ k x a w f g b. told_halves k x a w f g)

  -- A summary found is in range, under the record's settings, and of all the events asked for.
  pub found_kept : (k x : ℕ) (s : Summary) → found_in q first last k x ≡ Sum s → Kept q (covered_in q.events first last k x) s
  found_kept k x s e =
      by_cases (true_or_false (apart q.events first last k x))
      (λ a. let n = found_apart q first last k x a in let z : ◌≡◌ {A = ℕ} 0 1 = cc in absurd (omega arith))
      (λ a. let t = rw e at (told k x a) in t.0)

  -- Found is out of range exactly where no partly read block has a fault and an entry used is out of range.
  pub refused_exactly : (k x : ℕ) → apart q.events first last k x ≡ false →
      (found_in q first last k x ≡ Outside)
      ↔ ((first_fault q first last (read_in q.events first last k x) ≡ Nothing) × SomeOut q (used_in q.events first last k x))
  refused_exactly k x a = (
    λ e. (sym (first_fault_lem q first last k x) ∙ ap (λ f. fault_or f Nothing) e, rw e at (told k x a)),
    λ o. told_out q _ _ (found_in q first last k x) (told k x a) (first_fault_lem q first last k x ∙ o.0) o.1,
  )

  -- some of the stretch's events are among the record's
  top_meets : apart q.events first last top_level 0 ≡ false
  top_meets = let t = size_top in apart_not q.events first last top_level 0 (omega arith) (omega arith)

  -- An entry used that is out of range is 3, unless a partly read block has a fault.
  pub used_refused : ((b : ℕ) → Among b (read_of q.events first last) → (s : Summary) × (part_in q first last b ≡ Sum s)) →
      (found_in q first last top_level 0 ≡ Outside) ↔ SomeOut q (used_of q.events first last)
  used_refused r =
      let x = refused_exactly top_level 0 top_meets in
      (λ e. (x.0 e).1, λ o. x.1 (no_fault q first last (read_of q.events first last) r, o))

  -- The one above a node used doesn't lie whole in the stretch, while it does: in these words an entry out of range is 3.
  pub whole_refused : ((b : ℕ) → Among b (read_of q.events first last) → (s : Summary) × (part_in q first last b ≡ Sum s)) →
      (found_in q first last top_level 0 ≡ Outside) ↔ ((d : Node) × Used q.events first last d × (node_ok q d ≡ false))
  whole_refused r =
      let e = used_exactly q.events first last within most in
      let u = used_refused r in
      (λ f. let o = u.0 f in (o.0, (e o.0).0 o.1, o.2), λ o. u.1 (o.0, (e o.0).1 o.1, o.2))

  -- a stretch of some events comes to something
  pub found_some : found_in q first last top_level 0 ≡ Nothing → ⊥
  found_some e = rw e at (told top_level 0 top_meets)
