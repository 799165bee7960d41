-- Bytes fed where a header or an item begins: they are held, and the last one makes it whole. What was in their place before changes nothing.
-- Assumes nothing.
use Prim.Native.Nat.{ℕ, ◌+◌, ◌-◌, ◌≤◌, ◌<◌}
use mathlib.Core.List.{List, [], ◌∷◌, ◌++◌, append_assoc, append-nil}
use mathlib.Core.Path.{◌≡◌, refl, sym, ap, ◌∙◌}
use native.Mathlib.Omega.{arith}
use lib.ListN.{length, take, drop, set, length-append, length-drop}
use lib.Seq.{set-append_seam, append_snoc, take_at}
use Rattle.decide.specs.Number.{refusal_of}
use Rattle.decide.proofs.Cases.{by_cases, le_or}
use Rattle.shaper.specs.Limits.{most_events}
use Rattle.summary.specs.declared.Summary.{Summary}
use Rattle.record.specs.Step.{header_of_of, step_within}
use Rattle.feed.specs.declared.Stage.{Stage}
use Rattle.feed.specs.declared.Stage.TheVariants.{Heading, Summing}
use Rattle.feed.specs.declared.Feed.{Feed}
use Rattle.feed.specs.Feed.{opened_by, passed_by, item_size, next_stage, none_held, held_byte, fed_byte, fed_of}
use Rattle.feed.proofs.Rows.{size_bounds, size_front, hold_more, hold_whole, byte_heading, byte_item}
use Rattle.feed.proofs.Fronts.{header_front}

-- the bytes u held, and d in the places behind them
abbrev pub holding : Stage → List ℕ → List ℕ → Feed
holding g u d = record { stage = g; pending = u ++ d; held = length u }

-- where a header or an item begins
abbrev pub beginning : Stage → List ℕ → Feed
beginning g p = record { stage = g; pending = p; held = 0 }

-- bytes end with one
record Ends (w : List ℕ) : Type 0 where
  front : List ℕ
  last : ℕ
  same : w ≡ front ++ (last ∷ [])

ends : (w : List ℕ) → 0 < length w → Ends w
ends [] h = absurd (omega arith)
ends (x ∷ []) h = record { front = []; last = x; same = refl }
ends (x ∷ y ∷ w) h = let e = ends (y ∷ w) (omega arith) in record { front = x ∷ e.front; last = e.last; same = ap (λ q. x ∷ q) e.same }

-- the last of them takes the next place
last_set : (q d : List ℕ) (b : ℕ) → 0 < length d → set (q ++ d) (length q) b ≡ (q ++ (b ∷ [])) ++ drop 1 d
last_set q [] b h = absurd (omega arith)
last_set q (x ∷ d) b h = set-append_seam q x d b ∙ sym (append_snoc q b d)

-- ---- a stage in which so many bytes make a whole

-- their first four say how many
record Sized (g : Stage) : Type 0 where
  size : List ℕ → ℕ
  least : (xs : List ℕ) → 6 ≤ size xs
  most : (xs : List ℕ) → size xs ≤ 14
  said : (q ys : List ℕ) → 4 ≤ length q → size (q ++ ys) ≡ size q
  goes : (f : Feed) (b : ℕ) → f.stage ≡ g → fed_byte f b ≡ held_byte (size f.pending) f b

module _ (g : Stage) (m : Sized g) where
  abbrev size : List ℕ → ℕ
  size xs = m.size xs

  -- a byte more is held
  one_held : (u q d : List ℕ) (b x : ℕ) → length (u ++ (b ∷ q)) < size (u ++ (b ∷ q)) → fed_byte (holding g u (x ∷ d)) b ≡ holding g (u ++ (b ∷ [])) d
  one_held u q d b x h =
      let n = length-append u (b ∷ q) in
      let one = length-append u (b ∷ []) in
      let more : length u + 1 < size (u ++ (x ∷ d)) =
      by_cases (le_or 4 (length u))
      (λ k. omega (arith, m.said u (x ∷ d) k, m.said u (b ∷ q) k))
      (λ k. omega (arith, m.least (u ++ (x ∷ d)))) in
      m.goes (holding g u (x ∷ d)) b refl
      ∙ hold_more (size (u ++ (x ∷ d))) (holding g u (x ∷ d)) b more
      ∙ rw (set-append_seam u x d b, append_snoc u b d, one)

  -- so are all that make no whole
  all_held : (q u d r : List ℕ) → length q ≤ length d → length (u ++ q) < size (u ++ q) → fed_of (holding g u d) (q ++ r) ≡ fed_of (holding g (u ++ q) (drop (length q) d)) r
  unfolding fed_of
  all_held [] u d r k h = rw append-nil
  all_held (b ∷ q) u [] r k h = absurd (omega arith)
  all_held (b ∷ q) u (x ∷ d) r k h =
      ap (λ f. fed_of f (q ++ r)) (one_held u q d b x h)
      ∙ all_held q (u ++ (b ∷ [])) d r (omega arith) (rw append_assoc h)
      ∙ ap (λ z. fed_of (holding g z (drop (length q) d)) r) (append_assoc u (b ∷ []) q)

  -- at the end they are what is held
  part_held : (w p : List ℕ) → length w < size w → length p ≡ 14 → fed_of (beginning g p) w ≡ holding g w (drop (length w) p)
  unfolding fed_of
  part_held w p n full = ap (fed_of (beginning g p)) (sym (append-nil w)) ∙ all_held w [] p [] (omega (arith, m.most w)) n

  module _ (p r : List ℕ) (full : length p ≡ 14) (after : Stage) where
    last_held : (q : List ℕ) (b : ℕ) → length q + 1 ≡ size (q ++ (b ∷ [])) → ((ys : List ℕ) → next_stage g ((q ++ (b ∷ [])) ++ ys) ≡ after) →
        fed_of (beginning g p) ((q ++ (b ∷ [])) ++ r) ≡ fed_of (beginning after none_held) r
    unfolding fed_of
    last_held q b n t =
        let d = drop (length q) p in
        let some = m.least (q ++ (b ∷ [])) in
        let few = m.most (q ++ (b ∷ [])) in
        let alike = m.said q (b ∷ []) (omega arith) in
        let known = m.said q d (omega arith) in
        let left : 0 < length (drop (length q) p) = simp length-drop (omega arith) in
        ap (fed_of (beginning g p)) (append_assoc q (b ∷ []) r)
        ∙ all_held q [] p (b ∷ r) (omega arith) (omega arith)
        ∙ ap (λ f. fed_of f r)
        (m.goes (holding g q d) b refl
        ∙ hold_whole (size (q ++ d)) (holding g q d) b (omega arith)
        ∙ ap (λ z. beginning (next_stage g z) none_held) (last_set q d b left)
        ∙ ap (λ z. beginning z none_held) (t (drop 1 d)))

    -- The last one makes the whole, and the stage behind it is that of these bytes.
    whole_held : (w : List ℕ) → length w ≡ size w → ((ys : List ℕ) → next_stage g (w ++ ys) ≡ after) → fed_of (beginning g p) (w ++ r) ≡ fed_of (beginning after none_held) r
    whole_held w n t = by (ends w (omega (arith, m.least w)))
      where
        by : Ends w → fed_of (beginning g p) (w ++ r) ≡ fed_of (beginning after none_held) r
        by e =
            let long = length-append e.front (e.last ∷ []) in
            rw e.same (last_held e.front e.last (sym long ∙ (rw e.same at n)) (λ ys. rw e.same at (t ys)))

-- ---- a header

header_sized : Sized Heading
header_sized =
    record { size = λ xs. 14; least = λ xs. omega arith; most = λ xs. omega arith; said = λ q ys h. refl; goes = λ f b e. byte_heading f b e }

pub header_held : (w p r : List ℕ) → length w ≡ 14 → length p ≡ 14 → fed_of (beginning Heading p) (w ++ r) ≡ fed_of (beginning (opened_by (header_of_of w)) none_held) r
unfolding header_sized
header_held w p r n full = whole_held Heading header_sized p r full (opened_by (header_of_of w)) w n (λ ys. ap opened_by (header_front w ys (omega arith)))

pub header_cut : (w p : List ℕ) → length w < 14 → length p ≡ 14 → fed_of (beginning Heading p) w ≡ holding Heading w (drop (length w) p)
unfolding header_sized
header_cut w p n full = part_held Heading header_sized w p n full

-- ---- an item, where one more event may come

module _ (s : Summary) (room : s.events < most_events) where
  item_sized : Sized (Summing s)
  item_sized =
      record {
        size = item_size;
        least = λ xs. (size_bounds xs).0;
        most = λ xs. omega (arith, (size_bounds xs).1);
        said = size_front;
        goes = λ f b e. byte_item f b s e room;
      }

  abbrev behind : List ℕ → Stage
  behind w = passed_by s (step_within (refusal_of 9) (most_events - s.events) s.limits.mtu w 0)

  pub item_held : (w p r : List ℕ) → length w ≡ item_size w → length p ≡ 14 → fed_of (beginning (Summing s) p) (w ++ r) ≡ fed_of (beginning (behind w) none_held) r
  unfolding item_sized
  item_held w p r n full =
      whole_held (Summing s) item_sized p r full (behind w) w n
      (λ ys. ap behind (ap (λ k. take k (w ++ ys)) (size_front w ys (omega (arith, (size_bounds w).0))) ∙ take_at w ys (item_size w) n))

  pub item_cut : (w p : List ℕ) → length w < item_size w → length p ≡ 14 → fed_of (beginning (Summing s) p) w ≡ holding (Summing s) w (drop (length w) p)
  unfolding item_sized
  item_cut w p n full = part_held (Summing s) item_sized w p n full
