-- What a record's summary tells of its index: how long it is, and what is to be written.
-- Assumes nothing.
use Prim.Native.Nat.{ℕ, ◌+◌, ◌*◌, ◌≤◌, ◌<◌}
use mathlib.Core.Bool.{true}
use mathlib.Core.List.{List}
use mathlib.Core.Path.{◌≡◌, refl, sym, ap, ◌∙◌}
use native.Mathlib.Omega.{arith}
use borrow.Author.Tests.{ne_eqb}
use lib.ListN.{length}
use Rattle.std.specs.Prelude.{Err}
use Rattle.decide.specs.declared.refusal.Refusal.{Refusal}
use Rattle.shaper.specs.declared.Limits.{Limits}
use Rattle.shaper.specs.declared.Event.{Event}
use Rattle.record.specs.Read.{whole, read_in}
use Rattle.account.specs.Account.{summarize_in}
use Rattle.excerpt.specs.Place.{place_after, first_place}
use Rattle.roll.specs.Moved.{Output, bytes, moved_of, left_of}
use Rattle.roll.specs.Steps.{Reads}
use Rattle.roll.proofs.Rooms.{row_refused}
use Rattle.roll.proofs.Told.{unread}
use Rattle.index.specs.Tree.{blocks_of, top_level, index_length}
use Rattle.index.specs.Index.{place_of, index_bytes, index_read, index_of}
use Rattle.index.specs.Fill.{Filling}
use Rattle.index.proofs.Sizes.{size_top}
use Rattle.index.proofs.Nodes.{blocks_hold}
use Rattle.index.proofs.Whole.{few_whole}
use Rattle.index.proofs.Fills.{events_in_lem}

-- no refusal: the output is the index
pub index_output : (xs : List ℕ) (l : Limits) (es : List Event) → read_in true xs ≡ whole l es → index_of xs ≡ bytes (index_bytes l xs es)
unfolding index_of
index_output xs l es e = rw e

-- a refusal of the record
pub index_refused : (xs : List ℕ) (r : Refusal) (room : List ℕ) → summarize_in true xs ≡ Err r → (moved_of (index_of xs) room ≡ Err r) × (left_of (index_of xs) room ≡ room)
unfolding index_of
index_refused xs r room h =
    let u = unread true xs r h in
    let o = ap (index_read xs) u.reads in
    let row = row_refused u.number room in
    (ap (λ (q : Output). moved_of q room) o ∙ row.0 ∙ ap Err u.told, ap (λ (q : Output). left_of q room) o ∙ row.1)

-- the first event stands behind the header
pub place_first : (xs : List ℕ) → first_place ≡ place_of xs 0
unfolding place_of place_after
place_first xs = refl

-- of some events, each block has 80 bytes and the last 40
length_some : (n : ℕ) → 0 < n → index_length n + 40 ≡ 80 * blocks_of n
unfolding index_length
length_some n h = rw (ne_eqb n 0 (λ z. omega arith)) (omega (arith, blocks_hold n))

-- the whole index as a node at the top
pub fills_whole : (xs : List ℕ) (l : Limits) (r : Reads true xs l) (n : ℕ) (room : List ℕ) → n ≡ length r.events → 0 < n → index_length n ≤ length room →
    Filling l xs n top_level 4096 0 first_place room
fills_whole xs l r n room counts some roomy =
    let few = few_whole xs l r.events r.reads in
    let top = size_top in
    let held = blocks_hold n in
    record {
      reads = r;
      counts = rw (events_in_lem xs l r.events r.reads) counts;
      sized = sym size_top;
      low = omega arith;
      some = omega arith;
      first = place_first xs;
      roomy = omega (arith, length_some n some);
    }
