-- An entry is read back as it was written, and what is written are bytes.
-- Assumes nothing.
use Prim.Native.Nat.{ℕ, zero, suc, ◌+◌, ◌*◌, ◌^◌, ◌<◌}
use mathlib.Core.Bool.{true}
use mathlib.Core.List.{List, ◌++◌}
use mathlib.Core.Path.{◌≡◌, refl, sym, ap}
use native.Mathlib.Omega.{arith}
use native.Mathlib.Nat.{add-zero}
use lib.ListN.{length}
use lib.Signed.{mag}
use Rattle.decide.proofs.Cases.{by_cases, le_or}
use Rattle.wire.specs.Wire.{le, Bytes}
use Rattle.wire.specs.Parts.{number, nth, offset}
use Rattle.wire.specs.Signed.{unsigned_of}
use Rattle.wire.proofs.Places.{Stands, bytes_append}
use Rattle.wire.proofs.Laid.{le_part}
use Rattle.wire.proofs.Placed.{laid_out_bytes}
use Rattle.wire.proofs.Numbers.{digits_bytes}
use Rattle.wire.proofs.Signs.{signed_unsigned, unsigned_bound}
use Rattle.plain.proofs.Laws.{in_range_small}
use Rattle.plain.proofs.Ceiling.{ceiling_fits}
use Rattle.shaper.specs.declared.Limits.{Limits}
use Rattle.shaper.specs.declared.Event.{Event}
use Rattle.summary.specs.declared.Summary.{Summary}
use Rattle.summary.specs.Range.{in_range}
use Rattle.summary.specs.Plain.{plain_from}
use Rattle.summary.proofs.Paper.{same_signed, in_range_plain}
use Rattle.excerpt.specs.declared.Place.{Place}
use Rattle.index.specs.Tree.{block_events, top_level, size_of, from_of}
use Rattle.index.specs.Entry.{entry_parts, entry_bytes, summary_in, place_in}
use Rattle.index.specs.Index.{place_of, node_summary, node_entry, node_bytes, index_bytes}
use Rattle.index.proofs.Nodes.{node_block, node_pair, node_alone, index_none, index_node}

-- each field of a summary in range fits its bytes
pub record EntryFits (s : Summary) : Type 0 where
  pub events : s.events < 4294967296
  pub accrued : s.accrued < 18446744073709551616
  pub sent : s.sent < 18446744073709551616
  pub ceiling : mag s.ceiling < 9223372036854775808
  pub need : s.need < 4294967296

pub entry_fits : (s : Summary) → in_range s ≡ true → EntryFits s
entry_fits s h =
    let p = in_range_plain s h in
    let n = in_range_small (plain_from s) p in
    record {
      events = omega arith;
      accrued = omega arith;
      sent = omega arith;
      ceiling = rw (sym (ap (λ (z : Summary). z.ceiling) (same_signed s h))) (ceiling_fits s.limits.hi (plain_from s).depth (omega arith) (omega arith));
      need = omega arith;
    }

-- ---- an entry, written and read

-- the k-th field is read at its offset
field : (ix : List ℕ) (at : ℕ) (p : Place) (s : Summary) → Stands ix at (entry_bytes p s) →
    (k w v : ℕ) → (nth (entry_parts p s) k).bytes ≡ (number w v).bytes → v < 256 ^ w → le w ix (at + offset (entry_parts p s) k) ≡ v
unfolding entry_bytes
field ix at p s st k w v e h = le_part (entry_parts p s) k w v ix at e h st

pub entry_summary : (l : Limits) (ix : List ℕ) (at : ℕ) (p : Place) (s : Summary) → s.limits ≡ l → in_range s ≡ true → Stands ix at (entry_bytes p s) →
    summary_in l ix at ≡ s
unfolding summary_in
entry_summary l ix at p s e h st =
    let f = entry_fits s h in
    let first : le 4 ix at ≡ s.events = rw add-zero at (field ix at p s st 0 4 s.events refl f.events) in
    rw (
      ← e,
      first,
      field ix at p s st 3 4 s.need refl f.need,
      field ix at p s st 4 8 s.accrued refl f.accrued,
      field ix at p s st 5 8 s.sent refl f.sent,
      field ix at p s st 6 8 (unsigned_of s.ceiling) refl (unsigned_bound s.ceiling f.ceiling),
      signed_unsigned s.ceiling f.ceiling,
    )

pub entry_place : (ix : List ℕ) (at : ℕ) (p : Place) (s : Summary) → Stands ix at (entry_bytes p s) → p.at < 4294967296 → p.gone < 4294967296 →
    place_in ix at ≡ p
unfolding place_in
entry_place ix at p s st a g = rw (field ix at p s st 1 4 p.at refl a, field ix at p s st 2 4 p.gone refl g)

-- ---- bytes

pub entry_bytes_lem : (p : Place) (s : Summary) → Bytes (entry_bytes p s)
unfolding entry_bytes
entry_bytes_lem p s =
    laid_out_bytes (entry_parts p s)
    (digits_bytes 4 _, (digits_bytes 4 _, (digits_bytes 4 _, (digits_bytes 4 _, (digits_bytes 8 _, (digits_bytes 8 _, (digits_bytes 8 _, tt)))))))

module _ (l : Limits) (xs : List ℕ) (es : List Event) where
  node_entry_bytes : (k x : ℕ) → Bytes (node_entry l xs es k x)
  node_entry_bytes k x = entry_bytes_lem (place_of xs (from_of x)) (node_summary l es k x)

  pub node_bytes_lem : (k x : ℕ) → Bytes (node_bytes l xs es k x)
  node_bytes_lem zero x = rw (node_block l xs es x) (node_entry_bytes 0 x)
  node_bytes_lem (suc k) x =
      by_cases (le_or (length es) (block_events * (x + size_of k)))
      (λ h. rw (node_alone l xs es k x h) (node_bytes_lem k x))
      (λ h. rw (node_pair l xs es k x h)
      (bytes_append (node_bytes l xs es k x) (node_entry l xs es (suc k) x ++ node_bytes l xs es k (x + size_of k)) (node_bytes_lem k x)
      (bytes_append (node_entry l xs es (suc k) x) (node_bytes l xs es k (x + size_of k)) (node_entry_bytes (suc k) x) (node_bytes_lem k (x + size_of k)))))

  pub index_bytes_lem : Bytes (index_bytes l xs es)
  index_bytes_lem =
      by_cases (le_or (length es) 0) (λ h. rw (index_none l xs es (omega arith)) (λ j. omega arith)) (λ h. rw (index_node l xs es h) (node_bytes_lem top_level 0))
