-- The two round trips. A number that fits is read back from its bytes, and the bytes at a place are those of the number that is read there.
-- Assumes nothing.
use mathlib.Core.Bool.{true}
use mathlib.Core.List.{List}
use mathlib.Core.Path.{◌≡◌, refl, sym, ap}
use Prim.Native.Nat.{ℕ, ◌+◌, ◌^◌, ◌<◌}
use native.Mathlib.Omega.{arith}
use lib.ListN.{length}
use Rattle.wire.specs.Wire.{le, digits, Bytes}
use Rattle.wire.specs.Parts.{number, nth, offset, length_laid_out}
use Rattle.wire.specs.Signed.{signed_of, unsigned_of}
use Rattle.wire.proofs.Places.{Stands, stands_whole}
use Rattle.wire.proofs.Numbers.{le_bound, digits_stand}
use Rattle.wire.proofs.Laid.{le_part, whole_standing}
use Rattle.wire.proofs.Signs.{unsigned_signed, signed_unsigned, unsigned_bound}
use Rattle.plain.proofs.Laws.{in_range_small}
use Rattle.plain.proofs.Ceiling.{ceiling_fits}
use Rattle.summary.specs.declared.Summary.{Summary}
use Rattle.summary.specs.Range.{in_range}
use Rattle.summary.specs.Plain.{plain_from}
use Rattle.summary.proofs.Paper.{same_signed, in_range_plain}
use Rattle.sheet.specs.Sheet.{sheet_length, sheet_parts, sheet_of, summary_at, SummaryFits}

pub length_sheet : (s : Summary) → length (sheet_of s) ≡ sheet_length
unfolding sheet_of
length_sheet s = length_laid_out (sheet_parts s)

-- ---- 48 bytes, read and written

module _ (xs : List ℕ) (b : Bytes xs) where
  -- the ceiling's bytes stand where they were read, by way of the integer
  ceiling_stands : Stands xs 32 (digits 8 (unsigned_of (signed_of (le 8 xs 32))))
  ceiling_stands = rw (unsigned_signed (le 8 xs 32) (le_bound 8 xs 32 b)) (digits_stand 8 xs 32 b)

  -- Every 48 bytes hold one summary, and it writes them again.
  pub bytes_of_summary : length xs ≡ sheet_length → sheet_of (summary_at xs) ≡ xs
  unfolding sheet_of summary_at
  bytes_of_summary e =
      whole_standing (sheet_parts (summary_at xs)) xs (sym e)
      (digits_stand 4 xs 0 b, (digits_stand 4 xs 4 b, (digits_stand 4 xs 8 b, (digits_stand 4 xs 12 b, (digits_stand 8 xs 16 b, (digits_stand 8 xs 24 b, (ceiling_stands, (digits_stand 8 xs 40 b, tt))))))))

-- ---- a summary, written and read

module _ (s : Summary) (f : SummaryFits s) where
  -- the k-th field is read at its offset
  field : (k w v : ℕ) → (nth (sheet_parts s) k).bytes ≡ (number w v).bytes → v < 256 ^ w → le w (sheet_of s) (0 + offset (sheet_parts s) k) ≡ v
  unfolding sheet_of
  field k w v e h = le_part (sheet_parts s) k w v (sheet_of s) 0 e h (stands_whole (sheet_of s))

  -- A summary whose fields fit is read back as it was written.
  pub summary_of_bytes : summary_at (sheet_of s) ≡ s
  unfolding summary_at
  summary_of_bytes =
      rw (
        field 0 4 s.limits.mtu refl f.mtu,
        field 1 4 s.limits.lo refl f.lo,
        field 2 4 s.limits.hi refl f.hi,
        field 3 4 s.events refl f.events,
        field 4 8 s.accrued refl f.accrued,
        field 5 8 s.sent refl f.sent,
        field 6 8 (unsigned_of s.ceiling) refl (unsigned_bound s.ceiling f.ceiling),
        field 7 8 s.need refl f.need,
        signed_unsigned s.ceiling f.ceiling,
      )

-- The fields of a summary in range fit.
pub in_range_fits : (s : Summary) → in_range s ≡ true → SummaryFits s
in_range_fits s h =
    let p = in_range_plain s h in
    let n = in_range_small (plain_from s) p in
    record {
      mtu = omega arith;
      lo = omega arith;
      hi = omega arith;
      events = omega arith;
      accrued = omega arith;
      sent = omega arith;
      ceiling = rw (sym (ap (λ (z : Summary). z.ceiling) (same_signed s h))) (ceiling_fits s.limits.hi (plain_from s).depth (omega arith) (omega arith));
      need = omega arith;
    }
