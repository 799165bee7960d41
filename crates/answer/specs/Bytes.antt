-- What a call answers, byte by byte. Byte 0 is the lowest, and 0 where the call was carried out.
-- Assumes nothing.
use Rattle.std.specs.Prelude.{ℕ, ◌+◌, ◌*◌, ◌%◌, Bool, true, false, List, [], ◌∷◌, ◌++◌}
use Rattle.wire.specs.Wire.{digits}
use Rattle.queue.specs.declared.Frame.{Frame}

-- the number whose bytes these are, the lowest first; what does not fit a byte is cut off
abbrev pub packed : List ℕ → ℕ
packed [] = 0
packed (b ∷ bs) = b % 256 + 256 * packed bs

-- Yes or no: 1 or 0.
unfoldable pub bit_of : Bool → ℕ
bit_of true = 1
bit_of false = 0

-- rpr_choose. Byte 1 side (1 left, 2 right), 2 distance, 3 ttl, 4 wrap mark.
abbrev pub chosen_bytes : ℕ → ℕ → ℕ → Bool → List ℕ
chosen_bytes side distance ttl mark = 0 ∷ side ∷ distance ∷ ttl ∷ bit_of mark ∷ 0 ∷ 0 ∷ 0 ∷ []

-- rpr_path. Byte 1 delivered, 2 hops.
abbrev pub moved_bytes : Bool → ℕ → List ℕ
moved_bytes delivered hops = 0 ∷ bit_of delivered ∷ hops ∷ 0 ∷ 0 ∷ 0 ∷ 0 ∷ 0 ∷ []

-- rpr_settle. Byte 1 permitted throughout, 4 to 7 the credit at the end.
abbrev pub permitted_bytes : ℕ → List ℕ
permitted_bytes credit = (0 ∷ 1 ∷ 0 ∷ 0 ∷ []) ++ digits 4 credit

-- rpr_roll and rpr_unroll. Bytes 4 to 7: the bytes written.
abbrev pub written_bytes : ℕ → List ℕ
written_bytes n = (0 ∷ 0 ∷ 0 ∷ 0 ∷ []) ++ digits 4 n

-- rpr_offer_client. Byte 4: the mark that the frame got, eligible or not.
abbrev pub mark_bytes : ℕ → List ℕ
mark_bytes mark = 0 ∷ 0 ∷ 0 ∷ 0 ∷ mark ∷ 0 ∷ 0 ∷ 0 ∷ []

-- rpr_offer_client, refused. Byte 0: the number; bytes 4 to 7: what it says beside it, with 6 the shortfall.
abbrev pub refused_bytes : ℕ → ℕ → List ℕ
refused_bytes number detail = (number ∷ 0 ∷ 0 ∷ 0 ∷ []) ++ digits 4 detail

-- rpr_select. Byte 1 origin, 2 class, 3 hops, 4 eligible, 5 is 0, 6 and 7 size.
abbrev pub selected_bytes : ℕ → Frame → List ℕ
selected_bytes origin x = (0 ∷ origin ∷ x.class ∷ x.hops ∷ x.mark ∷ 0 ∷ []) ++ digits 2 x.size
