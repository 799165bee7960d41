-- Small flows, their numbers worked out by hand from document 01 and here computed. The settings are those of flow's examples: mtu 64, primary queue 100 bytes,
-- secondary 128, loLimit 100. Assumes nothing.
use Prim.Native.Nat.{ℕ}
use mathlib.Core.Bool.{true, false}
use mathlib.Core.List.{List, [], ◌∷◌}
use mathlib.Core.Path.{◌≡◌, refl}
use Rattle.decide.specs.Test.{test}
use Rattle.queue.specs.Frame.{word_of}
use Rattle.queue.specs.Queue.{empty_queue, pushed, space_of}
use Rattle.queue.specs.Queue as queue
use Rattle.flow.specs.declared.Flow.{Flow}
use Rattle.flow.proofs.Examples.{settings, frame, credits, flow}
use Rattle.selection.specs.Select.{control_ready, needy, select_of}

-- a control frame of 40 bytes, with this credit of M
abbrev pub ready : (m : ℕ) (primary secondary : List ℕ) → Flow
ready m primary secondary = flow (credits m 100 100) (40 ∷ []) primary secondary 0

pub record Examples : Type 0 where
  -- A control frame of 40 bytes. Space is 100 − 60 = 40 and 128 − 64 − 24 = 40: it fits both, and credit 101 permits.
  pub fits_both : test (control_ready settings (ready 101 (60 ∷ []) (64 ∷ 24 ∷ []))) ≡ true
  pub fits_goes : (select_of settings (ready 101 (60 ∷ []) (64 ∷ 24 ∷ []))).origin ≡ 1
  -- M is charged: 101 − 40
  pub fits_charged : (select_of settings (ready 101 (60 ∷ []) (64 ∷ 24 ∷ []))).flow.credits ≡ record { m = 61; a = 101; b = 101; c = 100; d = 100 }
  -- credit 100 does not permit
  pub not_permitted : test (control_ready settings (ready 100 (60 ∷ []) (64 ∷ 24 ∷ []))) ≡ false
  -- one byte more in the primary queue, or in the secondary, and it does not fit: the primary frame goes
  pub primary_full : test (control_ready settings (ready 101 (61 ∷ []) (64 ∷ 24 ∷ []))) ≡ false
  pub secondary_full : test (control_ready settings (ready 101 (60 ∷ []) (64 ∷ 25 ∷ []))) ≡ false
  pub primary_goes : (select_of settings (ready 101 (60 ∷ []) (64 ∷ 25 ∷ []))).origin ≡ 2
  -- 128 − 64 = 64: mtu is not larger than the space, so that the stage goes; 128 − 49 − 16 = 63: the secondary queue goes, and D, at 50, is not charged
  pub space_64 : test (needy settings (flow (credits 100 100 50) [] [] (64 ∷ []) (word_of (frame 40)))) ≡ false
  pub stage_goes : (select_of settings (flow (credits 100 100 50) [] [] (64 ∷ []) (word_of (frame 40)))).origin ≡ 4
  pub space_63 : test (needy settings (flow (credits 100 100 50) [] [] (49 ∷ 16 ∷ []) (word_of (frame 40)))) ≡ true
  pub secondary_goes : (select_of settings (flow (credits 100 100 50) [] [] (49 ∷ 16 ∷ []) (word_of (frame 40)))).origin ≡ 3
  pub none_charged : (select_of settings (flow (credits 100 100 50) [] [] (49 ∷ 16 ∷ []) (word_of (frame 40)))).flow.credits.d ≡ 50
  -- an empty stage: the secondary frame of 64 bytes goes where D, at 101, permits, and leaves it 37; at 100 nothing goes
  pub permitted_charged : (select_of settings (flow (credits 100 100 101) [] [] (64 ∷ []) 0)).flow.credits.d ≡ 37
  pub nothing_goes : (select_of settings (flow (credits 100 100 100) [] [] (64 ∷ []) 0)).origin ≡ 0

pub examples : Examples
unfolding test select_of pushed empty_queue space_of queue.first_frame queue.taken
examples =
    record {
      fits_both = refl;
      fits_goes = refl;
      fits_charged = refl;
      not_permitted = refl;
      primary_full = refl;
      secondary_full = refl;
      primary_goes = refl;
      space_64 = refl;
      stage_goes = refl;
      space_63 = refl;
      secondary_goes = refl;
      none_charged = refl;
      permitted_charged = refl;
      nothing_goes = refl;
    }
