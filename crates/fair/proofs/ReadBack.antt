-- A frame that is told is read back: it fits a frame, and no other station on the ring finds a fault in it. Assumes nothing.
use Prim.Native.Nat.{ℕ, ◌-◌, ◌≤◌, ◌<◌}
use mathlib.Core.Bool.{false}
use mathlib.Core.List.{[], ◌∷◌}
use mathlib.Core.Path.{◌≡◌, refl, sym, ◌∙◌}
use native.Mathlib.Omega.{arith}
use Rattle.decide.specs.Test.{passes, decided}
use Rattle.decide.specs.Hops.{in_ring}
use Rattle.decide.proofs.Tests.{fails}
use Rattle.decide.proofs.Given.{in_order_lem}
use Rattle.advert.specs.declared.Advert.{Advert}
use Rattle.advert.proofs.ReadBack.{parse_written}
use Rattle.settings.specs.declared.Settings.{Settings}
use Rattle.settings.specs.Range.{SettingsOk}
use Rattle.heard.specs.Range.{ttl_ok, hops_of}
use Rattle.heard.specs.Frame.{own_frame, last_hop, own_ringlet, ringlet_fault, ttl_fault, ring_fault, address_fault}
use Rattle.fair.specs.declared.Fair.{Fair}
use Rattle.fair.specs.Range.{FairOk}
use Rattle.fair.specs.Advertise.{passed_on_of, told_of}
use Rattle.fair.proofs.Told.{told_each}
use Rattle.fair.specs.ReadBack.{Sound, ReadBack}

-- ---- no hops beyond the ring

module _ (s : Settings) (f : Fair) (settings : SettingsOk s) (ok : FairOk s f) where
  -- a received frame that is passed on tells of one hop more, which is still within the ring
  further : (hops_of f.received.ttl ≡ s.site.stations - 1 → ⊥) → hops_of (f.received.ttl - 1) < s.site.stations
  further n = omega (arith, ok.of_received.ring, ok.of_received.ttl_most, n)

  -- no frame that is told has 256 − ttl beyond it
  pub told_in_ring : hops_of (told_of f s).ttl < s.site.stations
  told_in_ring =
      let own : hops_of 255 < s.site.stations = settings.of_site.stations_least in
      told_each f s (λ (a : Advert). hops_of a.ttl < s.site.stations) own own (λ e. further (fails (last_hop s f.received.ttl) e))

-- ---- settings and state in range; the low 32 bits of an address are a 32-bit number

module _ (s : Settings) (f : Fair) (settings : SettingsOk s) (ok : FairOk s f) (own_low : s.address.low < 4294967296) (low : f.received.low < 4294967296) where
  own_sound : (rate : ℕ) → rate ≤ 65535 → Sound s (own_frame s rate)
  own_sound rate h =
      record {
        fits =
            record {
              ringlet_fits = omega arith;
              ttl_fits = omega arith;
              high_fits = omega (arith, settings.high_most);
              low_fits = own_low;
              rate_fits = omega arith;
            };
        ttl_least = omega arith;
        ttl_most = omega arith;
        bit = refl;
      }

  passed_sound : (hops_of f.received.ttl ≡ s.site.stations - 1 → ⊥) → Sound s (passed_on_of f s)
  passed_sound n =
      let ttl : f.received.ttl ≤ 255 = ok.of_received.ttl_most in
      record {
        fits =
            record {
              ringlet_fits = omega arith;
              ttl_fits = omega arith;
              high_fits = omega (arith, ok.of_received.high_most);
              low_fits = low;
              rate_fits = omega (arith, ok.of_received.rate_most);
            };
        ttl_least = omega (arith, settings.of_site.stations_most, further s f settings ok n);
        ttl_most = omega arith;
        bit = refl;
      }

  pub told_sound : Sound s (told_of f s)
  told_sound =
      told_each f s (Sound s) (own_sound 65535 (omega arith)) (own_sound f.decided.own (omega (arith, ok.of_decided.own_most)))
      (λ e. passed_sound (fails (last_hop s f.received.ttl) e))

  other_bit : (told_of f s).ringlet ≡ s.ringlet → ⊥
  other_bit e = let b = told_sound.bit in let m = settings.ringlet_most in omega arith

  pub frame_read_back : ReadBack s f
  frame_read_back =
      record {
        parsed = parse_written (told_of f s) told_sound.fits;
        ttl_in_range = (told_sound.ttl_least, told_sound.ttl_most);
        in_ring_lem = told_in_ring s f settings ok;
        ringlet_other = other_bit;
        not_refused = λ t same many other.
            let a = told_of f s in
            let ringlet = sym (decided (own_ringlet t a) false (λ h. other_bit (h ∙ same))) in
            let ttl = passes (ttl_ok a.ttl) (told_sound.ttl_least, told_sound.ttl_most) in
            let ring = passes (in_ring t.site.stations (hops_of a.ttl)) (rw many (told_in_ring s f settings ok)) in
            in_order_lem (ringlet_fault t a ∷ ttl_fault a ∷ ring_fault t a ∷ address_fault t a ∷ []) refl ∙ rw (ringlet, ttl, ring, other);
      }
