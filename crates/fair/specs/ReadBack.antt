-- What reading a frame that the station told gives back.
-- Assumes nothing.
use Rattle.std.specs.Prelude.{◌≤◌, ◌<◌, false, [], ◌∷◌, ◌≡◌, Ok}
use Rattle.decide.specs.Test.{test}
use Rattle.decide.specs.Refusal.{first_of}
use Rattle.advert.specs.declared.Advert.{Advert}
use Rattle.advert.specs.Frame.{advert_bytes, parsed_of, AdvertFits}
use Rattle.settings.specs.declared.Settings.{Settings}
use Rattle.heard.specs.Range.{hops_of}
use Rattle.heard.specs.Frame.{other_ringlet, own_address, ringlet_fault, ttl_fault, ring_fault, address_fault}
use Rattle.fair.specs.declared.Fair.{Fair}
use Rattle.fair.specs.Advertise.{told_of}

-- a frame that fits, has a ttl in range and bears the other ringlet's bit
pub record Sound (s : Settings) (a : Advert) : Type 0 where
  pub fits : AdvertFits a
  pub ttl_least : 193 ≤ a.ttl
  pub ttl_most : a.ttl ≤ 255
  pub bit : a.ringlet ≡ other_ringlet s

-- Reading a written frame, with the same settings but an address it doesn't bear, gives back its ringlet bit, ttl, address and rate. Of the settings a
-- reader looks at the ringlet, the number of stations and the address.
pub record ReadBack (s : Settings) (f : Fair) : Type 0 where
  pub parsed : parsed_of (advert_bytes (told_of f s)) ≡ Ok (told_of f s)
  pub ttl_in_range : (193 ≤ (told_of f s).ttl) × ((told_of f s).ttl ≤ 255)
  pub in_ring_lem : hops_of (told_of f s).ttl < s.site.stations
  pub ringlet_other : (told_of f s).ringlet ≡ s.ringlet → ⊥
  pub not_refused : (t : Settings) → t.ringlet ≡ s.ringlet → t.site.stations ≡ s.site.stations → test (own_address t (told_of f s)) ≡ false →
      first_of (ringlet_fault t (told_of f s) ∷ ttl_fault (told_of f s) ∷ ring_fault t (told_of f s) ∷ address_fault t (told_of f s) ∷ []) ≡ 0
