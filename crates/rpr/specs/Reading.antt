-- What a host reads in the room of rpr_show: 31 words of 4 bytes, group by group.
-- Assumes nothing.
use Rattle.std.specs.Prelude.{ℕ, ◌*◌, ◌/◌, List, [], ◌∷◌, ◌≡◌, length}
use Rattle.queue.specs.declared.Queue.{Queue}
use Rattle.queue.specs.Frame.{frame_of}
use Rattle.queue.specs.Queue.{frames_of, sizes}
use Rattle.station.specs.declared.Station.{Station}
use Rattle.wire.specs.Words.{words_at}

-- from word k on, n words of 4 bytes
abbrev pub words_from : List ℕ → ℕ → ℕ → List ℕ
words_from bytes k n = words_at n bytes (4 * k)

-- a queue: frames, bytes
abbrev pub frames_held : Queue → List ℕ
frames_held q = length (frames_of q) ∷ sizes (frames_of q) ∷ []

pub record ShowsWords (bytes : List ℕ) (st : Station) : Type 0 where
  -- 0 to 4: credit of M, A, B, C, D
  pub credits : words_from bytes 0 5 ≡ st.flow.credits.m ∷ st.flow.credits.a ∷ st.flow.credits.b ∷ st.flow.credits.c ∷ st.flow.credits.d ∷ []
  -- 5 6, 7 8, 9 10: control, primary and secondary queue: frames, bytes
  pub control : words_from bytes 5 2 ≡ frames_held st.flow.control
  pub primary : words_from bytes 7 2 ≡ frames_held st.flow.primary
  pub secondary : words_from bytes 9 2 ≡ frames_held st.flow.secondary
  -- 11 12: stage: frames (0 or 1), bytes
  pub empty_stage : st.flow.stage ≡ 0 → words_from bytes 11 2 ≡ 0 ∷ 0 ∷ []
  pub stage : (st.flow.stage ≡ 0 → ⊥) → words_from bytes 11 2 ≡ 1 ∷ (frame_of st.flow.stage).size ∷ []
  -- 13 to 16: addRate, fwRate, addRateCongested, fwRateCongested
  pub counters : words_from bytes 13 4 ≡ st.fair.counters.add ∷ st.fair.counters.fw ∷ st.fair.counters.addc ∷ st.fair.counters.fwc ∷ []
  -- 17 to 20: the smoothed rates, in the same order, as they are shown: floor(s / lpCoef) of what is stored
  pub smoothed :
      let n = st.settings.fairness.lp in
      words_from bytes 17 4 ≡ st.fair.smoothed.add / n ∷ st.fair.smoothed.fw / n ∷ st.fair.smoothed.addc / n ∷ st.fair.smoothed.fwc / n ∷ []
  -- 21 to 24: localFairRate, allowedRate, allowedRateCongested, own rate
  pub decided : words_from bytes 21 4 ≡ st.fair.decided.local ∷ st.fair.decided.allowed ∷ st.fair.decided.allowedc ∷ st.fair.decided.own ∷ []
  -- 25 26: locally congested, downstream congested
  pub congested : words_from bytes 25 2 ≡ st.fair.decided.congested ∷ st.fair.received.downstream ∷ []
  -- 27: received ttl; 28 29 30: received address (high 16, low 32 bits), received rate
  pub received : words_from bytes 27 4 ≡ st.fair.received.ttl ∷ st.fair.received.high ∷ st.fair.received.low ∷ st.fair.received.rate ∷ []
