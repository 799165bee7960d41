-- Each kind has its word.
-- Assumes nothing.
use mathlib.Core.Path.{◌≡◌, ap}
use Prim.Native.Nat.{ℕ}
use native.Mathlib.Omega.{arith}
use lib.ListN.{length}
use Rattle.shaper.specs.declared.Event.{Event}
use Rattle.report.specs.Text.{ascii}
use Rattle.apart.specs.Text.{named, event_text}
use Rattle.apart.proofs.line.put_event.Goals as goal

waiting : (e : Event) (n : ℕ) → e ≡ Event.Waiting n → event_text e ≡ named (ascii "waiting ") n
unfolding event_text
waiting e n h = ap event_text h

idle : (e : Event) (n : ℕ) → e ≡ Event.Idle n → event_text e ≡ named (ascii "idle ") n
unfolding event_text
idle e n h = ap event_text h

send : (e : Event) (n : ℕ) → e ≡ Event.Send n → event_text e ≡ named (ascii "send ") n
unfolding event_text
send e n h = ap event_text h

pub put_named-requires : goal.put_named-requires
put_named-requires c = omega (arith, ap length (waiting _ _ c.in-Waiting.is))

pub put_named-requires-in-Idle : goal.put_named-requires-in-Idle
put_named-requires-in-Idle c = omega (arith, ap length (idle _ _ c.in-Idle.is))

pub put_named-requires-in-Send : goal.put_named-requires-in-Send
put_named-requires-in-Send c = omega (arith, ap length (send _ _ c.in-Send.is))

pub returns-in-Waiting : goal.returns-in-Waiting
returns-in-Waiting c =
    let e = waiting _ _ c.in-Waiting.is in
    record { value = rw e c.put_named.ensures.value; s_after = rw e c.put_named.ensures.s_after }

pub returns-in-Idle : goal.returns-in-Idle
returns-in-Idle c =
    let e = idle _ _ c.in-Idle.is in
    record { value = rw e c.put_named-in-Idle.ensures.value; s_after = rw e c.put_named-in-Idle.ensures.s_after }

pub returns-in-Send : goal.returns-in-Send
returns-in-Send c =
    let e = send _ _ c.in-Send.is in
    record { value = rw e c.put_named-in-Send.ensures.value; s_after = rw e c.put_named-in-Send.ensures.s_after }
