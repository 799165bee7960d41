-- Each block without a fault goes over to the tally, and what is left keeps its answer.
-- Assumes nothing.
use Rattle.std.proofs.Common.{◌≡◌, ℕ, ◌+◌, ◌-◌, ◌*◌, ◌/◌, ◌≤◌, min, Bool, true, List, length, arith}
use Rattle.shaper.specs.declared.Limits.{Limits}
use Rattle.tally.specs.declared.Tally.{Tally}
use Rattle.tally.specs.Part.{Steady}
use Rattle.account.specs.Rest.{Passed, Blocked}
use Rattle.account.proofs.Passed.{passed_none, passed_then}
use Rattle.account.proofs.blocks.Goals as goal

least : {n a b : ℕ} → n ≡ min a b → (n ≤ a) × (n ≤ b)
least e = omega arith

-- so many blocks stand there, and their events may come
room_for : (long from most done count : ℕ) → from ≤ long → done ≤ most → count ≤ (long - from) / 384 → count ≤ (most - done) / 64 → (done + 64 * count ≤ most) × (from + 384 * count ≤ long)
room_for long from most done count a b c d = omega arith

-- a block is 64 events more
one_more : (n done b : ℕ) → n ≡ done + 64 * b → n + 64 ≡ done + 64 * (b + 1)
one_more n done b e = omega arith

-- what the loop keeps is what is ensured
blocked : (s : List ℕ) (from : ℕ) (l : Limits) (done : ℕ) (start : Tally) (most count b at n : ℕ) (t : Tally) → b ≤ count → done + 64 * count ≤ most → from + 384 * count ≤ length s →
    at ≡ from + 384 * b → n ≡ done + 64 * b → Steady (l.hi - l.lo) t → ((runs : Bool) → Passed runs l s from done start (64 * b) at t) →
    Blocked l s from done start most (record { at = at; n = n; tally = t })
blocked s from l done start most count b at n t h room long a m steady p =
    record { count = 64 * b; counts = m; few = omega arith; within = omega arith; further = omega arith; steady = steady; passed = p }

pub loop-init : goal.loop-init
loop-init c =
    let p = c.requires in
    let few = least c.lesser-count.ensures in
    let fits = room_for (length c.args.s.now) c.args.from c.args.most c.args.done c.lesser-count.result p.0 p.3 few.0 few.1 in
    (omega arith, fits.0, p.4, fits.1, omega arith, omega arith, p.2, λ runs. passed_none runs c.args.limits c.args.s.now c.args.from c.args.done c.args.start p.1)

pub block-next-requires : goal.block-next-requires
block-next-requires c =
    let L = c.loop in
    let h = c.loop-test.true in
    (omega arith, rw L.invariant.5 (L.invariant.7 true).ready, omega arith, L.invariant.6)

pub returns-then-not-good : goal.returns-then-not-good
returns-then-not-good c =
    let L = c.loop in
    let i = L.invariant in
    blocked _ _ _ _ _ _ _ L.counter L.at L.n L.t i.0 i.1 i.3 i.4 i.5 i.6 i.7

pub loop-preserved : goal.loop-preserved
loop-preserved c =
    let L = c.loop in
    let i = L.invariant in
    let h = c.loop-test.true in
    let passed = c.block-next.ensures.steady c.if-not-good.false in
    let more : 64 * L.counter + 64 ≡ 64 * (L.counter + 1) = omega arith in
    (omega arith, i.1, i.2, i.3, omega (arith, i.4), one_more _ _ L.counter i.5, passed.1, λ runs. rw more at (passed_then runs _ _ _ _ _ (64 * L.counter) _ _ 64 _ _ (i.7 runs) (rw i.5 at (passed.0 runs))))

pub returns : goal.returns
returns c =
    let L = c.loop in
    let i = L.invariant in
    blocked _ _ _ _ _ _ _ L.counter L.at L.n L.t i.0 i.1 i.3 i.4 i.5 i.6 i.7
