-- A frame, its range, and the word that holds it.
-- Assumes nothing.
use Rattle.std.specs.Prelude.{ℕ, ◌+◌, ◌*◌, ◌/◌, ◌%◌, ◌≤◌, ◌<◌}
use Rattle.decide.specs.Test.{Test, Holds, ◌≤?◌, ◌∧?◌}
use Rattle.decide.specs.Size.{size_ok}
use Rattle.decide.specs.Hops.{in_ring}
use Rattle.queue.specs.declared.Bounds.{Bounds}
use Rattle.queue.specs.declared.Frame.{Frame}

-- Hops 1 to 63.
abbrev pub hops_ok : ℕ → Test
hops_ok hops = 1 ≤? hops ∧? hops ≤? 63

-- Frame size 16 to mtu; hops 1 to 63; class A, B or C, which are 0, 1 and 2; only B and C may be marked fairness eligible: A, being 0, has mark 0.
abbrev pub frame_ok : Bounds → Frame → Test
frame_ok b f =
    size_ok f.size b.mtu
    ∧? hops_ok f.hops
    ∧? f.class ≤? 2
    ∧? f.mark ≤? 1 ∧? f.mark ≤? f.class

-- the same as facts with names
pub record FrameOk (b : Bounds) (f : Frame) : Type 0 where
  pub least : 16 ≤ f.size
  pub most : f.size ≤ b.mtu
  pub hops : Holds (hops_ok f.hops)
  pub class : f.class ≤ 2
  pub mark : f.mark ≤ 1
  pub marked : f.mark ≤ f.class

-- A lent station's frames are in range, and none of them has hops that reach the number of stations or more.
abbrev pub held_ok : Bounds → Frame → Test
held_ok b f = frame_ok b f ∧? in_ring b.stations f.hops

-- the same as facts with names
pub record HeldOk (b : Bounds) (f : Frame) : Type 0 where
  pub frame : FrameOk b f
  pub ring : f.hops < b.stations

-- what frames may be held to: mtu at most 9,216
pub record BoundsOk (b : Bounds) : Type 0 where
  pub mtu_most : b.mtu ≤ 9216

-- The word of a frame: size in bits 0 to 13, hops in 14 to 19, class in 20 and 21, the mark in 22.
abbrev pub word_of : Frame → ℕ
word_of f = f.size % 16384 + f.hops % 64 * 16384 + f.class % 4 * 1048576 + f.mark % 2 * 4194304

-- The frame of a word. Of a word with bits above the mark's the mark is 2 or more, which is in no range.
abbrev pub frame_of : ℕ → Frame
frame_of w = record { size = w % 16384; hops = w / 16384 % 64; class = w / 1048576 % 4; mark = w / 4194304 }

-- each number of the frame fits its bits
pub record FrameFits (f : Frame) : Type 0 where
  pub size : f.size < 16384
  pub hops : f.hops < 64
  pub class : f.class < 4
  pub mark : f.mark < 2
