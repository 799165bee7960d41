-- Words of two frames, computed: the least there is, and the largest marked one of class C. Assumes nothing.
use mathlib.Core.Path.{◌≡◌, refl}
use Prim.Native.Nat.{ℕ}
use Rattle.queue.specs.Frame.{word_of}

pub least_word : ◌≡◌ {A = ℕ} (word_of (record { size = 16; hops = 1; class = 0; mark = 0 })) 16400
least_word = refl

pub largest_word : ◌≡◌ {A = ℕ} (word_of (record { size = 9216; hops = 63; class = 2; mark = 1 })) 7332864
largest_word = refl
