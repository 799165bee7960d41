-- The front of a queue: its first frame, how many frames it holds, and their bytes. A selection looks at nothing else of a queue.
-- Assumes nothing.
use Rattle.std.specs.Prelude.{◌%◌, ◌∷◌, get_or, replicate}
use Rattle.queue.specs.declared.Front.{Front}
use Rattle.queue.specs.declared.Queue.{Queue}

abbrev pub front_of : Queue → Front
front_of q = record { word = get_or q.slots (q.head % 128) 0; count = q.count; held = q.held }

-- a queue with this front: its first frame stands in slot 0, and every other slot is empty, whatever the count says
abbrev pub fronted : Front → Queue
fronted f = record { slots = f.word ∷ replicate 127 0; head = 0; count = f.count; held = f.held }
