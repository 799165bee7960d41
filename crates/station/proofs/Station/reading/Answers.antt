-- Each queue and the stage say what they hold, and of each smoothed rate what is shown is said, since it is in range.
-- Assumes nothing.
use Rattle.station.proofs.Station.reading.Goals as goal

pub shown-smoothed-requires : goal.shown-smoothed-requires
shown-smoothed-requires c = c.requires.fair.of_smoothed

pub returns : goal.returns
returns c = rw (c.on_stage.ensures, c.in_queue-3.ensures, c.in_queue-2.ensures, c.in_queue.ensures, c.shown-smoothed.ensures)
