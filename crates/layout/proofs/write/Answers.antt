-- `layout::write` meets its contract. Puts one behind the other that fill the slice are the parts, each queue of 518 bytes: `laid_whole`.
-- Assumes nothing.
use mathlib.Core.List.{List}
use mathlib.Core.Path.{sym}
use Rattle.wire.specs.Parts.{Part}
use Rattle.wire.proofs.Laid.{laid_whole}
use Rattle.station.specs.declared.Station.{Station}
use Rattle.slots.specs.Slots.{queue_part}
use Rattle.layout.specs.Layout.{station_parts, station_bytes}
use Rattle.layout.proofs.write.Goals as goal

pub returns : goal.returns
unfolding station_bytes
returns c =
    let st : Station = c.args.st in
    let ps : List Part =
    station_parts
    (queue_part st.flow.control c.write.ensures.1)
    (queue_part st.flow.primary c.write-2.ensures.1)
    (queue_part st.flow.secondary c.write-3.ensures.1)
    st in
    rw (c.write-5.ensures, c.write-4.ensures, c.put32.ensures, c.write-3.ensures.0, c.write-2.ensures.0, c.write.ensures.0, c.put_credits.ensures)
    (laid_whole ps c.args.s.now (sym c.requires))
