-- What is filled grows by what is read.
use Rattle.std.proofs.Common.{length, ◌-◌}
use Rattle.console.proofs.InputReading.{fits-on, filled-on, reads-on}
use Rattle.console.proofs.read_up_to.Goals as goal

pub loop-filled-preserved : goal.loop-filled-preserved
loop-filled-preserved g c =
    let buffer = c.loop-filled.buffer in
    let filled = c.loop-filled.filled in
    let room = length buffer - filled in
    let few = c.in-Ok.ensures.bound.0 in (
      fits-on filled c.in-Ok.count room buffer c.read.new.buf c.loop-filled.invariant.0 few,
      rw (filled-on filled c.in-Ok.count room buffer c.read.new.buf c.loop-filled.invariant.0 few) (reads-on _ _ _ _ _ c.loop-filled.invariant.1 c.in-Ok.ensures.bytes.0),
    )
