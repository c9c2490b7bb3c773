-- The loop is left at the block's end, or where a response would have no room.
use Rattle.std.proofs.Common.{arith}
use Rattle.stream.proofs.Stream.{took_nothing, took_more}
use Rattle.stream.proofs.inner.take_lines.Goals as goal

pub loop-state-init : goal.loop-state-init
loop-state-init c = took_nothing c.requires

pub overflow_sub-out : goal.overflow_sub-out
overflow_sub-out c = c.loop-state.invariant.inside.filled_inside

pub returns-then-out-state-lt-ROOM-clause-took : goal.returns-then-out-state-lt-ROOM-clause-took
returns-then-out-state-lt-ROOM-clause-took c = c.loop-state.invariant

pub take_byte-state-requires : goal.take_byte-state-requires
take_byte-state-requires c = (c.loop-state.invariant.inside, omega arith, omega arith)

pub loop-state-preserved : goal.loop-state-preserved
loop-state-preserved c = took_more c.requires c.loop-state.invariant c.take_byte-state.ensures.1

pub returns-clause-took : goal.returns-clause-took
returns-clause-took c = c.loop-state.invariant

pub returns-then-out-state-lt-ROOM-clause-stops : goal.returns-then-out-state-lt-ROOM-clause-stops
returns-then-out-state-lt-ROOM-clause-stops c = λ h. omega arith
