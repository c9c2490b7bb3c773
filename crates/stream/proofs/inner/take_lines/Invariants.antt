-- Each byte goes on from where the one before it left off, and leaves one less.
use Rattle.std.proofs.Common.{◌-◌, length}
use Rattle.stream.specs.Stream.{Took}
use Rattle.stream.proofs.inner.take_lines.Given as goal

abbrev pub invariant-loop-state : goal.invariant-loop-state
invariant-loop-state l = Took l.block l.initial.line l.initial.out l.initial.state l.line l.out l.state

abbrev pub decreases-loop-state : goal.decreases-loop-state
decreases-loop-state l = length l.block - l.state.at
