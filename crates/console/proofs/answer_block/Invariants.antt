-- Each turn goes on from where the last one stopped, by at least one byte, since what was filled is written out.
use Rattle.std.proofs.Common.{◌≡◌, ◌-◌, ◌≤◌, length, take}
use Rattle.requests.specs.Requests.{line_room}
use Rattle.stream.specs.Stream.{buffered, kept, kept_after}
use Rattle.console.proofs.answer_block.Given as goal

abbrev pub invariant-loop-state : goal.invariant-loop-state
invariant-loop-state l = record {
  at_inside : l.state.at ≤ length l.block;
  pending_inside : buffered l.state.pending ≤ line_room;
  written : l.state.filled ≡ 0;
  keeps : kept l.line l.state.pending ≡ kept_after (kept l.initial.line l.initial.state.pending) (take l.state.at l.block);
}

abbrev pub decreases-loop-state : goal.decreases-loop-state
decreases-loop-state l = length l.block - l.state.at
