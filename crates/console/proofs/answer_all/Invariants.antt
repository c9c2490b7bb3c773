use Rattle.std.proofs.Common.{◌≤◌}
use Rattle.requests.specs.Requests.{line_room}
use Rattle.stream.specs.Stream.{buffered}
use Rattle.console.proofs.answer_all.Given as goal

abbrev pub invariant-loop : goal.invariant-loop
invariant-loop l = buffered l.pending ≤ line_room
