-- Each number is of its parameter's type.
use Rattle.parameters.proofs.Laws.{holds_at}
use Rattle.calls.proofs.inner.durations.duration_adjust.Goals as goal

pub duration-duration-requires : goal.duration-duration-requires
duration-duration-requires c = holds_at 4 c.requires.numbers

pub number-requires : goal.number-requires
number-requires c = holds_at 1 c.requires.numbers

pub part-requires : goal.part-requires
part-requires c = holds_at 2 c.requires.numbers

pub part-requires-2 : goal.part-requires-2
part-requires-2 c = holds_at 2 c.requires.numbers
