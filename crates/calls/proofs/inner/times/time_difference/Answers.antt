-- Each number is of its parameter's type.
use Rattle.parameters.proofs.Laws.{holds_at}
use Rattle.calls.proofs.inner.times.time_difference.Goals as goal

pub time-one-requires : goal.time-one-requires
time-one-requires c = holds_at 6 c.requires.numbers

pub time-requires : goal.time-requires
time-requires c = holds_at 6 c.requires.numbers
