-- Each number is of its parameter's type.
use Rattle.parameters.proofs.Laws.{holds_at}
use Rattle.calls.proofs.inner.times.regulate_time.Goals as goal

pub time-time-requires : goal.time-time-requires
time-time-requires c = holds_at 6 c.requires.numbers

pub overflow-requires : goal.overflow-requires
overflow-requires c = holds_at 1 c.requires.numbers
