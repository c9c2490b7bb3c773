-- Each number is of its parameter's type.
use Rattle.parameters.proofs.Laws.{holds_at}
use Rattle.calls.proofs.inner.times.round_time.Goals as goal

pub time-time-requires : goal.time-time-requires
time-time-requires c = holds_at 6 c.requires.numbers

pub unit-requires : goal.unit-requires
unit-requires c = holds_at 1 c.requires.numbers

pub number-requires : goal.number-requires
number-requires c = holds_at 1 c.requires.numbers

pub mode-requires : goal.mode-requires
mode-requires c = holds_at 1 c.requires.numbers
