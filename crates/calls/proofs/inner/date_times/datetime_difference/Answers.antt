-- Each number is of its parameter's type.
use Rattle.parameters.proofs.Laws.{holds_at}
use Rattle.calls.proofs.inner.date_times.datetime_difference.Goals as goal

pub date_time-one-requires : goal.date_time-one-requires
date_time-one-requires c = holds_at 9 c.requires.numbers

pub date_time-requires : goal.date_time-requires
date_time-requires c = holds_at 9 c.requires.numbers

pub unit-requires : goal.unit-requires
unit-requires c = holds_at 1 c.requires.numbers
