-- Each number is of its parameter's type.
use Rattle.parameters.proofs.Laws.{holds_at}
use Rattle.calls.proofs.inner.date_times.round_datetime.Goals as goal

pub date_time-record-requires : goal.date_time-record-requires
date_time-record-requires c = holds_at 9 c.requires.numbers

pub unit-requires : goal.unit-requires
unit-requires c = holds_at 1 c.requires.numbers

pub number-requires : goal.number-requires
number-requires c = holds_at 1 c.requires.numbers

pub mode-requires : goal.mode-requires
mode-requires c = holds_at 1 c.requires.numbers
