-- Each number is of its parameter's type.
use Rattle.parameters.proofs.Laws.{holds_at}
use Rattle.calls.proofs.inner.dates.make_date.Goals as goal

pub date-date-requires : goal.date-date-requires
date-date-requires c = holds_at 3 c.requires.numbers

pub overflow-requires : goal.overflow-requires
overflow-requires c = holds_at 1 c.requires.numbers
