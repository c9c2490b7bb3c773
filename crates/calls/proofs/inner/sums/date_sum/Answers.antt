-- Each number is of its parameter's type.
use Rattle.parameters.proofs.Laws.{holds_at}
use Rattle.calls.proofs.inner.sums.date_sum.Goals as goal

pub date-requires : goal.date-requires
date-requires c = holds_at 3 c.requires.numbers

pub duration-requires : goal.duration-requires
duration-requires c = holds_at 4 c.requires.numbers

pub overflow-requires : goal.overflow-requires
overflow-requires c = holds_at 1 c.requires.numbers
