-- Each number is of its parameter's type.
use Rattle.parameters.proofs.Laws.{holds_at}
use Rattle.calls.proofs.inner.sums.date_difference.Goals as goal

pub date-requires : goal.date-requires
date-requires c = holds_at 3 c.requires.numbers

pub date-requires-2 : goal.date-requires-2
date-requires-2 c = holds_at 3 c.requires.numbers

pub unit-requires : goal.unit-requires
unit-requires c = holds_at 1 c.requires.numbers
