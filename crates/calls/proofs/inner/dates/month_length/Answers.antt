-- Each number is of its parameter's type.
use Rattle.parameters.proofs.Laws.{holds_at}
use Rattle.calls.proofs.inner.dates.month_length.Goals as goal

pub number-requires : goal.number-requires
number-requires c = holds_at 1 c.requires.numbers

pub number-requires-2 : goal.number-requires-2
number-requires-2 c = holds_at 1 c.requires.numbers
