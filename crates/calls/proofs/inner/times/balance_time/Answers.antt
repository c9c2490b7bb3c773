-- Each number is of its parameter's type.
use Rattle.parameters.proofs.Laws.{holds_at}
use Rattle.calls.proofs.inner.times.balance_time.Goals as goal

pub number-requires : goal.number-requires
number-requires c = holds_at 1 c.requires.numbers

pub number-requires-2 : goal.number-requires-2
number-requires-2 c = holds_at 1 c.requires.numbers

pub number-requires-3 : goal.number-requires-3
number-requires-3 c = holds_at 1 c.requires.numbers

pub number-requires-4 : goal.number-requires-4
number-requires-4 c = holds_at 1 c.requires.numbers

pub number-requires-5 : goal.number-requires-5
number-requires-5 c = holds_at 1 c.requires.numbers

pub number-requires-6 : goal.number-requires-6
number-requires-6 c = holds_at 1 c.requires.numbers
