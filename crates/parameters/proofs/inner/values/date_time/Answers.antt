-- `parameters::inner::values::date_time` meets its contract.
use Rattle.std.proofs.Common.{arith}
use Rattle.parameters.proofs.Laws.{holds_first, holds_from, inside}
use Rattle.parameters.proofs.inner.values.date_time.Goals as goal

pub date-requires : goal.date-requires
date-requires c = holds_first 3 c.requires

pub overflow_add-i : goal.overflow_add-i
overflow_add-i c = let h = inside _ _ _ _ (holds_from 3 1 c.requires) in omega arith

pub time-requires : goal.time-requires
time-requires c = holds_from 3 6 c.requires
