-- `parameters::inner::values::date` meets its contract.
use Rattle.std.proofs.Common.{arith}
use Rattle.parameters.proofs.Laws.{holds_first, holds_from, inside}
use Rattle.parameters.proofs.inner.values.date.Goals as goal

pub number-requires : goal.number-requires
number-requires c = holds_first 1 c.requires

pub overflow_add-i : goal.overflow_add-i
overflow_add-i c = let h = inside _ _ _ _ (holds_from 1 1 c.requires) in omega arith

pub number-requires-2 : goal.number-requires-2
number-requires-2 c = holds_from 1 1 c.requires

pub overflow_add-i-2 : goal.overflow_add-i-2
overflow_add-i-2 c = let h = inside _ _ _ _ (holds_from 2 1 c.requires) in omega arith

pub number-requires-3 : goal.number-requires-3
number-requires-3 c = holds_from 2 1 c.requires
