-- `parameters::inner::values::time` meets its contract.
use Rattle.std.proofs.Common.{arith}
use Rattle.parameters.proofs.Laws.{holds_first, holds_from, inside}
use Rattle.parameters.proofs.inner.values.time.Goals as goal

pub number-requires : goal.number-requires
number-requires c = holds_first 1 c.requires

pub overflow_add-i : goal.overflow_add-i
overflow_add-i c = let h = inside _ _ _ _ (holds_from 1 1 c.requires) in omega arith

pub number-requires-2 : goal.number-requires-2
number-requires-2 c = holds_from 1 1 c.requires

pub overflow_add-i-2 : goal.overflow_add-i-2
overflow_add-i-2 c = let h = inside _ _ _ _ (holds_from 2 1 c.requires) in omega arith

pub number-requires-3 : goal.number-requires-3
number-requires-3 c = holds_from 2 1 c.requires

pub overflow_add-i-3 : goal.overflow_add-i-3
overflow_add-i-3 c = let h = inside _ _ _ _ (holds_from 3 1 c.requires) in omega arith

pub number-requires-4 : goal.number-requires-4
number-requires-4 c = holds_from 3 1 c.requires

pub overflow_add-i-4 : goal.overflow_add-i-4
overflow_add-i-4 c = let h = inside _ _ _ _ (holds_from 4 1 c.requires) in omega arith

pub number-requires-5 : goal.number-requires-5
number-requires-5 c = holds_from 4 1 c.requires

pub overflow_add-i-5 : goal.overflow_add-i-5
overflow_add-i-5 c = let h = inside _ _ _ _ (holds_from 5 1 c.requires) in omega arith

pub number-requires-6 : goal.number-requires-6
number-requires-6 c = holds_from 5 1 c.requires
