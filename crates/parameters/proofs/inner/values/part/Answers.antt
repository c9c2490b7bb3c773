-- `parameters::inner::values::part` meets its contract.
use Rattle.std.proofs.Common.{refl}
use Rattle.parameters.proofs.Laws.{wider, holds_first, holds_from}
use Rattle.parameters.proofs.inner.values.part.Goals as goal

pub number-requires : goal.number-requires
number-requires c = wider _ _ _ _ refl refl (holds_first 1 c.requires)

pub number-requires-2 : goal.number-requires-2
number-requires-2 c = holds_from 1 1 c.requires
