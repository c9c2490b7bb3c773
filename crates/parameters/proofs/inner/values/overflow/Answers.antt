-- `parameters::inner::values::overflow` meets its contract.
use Rattle.std.proofs.Common.{refl}
use Rattle.parameters.proofs.Laws.{wider}
use Rattle.parameters.proofs.inner.values.overflow.Goals as goal

pub number-requires : goal.number-requires
number-requires c = wider _ _ _ _ refl refl c.requires
