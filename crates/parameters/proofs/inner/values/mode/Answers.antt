-- `parameters::inner::values::mode` meets its contract.
use Rattle.std.proofs.Common.{refl, arith}
use Rattle.parameters.proofs.Laws.{wider, in_kind, small}
use Rattle.parameters.proofs.inner.values.mode.Goals as goal

pub number-requires : goal.number-requires
number-requires c = wider _ _ _ _ refl refl c.requires

pub bounds-number-number : goal.bounds-number-number
bounds-number-number c = let h = in_kind _ _ _ _ c.requires in omega (arith, small _ _ h.0 h.1)
