-- `parameters::inner::number` meets its contract.
use Rattle.std.proofs.Common.{rules}
use Rattle.std.proofs.lemmas.Int.{to_z-of_z}
use mir.Syntax.{w128}
use mir.Val.{SFits}
use Rattle.parameters.specs.Meaning.{at}
use Rattle.parameters.proofs.Laws.{inside, in_kind}
use Rattle.parameters.proofs.inner.number.Goals as goal

pub offset_bounds-n-i : goal.offset_bounds-n-i
offset_bounds-n-i g c = let h = inside _ _ _ _ c.requires in search rules

pub bounds-n-i : goal.bounds-n-i
bounds-n-i g c = inside _ _ _ _ c.requires

pub of-requires : goal.of-requires
of-requires g c =
    let fits : SFits w128 (at c.args.n.now c.args.i) = search rules in
    let h = in_kind _ _ _ _ c.requires in
    simp (to_z-of_z, fits) h
