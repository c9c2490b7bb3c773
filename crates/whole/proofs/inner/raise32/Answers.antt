-- A number of 32 bits raised by the bias: 64 bits hold it as it is.
use Rattle.std.proofs.Common.{w64}
use mir.Val.{SFits}
use mir.Facts.{to_z-of_z, sfits_widen}
use Rattle.whole.proofs.Edges.{raise_room32}
use Rattle.whole.proofs.inner.raise32.Goals as goal

pub raise-requires : goal.raise-requires
raise-requires c =
    let wide : SFits w64 c.args.y = sfits_widen tt c.ranges.y in
    rw (c.from.ensures, to_z-of_z c.ranges.y, to_z-of_z wide) (raise_room32 _ _ c.ranges.y c.requires.0 c.requires.1)
