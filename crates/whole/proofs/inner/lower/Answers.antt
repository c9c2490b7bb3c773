-- A natural lowered by the bias again.
use Rattle.std.proofs.Common.{w64}
use mir.Facts.{to_z-of_z, to_z_pos}
use Rattle.whole.proofs.Edges.{lowered_is, lowered_fits}
use Rattle.whole.proofs.inner.lower.Goals as goal

pub returns : goal.returns
returns c =
    let r = c.requires in
    rw (to_z_pos w64 r.0, to_z_pos w64 r.1, to_z-of_z (lowered_fits _ _ r.0 r.1)) (lowered_is _ _)
