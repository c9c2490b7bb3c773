-- A number raised by the bias.
use Rattle.std.proofs.Common.{◌^◌, w64}
use mir.Facts.{to_z-of_z, to_z_pos}
use Rattle.whole.proofs.Edges.{raised_low, raised_is, raised_fits, raised_top, as_nat}
use Rattle.whole.proofs.inner.raise.Goals as goal

pub overflow_add-result : goal.overflow_add-result
overflow_add-result c =
    let r = c.requires in rw (to_z-of_z c.ranges.x, to_z_pos w64 r.0) (raised_fits _ _ r.1.0 r.1.1)

pub overflow_cast-result-2 : goal.overflow_cast-result-2
overflow_cast-result-2 c =
    let r = c.requires in
    let fits = raised_fits _ _ r.1.0 r.1.1 in
    rw (to_z-of_z c.ranges.x, to_z_pos w64 r.0, to_z-of_z fits) (as_nat _ (raised_low _ _ r.1.0) fits)

pub returns : goal.returns
returns c =
    let r = c.requires in
    rw (to_z-of_z c.ranges.x, to_z_pos w64 r.0, to_z-of_z (raised_fits _ _ r.1.0 r.1.1))
    (raised_is _ _ r.1.0, raised_top _ _ r.1.0 (2 ^ 63) r.1.1)
