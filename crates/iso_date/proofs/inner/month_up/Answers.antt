-- Every month of 32 bits has room.
use Rattle.std.proofs.Common.{rules, ◌≡◌, w64, to_z, of_z, arith}
use mir.Facts.{to_z-of_z}
use Rattle.whole.proofs.Edges.{raise_room32}
use Rattle.iso_date.proofs.inner.month_up.Goals as goal

pub raise-requires : goal.raise-requires
raise-requires c =
    let m : to_z w64 (of_z w64 c.from.result) ≡ c.from.result = search rules in
    rw (m, c.from.ensures, to_z-of_z c.ranges.month) (raise_room32 _ _ c.ranges.month (omega arith) (omega arith))
