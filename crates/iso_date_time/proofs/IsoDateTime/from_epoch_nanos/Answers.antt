-- The two tests are those of the rule, each 7, and past them the record is given.
use Rattle.std.proofs.Common.{sym, ◌∙◌}
use mir.Facts.{to_z-of_z}
use Rattle.iso_date_time.proofs.Instants.{no_instant, no_offset, instant_given}
use Rattle.iso_date_time.proofs.IsoDateTime.from_epoch_nanos.Goals as goal
use Rattle.iso_date_time.proofs.IsoDateTime.from_epoch_nanos.Goals.{then-not-is_instant-via-then-not-is_instant, then-not-is_instant-via-else-not-is_instant+then-not-is_offset}

pub returns-then-not-is_instant : goal.returns-then-not-is_instant
returns-then-not-is_instant c =
    let f = c.ranges in
    let e = rw (to_z-of_z f.day, to_z-of_z f.nanosecond) at c.is_instant.ensures in
    elim c.then-not-is_instant.branch [
      | then-not-is_instant-via-then-not-is_instant w ↦ no_instant _ _ _ (sym e ∙ w.if-not-is_instant.true)
      | then-not-is_instant-via-else-not-is_instant+then-not-is_offset w ↦
          no_offset _ _ _ (sym e ∙ w.if-not-is_instant.false) (sym (rw (to_z-of_z f.offset) at w.is_offset.ensures) ∙ w.if-not-is_offset.true)
    ]

pub returns : goal.returns
returns c =
    let f = c.ranges in
    let e = rw (to_z-of_z f.day, to_z-of_z f.nanosecond) at c.is_instant.ensures in
    let o = rw (to_z-of_z f.offset) at c.is_offset.ensures in
    instant_given _ _ _ _ (sym e ∙ c.if-not-is_instant.false) (sym o ∙ c.if-not-is_offset.false)
    (rw (to_z-of_z f.day, to_z-of_z f.nanosecond, to_z-of_z f.offset) at c.from_instant.ensures)
