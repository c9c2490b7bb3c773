-- The sum has room in 64 bits, so it is the exact count.
use Rattle.std.proofs.Common.{rules, ◌≡◌, w64, to_z, of_z}
use mir.Facts.{to_z-of_z}
use Rattle.iso_date.proofs.Answers.{weeks_fit, days_fit, moved_fits}
use Rattle.iso_date.proofs.inner.valid.ValidDate.add_days.Goals as goal

pub returns : goal.returns
returns c =
    let n = c.epoch_days.result in
    let back : to_z w64 (of_z w64 n) ≡ n = search rules in
    rw (
      to_z-of_z c.ranges.weeks,
      to_z-of_z c.ranges.days,
      to_z-of_z (weeks_fit c.args.weeks c.args.days c.requires),
      to_z-of_z (days_fit c.args.weeks c.args.days c.requires),
      back,
      to_z-of_z (moved_fits c.args.weeks c.args.days c.requires n c.epoch_days.ensures.1),
      c.epoch_days.ensures.0,
    ) at
    c.from_epoch_days.ensures
