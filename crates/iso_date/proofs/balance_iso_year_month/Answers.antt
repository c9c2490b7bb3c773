-- The balance of the naturals, given back.
use Rattle.std.proofs.Common.{rules, ◌≡◌, w32, to_z, of_z}
use mir.Facts.{to_z-of_z}
use Rattle.iso_date.proofs.Answers.{year_month_is}
use Rattle.iso_date.proofs.balance_iso_year_month.Goals as goal

pub returns : goal.returns
returns c =
    let y : to_z w32 (of_z w32 c.year_down.result) ≡ c.year_down.result = search rules in
    let b = rw (to_z-of_z c.ranges.year, to_z-of_z c.ranges.month) at c.balance-b.ensures in
    rw y (year_month_is _ _ _ _ _ b.0 b.1 c.year_down.ensures)
