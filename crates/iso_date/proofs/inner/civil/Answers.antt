-- The year that holds the day, the month that holds what is left, and the day that is left then: the date of the definition.
use Rattle.std.proofs.Common.{rules, ◌≡◌, w64, to_z, of_z}
use mir.Facts.{to_z-of_z}
use Rattle.whole.proofs.Edges.{lowered32}
use Rattle.iso_date.proofs.Years.{year_range}
use Rattle.iso_date.proofs.Dates.{civil_is}
use Rattle.iso_date.proofs.inner.civil.Goals as goal

pub overflow_cast-result : goal.overflow_cast-result
overflow_cast-result c =
    let y : to_z w64 (of_z w64 c.lower.result) ≡ c.lower.result = search rules in
    let r = year_range _ _ c.year_of-u.ensures c.requires in
    rw y (lowered32 _ _ _ c.lower.ensures r.0 r.1)

pub returns : goal.returns
returns c =
    let y : to_z w64 (of_z w64 c.lower.result) ≡ c.lower.result = search rules in
    let r = year_range _ _ c.year_of-u.ensures c.requires in
    rw (y, to_z-of_z (lowered32 _ _ _ c.lower.ensures r.0 r.1), c.days_before.ensures.0, c.year_start.ensures.0, c.is_leap-leap.ensures)
    (civil_is _ _ _ _ c.year_of-u.ensures c.lower.ensures (rw (c.year_start.ensures.0, c.is_leap-leap.ensures) at c.month_of-i.ensures))
