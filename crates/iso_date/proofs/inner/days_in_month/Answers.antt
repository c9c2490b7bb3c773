-- The leap year test of the year, and the table.
use Rattle.std.proofs.Common.{sym, ◌∙◌}
use mir.Facts.{to_z-of_z}
use Rattle.iso_date.proofs.Answers.{length_of_year, length_positive}
use Rattle.iso_date.proofs.inner.days_in_month.Goals as goal

pub returns : goal.returns
returns c =
    let e = c.month_days.ensures in
    let l = length_of_year _ _ _ _ _ (sym (to_z-of_z c.ranges.year) ∙ c.year_up.ensures.0) c.is_leap.ensures e.0 in
    (l, (rw l (length_positive c.args.year c.args.month c.requires.0 c.requires.1), e.1))
