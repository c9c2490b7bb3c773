-- The duration is checked first, then what comes out of it.
use Rattle.std.proofs.Common.{rules, ◌≡◌, ◌∙◌, w64, to_z, of_z}
use Rattle.date_duration.proofs.Durations.{adjust_given}
use Rattle.date_duration.proofs.DateDuration.adjust.Goals as goal

pub returns : goal.returns
returns c =
    let x = c.in_ok-valid.valid in
    let days : to_z w64 (of_z w64 c.args.days) ≡ c.args.days = search rules in
    let years : to_z w64 (of_z w64 x.years) ≡ x.years = search rules in
    let months : to_z w64 (of_z w64 x.months) ≡ x.months = search rules in
    let weeks : to_z w64 (of_z w64 x.weeks) ≡ x.weeks = search rules in
    let given_months : to_z w64 (of_z w64 c.unwrap_or.result) ≡ c.unwrap_or.result = search rules in
    let given_weeks : to_z w64 (of_z w64 c.unwrap_or-2.result) ≡ c.unwrap_or-2.result = search rules in
    let new = rw (given_months, given_weeks, c.unwrap_or.ensures, c.unwrap_or-2.ensures) at c.new.ensures in
    (rw (years, months, weeks, days) at new) ∙ adjust_given _ _ c.in_ok-valid.ensures _ _ _
