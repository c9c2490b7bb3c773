-- A refused part is the sum's refusal: a regulated date is valid, so the limit test can refuse it by 2 alone; then the days are added.
use Rattle.std.proofs.Common.{rules, ◌≡◌, ◌∙◌, w64, to_z, of_z}
use Rattle.iso_date.proofs.Answers.{make_refused, make_out, make_within}
use Rattle.date_duration.proofs.Durations.{bounded}
use Rattle.date_math.proofs.Sums.{on_the_way, sum_refused, sum_is}
use Rattle.date_math.proofs.add_date_duration.Goals as goal

pub moved-regulated-requires : goal.moved-regulated-requires
moved-regulated-requires c =
    let d = c.args.duration in
    let b = bounded d (search rules) in
    let years : to_z w64 (of_z w64 d.years) ≡ d.years = search rules in
    let months : to_z w64 (of_z w64 d.months) ≡ d.months = search rules in
    (rw years b.years_low, rw months b.months_low)

pub returns-in_default : goal.returns-in_default
returns-in_default c =
    rw c.in_default.is
    (sum_refused _ _ _ _ c.in_ok-check_within_limits.ensures (search rules)
    (make_refused _ _ _ (on_the_way _ c.args.duration _ _ _ _ (search rules) (search rules) c.in_default.ensures)))

pub returns-in_default-within_limits : goal.returns-in_default-within_limits
returns-in_default-within_limits c =
    sum_refused _ _ _ _ c.in_ok-check_within_limits.ensures (search rules)
    (make_out _ _ _ _ (on_the_way _ c.args.duration _ _ _ _ (search rules) (search rules) c.in-Ok.ensures) c.in_default-within_limits.ensures)

pub add_days-requires : goal.add_days-requires
add_days-requires c =
    let d = c.args.duration in
    let b = bounded d (search rules) in
    let weeks : to_z w64 (of_z w64 d.weeks) ≡ d.weeks = search rules in
    let days : to_z w64 (of_z w64 d.days) ≡ d.days = search rules in
    (rw weeks b.weeks_low, rw days b.days_low)

pub returns : goal.returns
returns c =
    let d = c.args.duration in
    let weeks : to_z w64 (of_z w64 d.weeks) ≡ d.weeks = search rules in
    let days : to_z w64 (of_z w64 d.days) ≡ d.days = search rules in
    (rw (weeks, days, c.in-Ok-within_limits.ensures.0) at c.add_days.ensures) ∙
    sum_is _ _ _ _ c.in_ok-check_within_limits.ensures (search rules)
    (make_within _ _ _ (on_the_way _ c.args.duration _ _ _ _ (search rules) (search rules) c.in-Ok.ensures) c.in-Ok-within_limits.ensures.1)
