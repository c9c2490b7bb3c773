-- The second date is moved to a day, and the time is what is then left, both of one direction; below the day the days join the time. The
-- candidates tried are those of the dates.
use Rattle.std.proofs.Common.{arith, ap}
use Rattle.date_math.specs.declared.DateDifference.{DateDifference}
use Rattle.iso_date_time.proofs.Moments.{limits_fine}
use Rattle.iso_date_time.proofs.Differences.{placed, dates_and_time, time_alone, dates_tried, none_tried, with_tries}
use Rattle.iso_date_time.proofs.inner.difference.Goals as goal

pub in_seconds-time-requires : goal.in_seconds-time-requires
in_seconds-time-requires c =
    let p = placed _ _ (limits_fine _ c.args.one.within) (limits_fine _ c.args.two.within) _ _ _ _ _ _ _ c.day_up-from.ensures.0 c.day_up.ensures.0
    c.nanoseconds.ensures.0 c.nanoseconds-2.ensures.0 c.adjusted-moved.ensures in
    (rw c.abs_diff.ensures p.near, c.adjusted-moved.ensures.small)

pub returns-then-rank : goal.returns-then-rank
returns-then-rank c =
    let p = placed _ _ (limits_fine _ c.args.one.within) (limits_fine _ c.args.two.within) _ _ _ _ _ _ _ c.day_up-from.ensures.0 c.day_up.ensures.0
    c.nanoseconds.ensures.0 c.nanoseconds-2.ensures.0 c.adjusted-moved.ensures in
    with_tries _ _ _ _ (time_alone _ _ c.args.unit _ _ _ _ p c.args.one.date.valid _ _ (omega arith) c.abs_diff.ensures c.in_seconds-time.ensures)
    (none_tried _ _ c.args.unit (omega arith))

pub dates_until-dates-requires : goal.dates_until-dates-requires
dates_until-dates-requires c =
    let p = placed _ _ (limits_fine _ c.args.one.within) (limits_fine _ c.args.two.within) _ _ _ _ _ _ _ c.day_up-from.ensures.0 c.day_up.ensures.0
    c.nanoseconds.ensures.0 c.nanoseconds-2.ensures.0 c.adjusted-moved.ensures in
    (p.day_low, omega (arith, p.day_high))

pub returns : goal.returns
returns c =
    let p = placed _ _ (limits_fine _ c.args.one.within) (limits_fine _ c.args.two.within) _ _ _ _ _ _ _ c.day_up-from.ensures.0 c.day_up.ensures.0
    c.nanoseconds.ensures.0 c.nanoseconds-2.ensures.0 c.adjusted-moved.ensures in
    with_tries _ _ _ _
    (dates_and_time _ _ c.args.unit _ _ _ _ p _ _ (omega arith) (ap (λ (x : DateDifference). x.duration) c.dates_until-dates.ensures) c.in_seconds.ensures)
    (dates_tried _ _ c.args.unit _ _ _ _ p _ (omega arith) (ap (λ (x : DateDifference). x.tries) c.dates_until-dates.ensures))
