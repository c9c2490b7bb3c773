-- The steps of the TC39 Temporal proposal on dates with a time, under their names and in their order. All numbers are whole numbers of
-- any size, so that the nanoseconds between two records are exact.
use Rattle.std.specs.Prelude.{ℕ, Bool, true, false, cond, ◌&&◌, ◌||◌, leb, ℤ, pos, neg_ℤ, ◌+ℤ◌, ◌-ℤ◌, ◌*ℤ◌}
use Rattle.std.specs.Int.Signed.{lt_z}
use Rattle.iso_date.specs.Proposal.{epoch_days, epoch_days_to_iso_date, iso_date_to_epoch_days, moment_within_limits}
use Rattle.iso_date.specs.declared.IsoDate.{IsoDate}
use Rattle.iso_time.specs.Proposal.{balance_time, nanoseconds, nanoseconds_until, in_seconds, round_time}
use Rattle.iso_time.specs.declared.IsoTime.{IsoTime}
use Rattle.iso_time.specs.declared.BalancedTime.{BalancedTime}
use Rattle.rounding.specs.declared.RoundingMode.{RoundingMode}
use Rattle.date_duration.specs.Proposal.{duration}
use Rattle.date_duration.specs.declared.DateDuration.{DateDuration}
use Rattle.date_math.specs.Proposal.{add_days_to_iso_date, is_later, calendar_date_until}
use Rattle.options.specs.declared.Unit.{Unit as TemporalUnit}
use Rattle.options.specs.declared.Unit.TheVariants as U
use Rattle.options.specs.Units.{unit_rank, ns_per_day}
use Rattle.iso_date_time.specs.declared.IsoDateTime.{IsoDateTime}
use Rattle.iso_date_time.specs.declared.InternalDurationRecord.{InternalDurationRecord}

abbrev pub date_time : IsoDate → IsoTime → IsoDateTime
date_time d t = record { date = d; time = t }

-- the exact nanoseconds since the epoch
unfoldable pub epoch_nanoseconds : IsoDateTime → ℤ
epoch_nanoseconds r = pos ns_per_day *ℤ epoch_days r.date +ℤ pos (nanoseconds r.time)

-- ISODateTimeWithinLimits: strictly between the two moments
abbrev pub iso_date_time_within_limits : IsoDateTime → Bool
iso_date_time_within_limits r = moment_within_limits (epoch_days r.date) (nanoseconds r.time)

-- BalanceISODateTime: the time's carry joins the day, and the date is that of the exact count
unfoldable pub balance_iso_date_time : ℤ → ℤ → ℤ → ℤ → ℤ → ℤ → ℤ → ℤ → ℤ → IsoDateTime
balance_iso_date_time year month day hour minute second millisecond microsecond nanosecond =
    let b : BalancedTime = balance_time hour minute second millisecond microsecond nanosecond in
    date_time (epoch_days_to_iso_date (iso_date_to_epoch_days year (month -ℤ pos 1) (day +ℤ b.days))) b.time

-- RoundISODateTime: RoundTime of the time, and its days added to the date
unfoldable pub round_iso_date_time : IsoDateTime → ℕ → TemporalUnit → RoundingMode → IsoDateTime
round_iso_date_time r inc unit mode =
    let b : BalancedTime = round_time r.time inc unit mode in
    date_time (add_days_to_iso_date r.date b.days) b.time

-- the sign of a number
abbrev pub sign_of : ℤ → ℤ
sign_of z = cond (lt_z z (pos 0)) (neg_ℤ (pos 1)) (cond (lt_z (pos 0) z) (pos 1) (pos 0))

-- CompareISODate: the sign of one date against another
abbrev pub compare_iso_date : IsoDate → IsoDate → ℤ
compare_iso_date a b = cond (is_later a b) (pos 1) (cond (is_later b a) (neg_ℤ (pos 1)) (pos 0))

-- whether two numbers have opposed signs
abbrev pub opposed : ℤ → ℤ → Bool
opposed s t = (lt_z s (pos 0) && lt_z (pos 0) t) || (lt_z (pos 0) s && lt_z t (pos 0))

-- the days added to two's date: one, in the direction of the time difference, where that is opposed to the sign of the dates
unfoldable pub moved_days : IsoDateTime → IsoDateTime → ℤ
moved_days one two =
    let span : ℤ = nanoseconds_until one.time two.time in
    cond (opposed span (compare_iso_date two.date one.date)) (sign_of span) (pos 0)

-- two's date, moved
abbrev pub moved_date : IsoDateTime → IsoDateTime → IsoDate
moved_date one two = add_days_to_iso_date two.date (moved_days one two)

-- the time difference, with those days moved the other way
abbrev pub time_left : IsoDateTime → IsoDateTime → ℤ
time_left one two = nanoseconds_until one.time two.time -ℤ pos ns_per_day *ℤ moved_days one two

-- the larger of day and a unit
abbrev pub at_least_day : TemporalUnit → TemporalUnit
at_least_day unit = cond (leb (unit_rank unit) 3) unit U.Day

abbrev pub below_day : TemporalUnit → Bool
below_day unit = leb 4 (unit_rank unit)

-- below day the days of the dates' difference join the time; the time is given as whole seconds and nanoseconds, cut towards zero
abbrev pub joined : Bool → DateDuration → ℤ → InternalDurationRecord
joined true d ns =
    record { date = duration d.years d.months d.weeks (pos 0); time = in_seconds (ns +ℤ pos ns_per_day *ℤ d.days) }
joined false d ns = record { date = d; time = in_seconds ns }

-- DifferenceISODateTime(one, two, largest unit): the difference of the dates under the larger of day and the unit, two's date moved,
-- and the time that is left
unfoldable pub difference_iso_date_time : IsoDateTime → IsoDateTime → TemporalUnit → InternalDurationRecord
difference_iso_date_time one two unit =
    joined (below_day unit)
    (calendar_date_until one.date (moved_date one two) (at_least_day unit)) (time_left one two)

-- GetISOPartsFromEpoch: the date of a day number and the time that lies so many nanoseconds after its midnight
unfoldable pub get_iso_parts_from_epoch : ℤ → ℕ → IsoDateTime
get_iso_parts_from_epoch day ns =
    date_time (epoch_days_to_iso_date day) (balance_time (pos 0) (pos 0) (pos 0) (pos 0) (pos 0) (pos ns)).time

-- with an offset, which is added to the nanoseconds
abbrev pub with_offset : IsoDateTime → ℤ → IsoDateTime
with_offset r offset =
    balance_iso_date_time r.date.year (pos r.date.month) (pos r.date.day) (pos r.time.hour) (pos r.time.minute) (pos r.time.second)
    (pos r.time.millisecond) (pos r.time.microsecond) (pos r.time.nanosecond +ℤ offset)
