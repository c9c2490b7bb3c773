-- What the calls on dates with a time answer, for every input: the checks in their order with their numbers, then the steps. A record
-- outside its limits is 3, also where its date alone lies outside the date limits.
use Rattle.std.specs.Prelude.{ℕ, Bool, ◌&&◌, ltb, ℤ, pos, neg_ℤ, nat_abs, ◌+ℤ◌, ◌-ℤ◌, ◌*ℤ◌}
use Rattle.std.specs.Int.Signed.{le_z, lt_z}
use Rattle.options.specs.Units.{ns_per_day}
use Rattle.refusal.specs.Answer.{Answer, given, check, and_then}
use Rattle.iso_date.specs.Proposal.{iso_date_to_epoch_days, is_valid_iso_date}
use Rattle.iso_date.specs.Paper.{balanced}
use Rattle.iso_time.specs.Proposal.{is_valid_time, balance_time, valid_increment}
use Rattle.iso_time.specs.Paper.{all_bounded, is_rounding_unit}
use Rattle.rounding.specs.declared.RoundingMode.{RoundingMode}
use Rattle.date_math.specs.Tries.{calendar_date_tries}
use Rattle.options.specs.declared.Unit.{Unit as TemporalUnit}
use Rattle.iso_date_time.specs.Proposal.{iso_date_time_within_limits, balance_iso_date_time, round_iso_date_time, difference_iso_date_time}
use Rattle.iso_date_time.specs.Proposal.{moved_date, at_least_day, get_iso_parts_from_epoch, with_offset}
use Rattle.iso_date_time.specs.declared.IsoDateTime.{IsoDateTime}
use Rattle.iso_date_time.specs.declared.DateTimeDifference.{DateTimeDifference}

-- ---- dates with a time

-- a record: the fields of its date, those of its time, its limits
unfoldable pub date_time_limits : IsoDateTime → Answer (Unit {0})
date_time_limits r =
    check (is_valid_iso_date r.date) 1 (check (is_valid_time r.time) 1 (check (iso_date_time_within_limits r) 3 (given tt)))

-- the bound of the fields (7), then the exact sum of count, day and carry (4); the limits are not tested
unfoldable pub balance_date_time : ℤ → ℤ → ℤ → ℤ → ℤ → ℤ → ℤ → ℤ → ℤ → Answer IsoDateTime
balance_date_time year month day hour minute second millisecond microsecond nanosecond =
    let carry : ℤ = (balance_time hour minute second millisecond microsecond nanosecond).days in
    check (all_bounded hour minute second millisecond microsecond nanosecond) 7
    (check (balanced (iso_date_to_epoch_days year (month -ℤ pos 1) (day +ℤ carry))) 4
    (given (balance_iso_date_time year month day hour minute second millisecond microsecond nanosecond)))

-- the record, the unit (5), the increment (6); then the limits of what comes out (3)
unfoldable pub round_date_time : IsoDateTime → TemporalUnit → ℕ → RoundingMode → Answer IsoDateTime
round_date_time r unit inc mode =
    and_then (date_time_limits r) (λ _.
    check (is_rounding_unit unit) 5 (check (valid_increment unit inc) 6
    (check (iso_date_time_within_limits (round_iso_date_time r inc unit mode)) 3
    (given (round_iso_date_time r inc unit mode)))))

-- how many candidates were tried: for the dates, the second as it was moved
unfoldable pub difference_tries : IsoDateTime → IsoDateTime → TemporalUnit → ℕ
difference_tries one two unit = calendar_date_tries one.date (moved_date one two) (at_least_day unit)

abbrev pub difference_of_records : IsoDateTime → IsoDateTime → TemporalUnit → DateTimeDifference
difference_of_records one two unit = record { duration = difference_iso_date_time one two unit; tries = difference_tries one two unit }

-- every unit is usable
unfoldable pub date_time_difference : IsoDateTime → IsoDateTime → TemporalUnit → Answer DateTimeDifference
date_time_difference one two unit =
    and_then (date_time_limits one) (λ _. and_then (date_time_limits two) (λ _. given (difference_of_records one two unit)))

-- an instant: a day and a nanosecond of the day, at most 10^8 days from the epoch
unfoldable pub is_instant : ℤ → ℤ → Bool
is_instant day ns =
    (le_z (pos 0) ns && lt_z ns (pos ns_per_day)) &&
    (le_z (neg_ℤ (pos 100_000_000)) day && le_z (pos ns_per_day *ℤ day +ℤ ns) (pos ns_per_day *ℤ pos 100_000_000))

-- an offset is below one day in size
unfoldable pub is_offset : ℤ → Bool
is_offset offset = ltb (nat_abs offset) ns_per_day

unfoldable pub from_instant : ℤ → ℤ → ℤ → Answer IsoDateTime
from_instant day ns offset = check (is_instant day ns && is_offset offset) 7 (given (with_offset (get_iso_parts_from_epoch day (nat_abs ns)) offset))
