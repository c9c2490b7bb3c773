-- What the sum and the difference of dates answer, for every input: the checks in their order with their numbers, then the steps.
use Rattle.std.specs.Prelude.{◌^◌, ◌-◌, Bool, leb, pos, neg_ℤ, ◌+ℤ◌, ◌*ℤ◌}
use Rattle.refusal.specs.Answer.{Answer, given, check, and_then}
use Rattle.whole.specs.Whole.{clamp_z}
use Rattle.iso_date.specs.Proposal.{date, epoch_days}
use Rattle.iso_date.specs.Paper.{date_limits, make_date, day_to_date}
use Rattle.iso_date.specs.declared.IsoDate.{IsoDate}
use Rattle.date_duration.specs.Proposal.{is_valid_duration}
use Rattle.date_duration.specs.declared.DateDuration.{DateDuration}
use Rattle.options.specs.declared.Overflow.{Overflow}
use Rattle.options.specs.declared.Unit.{Unit as TemporalUnit}
use Rattle.options.specs.Units.{unit_rank}
use Rattle.date_math.specs.Proposal.{moved_by, calendar_date_until}
use Rattle.date_math.specs.Tries.{calendar_date_tries}
use Rattle.date_math.specs.declared.DateDifference.{DateDifference}

-- ---- the sum

-- a date whose year is clamped to 32 bits
abbrev pub clamped_year : IsoDate → IsoDate
clamped_year d = date (clamp_z d.year (neg_ℤ (pos (2 ^ 31))) (pos (2 ^ 31 - 1))) d.month d.day

-- moved by years and months, the year clamped; made a date on the way, which regulates (1) and tests the limits (2); then days and
-- seven times the weeks are added, and the count is balanced (4)
unfoldable pub sum_steps : IsoDate → DateDuration → Overflow → Answer IsoDate
sum_steps d t overflow =
    and_then (make_date (clamped_year (moved_by d t.years t.months)) overflow) (λ start.
    day_to_date (epoch_days start +ℤ (t.days +ℤ pos 7 *ℤ t.weeks)))

unfoldable pub date_sum : IsoDate → DateDuration → Overflow → Answer IsoDate
date_sum d t overflow = and_then (date_limits d) (λ _. check (is_valid_duration t) 8 (sum_steps d t overflow))

-- ---- the difference

-- the units that dates can be counted in: year, month, week, day
abbrev pub is_date_unit : TemporalUnit → Bool
is_date_unit unit = leb (unit_rank unit) 3

-- the duration, and beside it how many candidates were tried
abbrev pub difference_of_dates : IsoDate → IsoDate → TemporalUnit → DateDifference
difference_of_dates one two unit = record { duration = calendar_date_until one two unit; tries = calendar_date_tries one two unit }

unfoldable pub date_difference : IsoDate → IsoDate → TemporalUnit → Answer DateDifference
date_difference one two unit =
    and_then (date_limits one) (λ _. and_then (date_limits two) (λ _. check (is_date_unit unit) 5 (given (difference_of_dates one two unit))))
