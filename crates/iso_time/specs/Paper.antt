-- What the calls on times answer, for every input: the checks in their order with their numbers, then the answer.
use Rattle.std.specs.Prelude.{ℕ, Bool, ◌&&◌, leb, ℤ, nat_abs}
use Rattle.refusal.specs.Answer.{Answer, given, check}
use Rattle.options.specs.declared.Overflow.{Overflow}
use Rattle.options.specs.declared.Overflow.TheVariants.{Constrain, Reject}
use Rattle.options.specs.declared.Unit.{Unit as TemporalUnit}
use Rattle.options.specs.Units.{unit_rank}
use Rattle.rounding.specs.declared.RoundingMode.{RoundingMode}
use Rattle.iso_time.specs.Proposal.{is_valid_time, constrain_time, balance_time, difference_time, round_time, valid_increment}
use Rattle.iso_time.specs.declared.IsoTime.{IsoTime}
use Rattle.iso_time.specs.declared.BalancedTime.{BalancedTime}
use Rattle.iso_time.specs.declared.TimeDuration.{TimeDuration}

-- ---- time records

unfoldable pub regulate_time : IsoTime → Overflow → Answer IsoTime
regulate_time t Constrain = given (constrain_time t)
regulate_time t Reject = check (is_valid_time t) 1 (given t)

-- a field to be balanced is at most 9,007,199,254,740,991 in size
abbrev pub bounded : ℤ → Bool
bounded z = leb (nat_abs z) 9_007_199_254_740_991

unfoldable pub all_bounded : ℤ → ℤ → ℤ → ℤ → ℤ → ℤ → Bool
all_bounded h m s ms us ns = bounded h && (bounded m && (bounded s && (bounded ms && (bounded us && bounded ns))))

unfoldable pub balance_time_fields : ℤ → ℤ → ℤ → ℤ → ℤ → ℤ → Answer BalancedTime
balance_time_fields h m s ms us ns = check (all_bounded h m s ms us ns) 7 (given (balance_time h m s ms us ns))

unfoldable pub time_difference : IsoTime → IsoTime → Answer TimeDuration
time_difference one two = check (is_valid_time one) 1 (check (is_valid_time two) 1 (given (difference_time one two)))

-- ---- time rounding

-- the units that a time can be rounded to: day to nanosecond
abbrev pub is_rounding_unit : TemporalUnit → Bool
is_rounding_unit unit = leb 3 (unit_rank unit)

-- the fields (1), the unit (5), the increment (6)
unfoldable pub rounded_time : IsoTime → TemporalUnit → ℕ → RoundingMode → Answer BalancedTime
rounded_time t unit inc mode =
    check (is_valid_time t) 1 (check (is_rounding_unit unit) 5 (check (valid_increment unit inc) 6 (given (round_time t inc unit mode))))
