-- What the contracts inside speak of: a time that was checked, the scale of a unit, and numbers as naturals. No public contract cites this.
use Rattle.std.specs.Prelude.{ℕ, ◌≤◌, ◌≡◌, Bool, true, cond, eqb, Option, None, Some, ℤ, pos, nat_abs, ◌+ℤ◌, ◌*ℤ◌}
use Rattle.options.specs.Units.{ns_per_day}
use Rattle.options.specs.declared.Unit.{Unit as TemporalUnit}
use Rattle.options.specs.declared.Unit.TheVariants as U
use Rattle.refusal.specs.Answer.{Answer, given, check}
use Rattle.iso_time.specs.Proposal.{nanoseconds, is_valid_time, unit_length, validate_temporal_rounding_increment}
use Rattle.iso_time.specs.declared.IsoTime.{IsoTime}
use Rattle.iso_time.specs.declared.inner.Scale.{Scale}
use Rattle.iso_time.specs.declared.BalancedTime.{BalancedTime}

-- a time that is checked: its fields (1)
unfoldable pub checked_time : IsoTime → Answer IsoTime
checked_time t = check (is_valid_time t) 1 (given t)

-- what a field to be balanced is raised by: more than its bound, and divided by every divisor on the way up
abbrev pub field_bias : ℕ
field_bias = 10_800_000_000_000_000

-- a field to be balanced is within its bound, and so are all six
abbrev pub Within : ℤ → Type 0
Within z = nat_abs z ≤ 9_007_199_254_740_991

abbrev pub AllWithin : ℤ → ℤ → ℤ → ℤ → ℤ → ℤ → Type 0
AllWithin h m s ms us ns = Within h × (Within m × (Within s × (Within ms × (Within us × Within ns))))

-- days and a valid time that make n nanoseconds
pub record Carried (n : ℕ) (b : BalancedTime) : Type 0 where
  pub exactly : pos ns_per_day *ℤ b.days +ℤ pos (nanoseconds b.time) ≡ pos n
  pub valid : is_valid_time b.time ≡ true

-- how many of a unit make the next; for day 1, and 0 for those that a time is not rounded to
unfoldable pub dividend : TemporalUnit → ℕ
dividend U.Year = 0
dividend U.Month = 0
dividend U.Week = 0
dividend U.Day = 1
dividend U.Hour = 24
dividend U.Minute = 60
dividend U.Second = 60
dividend U.Millisecond = 1000
dividend U.Microsecond = 1000
dividend U.Nanosecond = 1000

-- a unit's length and dividend, and the same for those alone that a time is rounded to
abbrev pub row_of : TemporalUnit → Scale
row_of unit = record { length = unit_length unit; dividend = dividend unit }

unfoldable pub scale_of : TemporalUnit → Option Scale
scale_of unit = cond (eqb (unit_length unit) 0) None (Some (row_of unit))

-- the increments that are allowed at a unit of such a scale: at day 1 alone
unfoldable pub allowed : Scale → ℕ → Bool
allowed s inc = cond (eqb s.dividend 1) (eqb inc 1) (validate_temporal_rounding_increment inc s.dividend)
