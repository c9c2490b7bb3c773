-- The words of the theorems on dates with a time (proofs/Theorems.antt): what a reader of them must believe beside the definitions of
-- the calls.
use Rattle.std.specs.Prelude.{Bool, ℤ, pos, ◌+ℤ◌, ◌*ℤ◌}
use Rattle.options.specs.Units.{ns_per_day}
use Rattle.iso_time.specs.Claims.{nanoseconds_of, Along}
use Rattle.iso_date_time.specs.declared.InternalDurationRecord.{InternalDurationRecord}

-- the exact nanoseconds of a difference's days and time
abbrev pub exactly : InternalDurationRecord → ℤ
exactly r = pos ns_per_day *ℤ r.date.days +ℤ nanoseconds_of r.time

-- no two parts have opposed signs: none points against the one direction
pub record OneWay (r : InternalDurationRecord) : Type 0 where
  pub forward : Bool
  pub years_along : Along forward r.date.years
  pub months_along : Along forward r.date.months
  pub weeks_along : Along forward r.date.weeks
  pub days_along : Along forward r.date.days
  pub seconds_along : Along forward r.time.seconds
  pub nanoseconds_along : Along forward r.time.nanoseconds
