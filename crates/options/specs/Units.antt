-- The order of the units, and the length of a day.
use Rattle.std.specs.Prelude.{ℕ}
use Rattle.options.specs.declared.Unit.{Unit as Unit'}
use Rattle.options.specs.declared.Unit.TheVariants as U

-- a unit's place from the largest on: 0 year, 3 day, 9 nanosecond
abbrev pub unit_rank : Unit' → ℕ
unit_rank U.Year = 0
unit_rank U.Month = 1
unit_rank U.Week = 2
unit_rank U.Day = 3
unit_rank U.Hour = 4
unit_rank U.Minute = 5
unit_rank U.Second = 6
unit_rank U.Millisecond = 7
unit_rank U.Microsecond = 8
unit_rank U.Nanosecond = 9

-- the nanoseconds of a day
abbrev pub ns_per_day : ℕ
ns_per_day = 86_400_000_000_000
