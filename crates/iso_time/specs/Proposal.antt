-- The steps of the TC39 Temporal proposal that times lean on, under their names and in their order. All numbers are whole numbers of
-- any size; `fdiv a n` is ⌊a / n⌋, `fmod a n` is a - n × ⌊a / n⌋.
use Rattle.std.specs.Prelude.{ℕ, ◌+◌, ◌*◌, ◌%◌, min, Bool, false, ◌&&◌, leb, ltb, eqb, ℤ, pos, ◌+ℤ◌, ◌-ℤ◌}
use Rattle.std.specs.Int.Signed.{quot_z, rem_z}
use Rattle.whole.specs.Whole.{fdiv, fmod}
use Rattle.options.specs.declared.Unit.{Unit as TemporalUnit}
use Rattle.options.specs.declared.Unit.TheVariants as U
use Rattle.rounding.specs.Proposal.{round_number_to_increment}
use Rattle.rounding.specs.declared.RoundingMode.{RoundingMode}
use Rattle.iso_time.specs.declared.IsoTime.{IsoTime}
use Rattle.iso_time.specs.declared.BalancedTime.{BalancedTime}
use Rattle.iso_time.specs.declared.TimeDuration.{TimeDuration}

-- ---- Times

abbrev pub time : ℕ → ℕ → ℕ → ℕ → ℕ → ℕ → IsoTime
time h m s ms us ns = record { hour = h; minute = m; second = s; millisecond = ms; microsecond = us; nanosecond = ns }

-- IsValidTime
unfoldable pub is_valid_time : IsoTime → Bool
is_valid_time t =
    leb t.hour 23 && (leb t.minute 59 && (leb t.second 59 &&
    (leb t.millisecond 999 && (leb t.microsecond 999 && leb t.nanosecond 999))))

-- RegulateTime under constrain: each field clamped
unfoldable pub constrain_time : IsoTime → IsoTime
constrain_time t =
    time (min 23 t.hour) (min 59 t.minute) (min 59 t.second) (min 999 t.millisecond) (min 999 t.microsecond) (min 999 t.nanosecond)

abbrev pub balanced : ℤ → IsoTime → BalancedTime
balanced d t = record { days = d; time = t }

-- BalanceTime(h, min, s, ms, µs, ns): what is over in a field is carried into the next
unfoldable pub balance_time : ℤ → ℤ → ℤ → ℤ → ℤ → ℤ → BalancedTime
balance_time hour minute second millisecond microsecond nanosecond =
    let microsecond' : ℤ = microsecond +ℤ fdiv nanosecond 1000 in
    let millisecond' : ℤ = millisecond +ℤ fdiv microsecond' 1000 in
    let second' : ℤ = second +ℤ fdiv millisecond' 1000 in
    let minute' : ℤ = minute +ℤ fdiv second' 60 in
    let hour' : ℤ = hour +ℤ fdiv minute' 60 in
    balanced (fdiv hour' 24)
    (time (fmod hour' 24) (fmod minute' 60) (fmod second' 60) (fmod millisecond' 1000) (fmod microsecond' 1000) (fmod nanosecond 1000))

-- the nanoseconds from the start of a unit's field on: the field and all below it
abbrev pub ns_from_microsecond : IsoTime → ℕ
ns_from_microsecond t = t.microsecond * 1000 + t.nanosecond

abbrev pub ns_from_millisecond : IsoTime → ℕ
ns_from_millisecond t = t.millisecond * 1_000_000 + ns_from_microsecond t

abbrev pub ns_from_second : IsoTime → ℕ
ns_from_second t = t.second * 1_000_000_000 + ns_from_millisecond t

abbrev pub ns_from_minute : IsoTime → ℕ
ns_from_minute t = t.minute * 60_000_000_000 + ns_from_second t

-- the nanoseconds since midnight
unfoldable pub nanoseconds : IsoTime → ℕ
nanoseconds t = t.hour * 3_600_000_000_000 + ns_from_minute t

-- the exact nanoseconds from one time to another: those of two less those of one
abbrev pub nanoseconds_until : IsoTime → IsoTime → ℤ
nanoseconds_until one two = pos (nanoseconds two) -ℤ pos (nanoseconds one)

-- nanoseconds as whole seconds and what is left, cut towards zero
abbrev pub in_seconds : ℤ → TimeDuration
in_seconds ns = record { seconds = quot_z ns (pos 1_000_000_000); nanoseconds = rem_z ns (pos 1_000_000_000) }

-- DifferenceTime(one, two)
unfoldable pub difference_time : IsoTime → IsoTime → TimeDuration
difference_time one two = in_seconds (nanoseconds_until one two)

-- ---- Rounding

-- the length of a unit in nanoseconds; 0 for those that a time is not rounded to
unfoldable pub unit_length : TemporalUnit → ℕ
unit_length U.Year = 0
unit_length U.Month = 0
unit_length U.Week = 0
unit_length U.Day = 86_400_000_000_000
unit_length U.Hour = 3_600_000_000_000
unit_length U.Minute = 60_000_000_000
unit_length U.Second = 1_000_000_000
unit_length U.Millisecond = 1_000_000
unit_length U.Microsecond = 1000
unit_length U.Nanosecond = 1

-- the quantity that is rounded: the nanoseconds of the unit's field and all below it, for day and hour of the whole time
unfoldable pub quantity : TemporalUnit → IsoTime → ℕ
quantity U.Year t = 0
quantity U.Month t = 0
quantity U.Week t = 0
quantity U.Day t = nanoseconds t
quantity U.Hour t = nanoseconds t
quantity U.Minute t = ns_from_minute t
quantity U.Second t = ns_from_second t
quantity U.Millisecond t = ns_from_millisecond t
quantity U.Microsecond t = ns_from_microsecond t
quantity U.Nanosecond t = t.nanosecond

-- the quantity in units, rounded: RoundNumberToIncrement by a step of so many units as the increment says, over the length of one
unfoldable pub rounded_units : IsoTime → ℕ → TemporalUnit → RoundingMode → ℤ
rounded_units t inc unit mode =
    fdiv (round_number_to_increment (pos (quantity unit t)) (inc * unit_length unit) mode) (unit_length unit)

-- the larger fields kept, so many of the unit in its field, zeros below; for day they are the days and the time is midnight
abbrev pub with_units : TemporalUnit → IsoTime → ℤ → BalancedTime
with_units U.Year t r = balanced (pos 0) t
with_units U.Month t r = balanced (pos 0) t
with_units U.Week t r = balanced (pos 0) t
with_units U.Day t r = balanced r (time 0 0 0 0 0 0)
with_units U.Hour t r = balance_time r (pos 0) (pos 0) (pos 0) (pos 0) (pos 0)
with_units U.Minute t r = balance_time (pos t.hour) r (pos 0) (pos 0) (pos 0) (pos 0)
with_units U.Second t r = balance_time (pos t.hour) (pos t.minute) r (pos 0) (pos 0) (pos 0)
with_units U.Millisecond t r = balance_time (pos t.hour) (pos t.minute) (pos t.second) r (pos 0) (pos 0)
with_units U.Microsecond t r = balance_time (pos t.hour) (pos t.minute) (pos t.second) (pos t.millisecond) r (pos 0)
with_units U.Nanosecond t r = balance_time (pos t.hour) (pos t.minute) (pos t.second) (pos t.millisecond) (pos t.microsecond) r

-- RoundTime(time, inc, unit, mode): the larger fields kept, and the rounded quantity in the unit's field
unfoldable pub round_time : IsoTime → ℕ → TemporalUnit → RoundingMode → BalancedTime
round_time t inc unit mode = with_units unit t (rounded_units t inc unit mode)

-- ValidateTemporalRoundingIncrement(inc, dividend, not inclusive): from 1, below the dividend and dividing it
abbrev pub validate_temporal_rounding_increment : ℕ → ℕ → Bool
validate_temporal_rounding_increment inc dividend = leb 1 inc && (ltb inc dividend && eqb (dividend % inc) 0)

-- the increments that are allowed at a unit: at day 1 alone; at those that a time is not rounded to none
unfoldable pub valid_increment : TemporalUnit → ℕ → Bool
valid_increment U.Year inc = false
valid_increment U.Month inc = false
valid_increment U.Week inc = false
valid_increment U.Day inc = eqb inc 1
valid_increment U.Hour inc = validate_temporal_rounding_increment inc 24
valid_increment U.Minute inc = validate_temporal_rounding_increment inc 60
valid_increment U.Second inc = validate_temporal_rounding_increment inc 60
valid_increment U.Millisecond inc = validate_temporal_rounding_increment inc 1000
valid_increment U.Microsecond inc = validate_temporal_rounding_increment inc 1000
valid_increment U.Nanosecond inc = validate_temporal_rounding_increment inc 1000
