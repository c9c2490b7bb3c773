-- The parameters of calls: their types, and the values that the numbers of a request stand for.
use Rattle.std.specs.Prelude.{ℕ, ◌+◌, cond, List, [], ◌∷◌, ◌++◌, eqb, get_or, Option, Some, None, ℤ, nat_abs}
use Rattle.iso_date.specs.Proposal.{date}
use Rattle.iso_date.specs.declared.IsoDate.{IsoDate}
use Rattle.iso_time.specs.Proposal.{time}
use Rattle.iso_time.specs.declared.IsoTime.{IsoTime}
use Rattle.iso_date_time.specs.Proposal.{date_time}
use Rattle.iso_date_time.specs.declared.IsoDateTime.{IsoDateTime}
use Rattle.date_duration.specs.Proposal.{duration}
use Rattle.date_duration.specs.declared.DateDuration.{DateDuration}
use Rattle.options.specs.declared.Overflow.{Overflow}
use Rattle.options.specs.declared.Overflow.TheVariants.{Constrain, Reject}
use Rattle.options.specs.declared.Unit.{Unit as TemporalUnit}
use Rattle.options.specs.declared.Unit.TheVariants as U
use Rattle.rounding.specs.declared.RoundingMode.{RoundingMode}
use Rattle.rounding.specs.declared.RoundingMode.TheVariants as M
use Rattle.parameters.specs.Kinds.{Kind, signed, unsigned, one_of}
use Rattle.parameters.specs.Meaning.{at, nat_at}

-- ---- types

abbrev pub date_kinds : List Kind
date_kinds = signed 32 ∷ unsigned 8 ∷ unsigned 8 ∷ []

abbrev pub overflow_kind : Kind
overflow_kind = one_of 2

abbrev pub time_kinds : List Kind
time_kinds = unsigned 8 ∷ unsigned 8 ∷ unsigned 8 ∷ unsigned 16 ∷ unsigned 16 ∷ unsigned 16 ∷ []

-- six fields that are to be balanced
abbrev pub parts_kinds : List Kind
parts_kinds = signed 64 ∷ signed 64 ∷ signed 64 ∷ signed 64 ∷ signed 64 ∷ signed 64 ∷ []

abbrev pub date_time_kinds : List Kind
date_time_kinds = date_kinds ++ time_kinds

abbrev pub unit_kind : Kind
unit_kind = one_of 10

abbrev pub mode_kind : Kind
mode_kind = one_of 9

-- how many bytes are lent
abbrev pub room_kind : Kind
room_kind = one_of 65

abbrev pub duration_kinds : List Kind
duration_kinds = signed 64 ∷ signed 64 ∷ signed 64 ∷ signed 64 ∷ []

-- 0 kept, 1 given, and the number that is given
abbrev pub choice_kinds : List Kind
choice_kinds = one_of 2 ∷ signed 64 ∷ []

-- ---- values, from the i-th number on

abbrev pub date_at : List ℤ → ℕ → IsoDate
date_at zs i = date (at zs i) (nat_at zs (i + 1)) (nat_at zs (i + 2))

abbrev pub overflow_of : ℤ → Overflow
overflow_of z = cond (eqb (nat_abs z) 0) Constrain Reject

abbrev pub time_at : List ℤ → ℕ → IsoTime
time_at zs i = time (nat_at zs i) (nat_at zs (i + 1)) (nat_at zs (i + 2)) (nat_at zs (i + 3)) (nat_at zs (i + 4)) (nat_at zs (i + 5))

abbrev pub date_time_at : List ℤ → ℕ → IsoDateTime
date_time_at zs i = date_time (date_at zs i) (time_at zs (i + 3))

-- units and modes by their numbers, from 0
abbrev pub units : List TemporalUnit
units = U.Year ∷ U.Month ∷ U.Week ∷ U.Day ∷ U.Hour ∷ U.Minute ∷ U.Second ∷ U.Millisecond ∷ U.Microsecond ∷ U.Nanosecond ∷ []

abbrev pub modes : List RoundingMode
modes = M.Ceil ∷ M.Floor ∷ M.Expand ∷ M.Trunc ∷ M.HalfCeil ∷ M.HalfFloor ∷ M.HalfExpand ∷ M.HalfTrunc ∷ M.HalfEven ∷ []

abbrev pub unit_of : ℤ → TemporalUnit
unit_of z = get_or units (nat_abs z) U.Year

abbrev pub mode_of : ℤ → RoundingMode
mode_of z = get_or modes (nat_abs z) M.Ceil

abbrev pub duration_at : List ℤ → ℕ → DateDuration
duration_at zs i = duration (at zs i) (at zs (i + 1)) (at zs (i + 2)) (at zs (i + 3))

abbrev pub part_at : List ℤ → ℕ → Option ℤ
part_at zs i = cond (eqb (nat_at zs i) 0) None (Some (at zs (i + 1)))
