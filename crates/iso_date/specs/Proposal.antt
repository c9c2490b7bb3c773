-- The steps of the TC39 Temporal proposal and of ECMA-262 that dates lean on, under their names and in their order. All numbers are
-- whole numbers of any size; `fdiv a n` is ⌊a / n⌋, `fmod a n` is a - n × ⌊a / n⌋.
use Rattle.std.specs.Prelude.{ℕ, suc, ◌+◌, ◌-◌, min, max, Bool, cond, not, ◌&&◌, ◌||◌, List, [], ◌∷◌, leb, ltb, eqb, get_or, take, ℤ, pos, neg_ℤ, nat_abs, ◌+ℤ◌, ◌-ℤ◌, ◌*ℤ◌}
use Rattle.std.specs.Int.Signed.{lt_z, le_z}
use Rattle.options.specs.Units.{ns_per_day}
use Rattle.whole.specs.Whole.{fdiv, fmod}
use Rattle.iso_date.specs.declared.IsoDate.{IsoDate}

-- ---- Calendar equations (ECMA-262)

-- the day number of the first day of year y; day 0 is 1970-01-01
unfoldable pub day_from_year : ℤ → ℤ
day_from_year y =
    pos 365 *ℤ (y -ℤ pos 1970) +ℤ fdiv (y -ℤ pos 1969) 4 -ℤ fdiv (y -ℤ pos 1901) 100 +ℤ fdiv (y -ℤ pos 1601) 400

-- divisible by 4, and not by 100 unless by 400
unfoldable pub leap_year : ℤ → Bool
leap_year y = eqb (fmod y 4) 0 && (not (eqb (fmod y 100) 0) || eqb (fmod y 400) 0)

-- the lengths of the twelve months of a year, January first
unfoldable pub month_lengths : Bool → List ℕ
month_lengths leap = 31 ∷ cond leap 29 28 ∷ 31 ∷ 30 ∷ 31 ∷ 30 ∷ 31 ∷ 31 ∷ 30 ∷ 31 ∷ 30 ∷ 31 ∷ []

-- ISODaysInMonth(y, m), of month 1 to 12
unfoldable pub iso_days_in_month : ℤ → ℕ → ℕ
iso_days_in_month y m = get_or (month_lengths (leap_year y)) (m - 1) 0

abbrev pub sum : List ℕ → ℕ
sum [] = 0
sum (n ∷ ns) = n + sum ns

-- the days of a year before its month m, the months counted from 0
unfoldable pub days_before_month : Bool → ℕ → ℕ
days_before_month leap m = sum (take m (month_lengths leap))

-- the day number of day 1 of month m of year y, the months counted from 0 to 11
unfoldable pub day_from_month : ℤ → ℕ → ℤ
day_from_month y m = day_from_year y +ℤ pos (days_before_month (leap_year y) m)

-- ISODateToEpochDays(y, m, d), the months counted from 0, any of them
unfoldable pub iso_date_to_epoch_days : ℤ → ℤ → ℤ → ℤ
iso_date_to_epoch_days y m d = day_from_month (y +ℤ fdiv m 12) (fmod m 12) +ℤ d -ℤ pos 1

-- the year of day n by the mean of 146,097 days in 400 years
abbrev pub mean_year : ℤ → ℤ
mean_year n = pos 1970 +ℤ fdiv (pos 400 *ℤ n) 146097

-- ECMA-262's YearFromTime, the largest year whose first day is not after day n: one of the three around the mean
unfoldable pub year_from_day : ℤ → ℤ
year_from_day n =
    cond (le_z (day_from_year (mean_year n +ℤ pos 1)) n) (mean_year n +ℤ pos 1)
    (cond (le_z (day_from_year (mean_year n)) n) (mean_year n) (mean_year n -ℤ pos 1))

-- of day n of a year, counted from 0, the month whose span holds it, counted from 1
unfoldable pub month_of : List ℕ → ℕ → ℕ
month_of [] n = 1
month_of (length ∷ lengths) n = cond (ltb n length) 1 (suc (month_of lengths (n - length)))

-- and the day of that month
unfoldable pub day_of : List ℕ → ℕ → ℕ
day_of [] n = suc n
day_of (length ∷ lengths) n = cond (ltb n length) (suc n) (day_of lengths (n - length))

-- ---- Dates

abbrev pub date : ℤ → ℕ → ℕ → IsoDate
date y m d = record { year = y; month = m; day = d }

-- the day number of a date, whose month is counted from 1
abbrev pub epoch_days : IsoDate → ℤ
epoch_days d = iso_date_to_epoch_days d.year (pos d.month -ℤ pos 1) (pos d.day)

-- the date of day n of year y, counted from 0
abbrev pub date_in : ℤ → ℕ → IsoDate
date_in y n = date y (month_of (month_lengths (leap_year y)) n) (day_of (month_lengths (leap_year y)) n)

-- the date of a day number: the way back of ISODateToEpochDays
unfoldable pub epoch_days_to_iso_date : ℤ → IsoDate
epoch_days_to_iso_date n = date_in (year_from_day n) (nat_abs (n -ℤ day_from_year (year_from_day n)))

-- IsValidISODate(y, m, d)
unfoldable pub is_valid_iso_date : IsoDate → Bool
is_valid_iso_date d =
    (leb 1 d.month && leb d.month 12) && (leb 1 d.day && leb d.day (iso_days_in_month d.year d.month))

-- BalanceISOYearMonth(y, m): the year
abbrev pub balanced_year : ℤ → ℤ → ℤ
balanced_year y m = y +ℤ fdiv (m -ℤ pos 1) 12

-- and the month
abbrev pub balanced_month : ℤ → ℕ
balanced_month m = fmod (m -ℤ pos 1) 12 + 1

-- the number from 1 to high that is nearest to n
abbrev pub clamp_to : ℕ → ℕ → ℕ
clamp_to high n = min high (max 1 n)

-- RegulateISODate under constrain: the month clamped to 1..12, then the day to the length of that month
unfoldable pub constrain_iso_date : IsoDate → IsoDate
constrain_iso_date d =
    date d.year (clamp_to 12 d.month) (clamp_to (iso_days_in_month d.year (clamp_to 12 d.month)) d.day)

-- ---- Limits

abbrev pub noon : ℕ
noon = 43_200_000_000_000

abbrev pub ns_limit : ℕ
ns_limit = 8_640_000_000_000_000_000_000 + ns_per_day

-- the exact nanoseconds since the epoch lie strictly between the two moments that are a day beyond 10^8 days from it
unfoldable pub ns_within_limits : ℤ → Bool
ns_within_limits ns = lt_z (neg_ℤ (pos ns_limit)) ns && lt_z ns (pos ns_limit)

-- ISODateTimeWithinLimits of a day number and a nanosecond of the day
abbrev pub moment_within_limits : ℤ → ℕ → Bool
moment_within_limits day ns = ns_within_limits (pos ns_per_day *ℤ day +ℤ pos ns)

-- ISODateWithinLimits: the same of the date at noon
abbrev pub iso_date_within_limits : IsoDate → Bool
iso_date_within_limits d = ns_within_limits (pos ns_per_day *ℤ epoch_days d +ℤ pos noon)
