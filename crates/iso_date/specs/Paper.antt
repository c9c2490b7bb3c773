-- What the calls on dates answer, for every input: the checks in their order with their numbers, then the answer.
use Rattle.std.specs.Prelude.{ℕ, ◌^◌, ◌-◌, Bool, ◌&&◌, leb, ℤ, pos, neg_ℤ, ◌-ℤ◌}
use Rattle.std.specs.Int.Signed.{le_z}
use Rattle.refusal.specs.Answer.{Answer, given, check, and_then}
use Rattle.whole.specs.Whole.{clamp_z}
use Rattle.iso_date.specs.Proposal.{epoch_days, epoch_days_to_iso_date, is_valid_iso_date, iso_days_in_month, iso_date_to_epoch_days, balanced_year}
use Rattle.iso_date.specs.Proposal.{balanced_month, constrain_iso_date, iso_date_within_limits}
use Rattle.iso_date.specs.declared.IsoDate.{IsoDate}
use Rattle.iso_date.specs.declared.YearMonth.{YearMonth}
use Rattle.options.specs.declared.Overflow.{Overflow}
use Rattle.options.specs.declared.Overflow.TheVariants.{Constrain, Reject}

-- ---- day counts and month lengths

unfoldable pub month_length : ℤ → ℕ → Answer ℕ
month_length y m = check (leb 1 m && leb m 12) 1 (given (iso_days_in_month y m))

-- a day count is balanced where it is at most 100,000,001 in size
unfoldable pub balanced : ℤ → Bool
balanced n = le_z (neg_ℤ (pos 100_000_001)) n && le_z n (pos 100_000_001)

unfoldable pub date_to_day : IsoDate → Answer ℤ
date_to_day d = check (is_valid_iso_date d) 1 (check (balanced (epoch_days d)) 4 (given (epoch_days d)))

unfoldable pub day_to_date : ℤ → Answer IsoDate
day_to_date n = check (balanced n) 4 (given (epoch_days_to_iso_date n))

-- ---- year-month balance, regulating and limits

abbrev pub year_month : ℤ → ℕ → YearMonth
year_month y m = record { year = y; month = m }

-- the year is clamped to 32 bits, the month kept as balanced
unfoldable pub balance_year_month : ℤ → ℤ → YearMonth
balance_year_month y m = year_month (clamp_z (balanced_year y m) (neg_ℤ (pos (2 ^ 31))) (pos (2 ^ 31 - 1))) (balanced_month m)

unfoldable pub regulate_date : IsoDate → Overflow → Answer IsoDate
regulate_date d Constrain = given (constrain_iso_date d)
regulate_date d Reject = check (is_valid_iso_date d) 1 (given d)

-- a date's own limits, where its fields are known to be valid
abbrev pub limited : IsoDate → Answer IsoDate
limited d = check (iso_date_within_limits d) 2 (given d)

-- regulated, then held to the limits
unfoldable pub make_date : IsoDate → Overflow → Answer IsoDate
make_date d o = and_then (regulate_date d o) limited

unfoldable pub date_limits : IsoDate → Answer (Unit {0})
date_limits d = check (is_valid_iso_date d) 1 (check (iso_date_within_limits d) 2 (given tt))

-- by the exact count alone: that of day 1 of the month, plus day, minus 1
unfoldable pub balance_date : ℤ → ℤ → ℤ → Answer IsoDate
balance_date y m d = day_to_date (iso_date_to_epoch_days y (m -ℤ pos 1) d)
