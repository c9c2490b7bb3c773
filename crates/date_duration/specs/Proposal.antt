-- The steps of the TC39 Temporal proposal on date durations, under their names.
use Rattle.std.specs.Prelude.{◌*◌, ◌^◌, Bool, cond, not, ◌&&◌, ◌||◌, ltb, eqb, ℤ, pos, negsuc, neg_ℤ, nat_abs, Option, unwrap_or}
use Rattle.std.specs.Int.Signed.{lt_z}
use Rattle.date_duration.specs.declared.DateDuration.{DateDuration}
use Rattle.date_duration.specs.declared.Sign.{Sign}
use Rattle.date_duration.specs.declared.Sign.TheVariants.{Negative, Zero, Positive}

abbrev pub duration : ℤ → ℤ → ℤ → ℤ → DateDuration
duration y m w d = record { years = y; months = m; weeks = w; days = d }

-- ---- IsValidDuration, of date parts

unfoldable pub any_below : DateDuration → Bool
any_below d = lt_z d.years (pos 0) || (lt_z d.months (pos 0) || (lt_z d.weeks (pos 0) || lt_z d.days (pos 0)))

unfoldable pub any_above : DateDuration → Bool
any_above d = lt_z (pos 0) d.years || (lt_z (pos 0) d.months || (lt_z (pos 0) d.weeks || lt_z (pos 0) d.days))

-- years, months and weeks below 2^32 in size, the seconds of the days below 2^53
unfoldable pub small : ℤ → Bool
small z = ltb (nat_abs z) (2 ^ 32)

unfoldable pub small_days : ℤ → Bool
small_days z = ltb (nat_abs z * 86_400) (2 ^ 53)

unfoldable pub all_small : DateDuration → Bool
all_small d = small d.years && (small d.months && (small d.weeks && small_days d.days))

-- and no two parts of opposed sign
unfoldable pub is_valid_duration : DateDuration → Bool
is_valid_duration d = all_small d && not (any_below d && any_above d)

-- ---- DateDurationSign: that of the first part that is not 0

unfoldable pub sign_of : ℤ → Sign
sign_of (negsuc n) = Negative
sign_of (pos n) = cond (eqb n 0) Zero Positive

abbrev pub or_else : Sign → Sign → Sign
or_else Negative rest = Negative
or_else Zero rest = rest
or_else Positive rest = Positive

unfoldable pub date_duration_sign : DateDuration → Sign
date_duration_sign d = or_else (sign_of d.years) (or_else (sign_of d.months) (or_else (sign_of d.weeks) (sign_of d.days)))

-- ---- absolute value, negation

abbrev pub absolute : DateDuration → DateDuration
absolute d = duration (pos (nat_abs d.years)) (pos (nat_abs d.months)) (pos (nat_abs d.weeks)) (pos (nat_abs d.days))

abbrev pub negation : DateDuration → DateDuration
negation d = duration (neg_ℤ d.years) (neg_ℤ d.months) (neg_ℤ d.weeks) (neg_ℤ d.days)

-- ---- AdjustDateDurationRecord(d, days, weeks, months): a part that is not given stays

abbrev pub kept_or : Option ℤ → ℤ → ℤ
kept_or part old = unwrap_or part old

abbrev pub adjusted : DateDuration → ℤ → Option ℤ → Option ℤ → DateDuration
adjusted d days weeks months = duration d.years (kept_or months d.months) (kept_or weeks d.weeks) days
