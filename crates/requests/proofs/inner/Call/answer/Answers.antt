-- Each arm calls the function of its call.
use Rattle.requests.proofs.inner.Call.answer.Goals as goal

pub returns-in-MonthLength : goal.returns-in-MonthLength
returns-in-MonthLength c = rw c.in-MonthLength.is c.month_length.ensures

pub returns-in-DateToDay : goal.returns-in-DateToDay
returns-in-DateToDay c = rw c.in-DateToDay.is c.date_to_day.ensures

pub returns-in-DayToDate : goal.returns-in-DayToDate
returns-in-DayToDate c = rw c.in-DayToDate.is c.day_to_date.ensures

pub returns-in-BalanceYearMonth : goal.returns-in-BalanceYearMonth
returns-in-BalanceYearMonth c = rw c.in-BalanceYearMonth.is c.balance_year_month.ensures

pub returns-in-RegulateDate : goal.returns-in-RegulateDate
returns-in-RegulateDate c = rw c.in-RegulateDate.is c.regulate_date.ensures

pub returns-in-MakeDate : goal.returns-in-MakeDate
returns-in-MakeDate c = rw c.in-MakeDate.is c.make_date.ensures

pub returns-in-DateLimits : goal.returns-in-DateLimits
returns-in-DateLimits c = rw c.in-DateLimits.is c.date_limits.ensures

pub returns-in-BalanceDate : goal.returns-in-BalanceDate
returns-in-BalanceDate c = rw c.in-BalanceDate.is c.balance_date.ensures

pub returns-in-RegulateTime : goal.returns-in-RegulateTime
returns-in-RegulateTime c = rw c.in-RegulateTime.is c.regulate_time.ensures

pub returns-in-BalanceTime : goal.returns-in-BalanceTime
returns-in-BalanceTime c = rw c.in-BalanceTime.is c.balance_time.ensures

pub returns-in-TimeDifference : goal.returns-in-TimeDifference
returns-in-TimeDifference c = rw c.in-TimeDifference.is c.time_difference.ensures

pub returns-in-RoundNumber : goal.returns-in-RoundNumber
returns-in-RoundNumber c = rw c.in-RoundNumber.is c.round_number.ensures

pub returns-in-RoundNumberAsIfPositive : goal.returns-in-RoundNumberAsIfPositive
returns-in-RoundNumberAsIfPositive c = rw c.in-RoundNumberAsIfPositive.is c.round_number_as_if_positive.ensures

pub returns-in-RoundTime : goal.returns-in-RoundTime
returns-in-RoundTime c = rw c.in-RoundTime.is c.round_time.ensures

pub returns-in-DurationNew : goal.returns-in-DurationNew
returns-in-DurationNew c = rw c.in-DurationNew.is c.duration_new.ensures

pub returns-in-DurationSign : goal.returns-in-DurationSign
returns-in-DurationSign c = rw c.in-DurationSign.is c.duration_sign.ensures

pub returns-in-DurationAbs : goal.returns-in-DurationAbs
returns-in-DurationAbs c = rw c.in-DurationAbs.is c.duration_abs.ensures

pub returns-in-DurationNegated : goal.returns-in-DurationNegated
returns-in-DurationNegated c = rw c.in-DurationNegated.is c.duration_negated.ensures

pub returns-in-DurationAdjust : goal.returns-in-DurationAdjust
returns-in-DurationAdjust c = rw c.in-DurationAdjust.is c.duration_adjust.ensures

pub returns-in-DateSum : goal.returns-in-DateSum
returns-in-DateSum c = rw c.in-DateSum.is c.date_sum.ensures

pub returns-in-DateDifference : goal.returns-in-DateDifference
returns-in-DateDifference c = rw c.in-DateDifference.is c.date_difference.ensures

pub returns-in-DateTimeLimits : goal.returns-in-DateTimeLimits
returns-in-DateTimeLimits c = rw c.in-DateTimeLimits.is c.datetime_limits.ensures

pub returns-in-BalanceDateTime : goal.returns-in-BalanceDateTime
returns-in-BalanceDateTime c = rw c.in-BalanceDateTime.is c.balance_datetime.ensures

pub returns-in-RoundDateTime : goal.returns-in-RoundDateTime
returns-in-RoundDateTime c = rw c.in-RoundDateTime.is c.round_datetime.ensures

pub returns-in-DateTimeDifference : goal.returns-in-DateTimeDifference
returns-in-DateTimeDifference c = rw c.in-DateTimeDifference.is c.datetime_difference.ensures

pub returns-in-DateTimeFromInstant : goal.returns-in-DateTimeFromInstant
returns-in-DateTimeFromInstant c = rw c.in-DateTimeFromInstant.is c.datetime_from_instant.ensures

pub returns-in-WriteDate : goal.returns-in-WriteDate
returns-in-WriteDate c = rw c.in-WriteDate.is c.write_date.ensures

pub returns-in-WriteTime : goal.returns-in-WriteTime
returns-in-WriteTime c = rw c.in-WriteTime.is c.write_time.ensures

pub returns-in-WriteDateTime : goal.returns-in-WriteDateTime
returns-in-WriteDateTime c = rw c.in-WriteDateTime.is c.write_datetime.ensures
