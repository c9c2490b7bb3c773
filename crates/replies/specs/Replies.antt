-- What answers a request, and the values of each kind of answer in their order.
use Rattle.std.specs.Prelude.{ℕ, ◌+◌, ◌≤◌, List, [], ◌∷◌, ◌++◌, ℤ, pos, neg_ℤ}
use Rattle.refusal.specs.Answer.{Answer, given, refused}
use Rattle.lines.specs.Text.{digit_zero, space, question_mark}
use Rattle.writing.specs.Text.{decimal, spaced}
use Rattle.writing.specs.Wrote.{Wrote}
use Rattle.iso_date.specs.declared.IsoDate.{IsoDate}
use Rattle.iso_date.specs.declared.YearMonth.{YearMonth}
use Rattle.iso_time.specs.declared.IsoTime.{IsoTime}
use Rattle.iso_time.specs.declared.BalancedTime.{BalancedTime}
use Rattle.iso_time.specs.declared.TimeDuration.{TimeDuration}
use Rattle.date_duration.specs.declared.DateDuration.{DateDuration}
use Rattle.date_duration.specs.declared.Sign.{Sign}
use Rattle.date_duration.specs.declared.Sign.TheVariants as S
use Rattle.date_math.specs.declared.DateDifference.{DateDifference}
use Rattle.iso_date_time.specs.declared.IsoDateTime.{IsoDateTime}
use Rattle.iso_date_time.specs.declared.InternalDurationRecord.{InternalDurationRecord}
use Rattle.iso_date_time.specs.declared.DateTimeDifference.{DateTimeDifference}

-- an answer is 0 and the bytes that follow it, a refusal its number alone
abbrev pub reply_text : Answer (List ℕ) → List ℕ
reply_text (given bytes) = digit_zero ∷ bytes
reply_text (refused n) = decimal (pos n)

-- what answers a line that is no request
abbrev pub question : List ℕ
question = question_mark ∷ []

-- the bytes that follow the 0 where an answer's values are numbers
abbrev pub shown : {A : Type 0} → (A → List ℤ) → Answer A → Answer (List ℕ)
shown values (given a) = given (spaced (values a))
shown values (refused n) = refused n

-- where it is a text: a space and the text
abbrev pub shown_text : Answer (List ℕ) → Answer (List ℕ)
shown_text (given text) = given (space ∷ text)
shown_text (refused n) = refused n

-- the reply stands in a lent buffer from `at` on, and no other byte of it has changed; 255 bytes hold any
pub record Replied (before : List ℕ) (at : ℕ) (a : Answer (List ℕ)) (after : List ℕ) (end : ℕ) : Type 0 where
  pub wrote : Wrote before at (reply_text a) after end
  pub short : end ≤ at + 255

-- ---- the values of each kind of answer

abbrev pub no_values : Unit {0} → List ℤ
no_values u = []

abbrev pub natural_value : ℕ → List ℤ
natural_value n = pos n ∷ []

abbrev pub whole_value : ℤ → List ℤ
whole_value z = z ∷ []

abbrev pub date_values : IsoDate → List ℤ
date_values d = d.year ∷ pos d.month ∷ pos d.day ∷ []

abbrev pub year_month_values : YearMonth → List ℤ
year_month_values m = m.year ∷ pos m.month ∷ []

abbrev pub time_values : IsoTime → List ℤ
time_values t =
    pos t.hour ∷ pos t.minute ∷ pos t.second ∷ pos t.millisecond ∷ pos t.microsecond ∷ pos t.nanosecond ∷ []

abbrev pub balanced_values : BalancedTime → List ℤ
balanced_values b = (b.days ∷ []) ++ time_values b.time

abbrev pub span_values : TimeDuration → List ℤ
span_values d = d.seconds ∷ d.nanoseconds ∷ []

abbrev pub duration_values : DateDuration → List ℤ
duration_values d = d.years ∷ d.months ∷ d.weeks ∷ d.days ∷ []

abbrev pub date_time_values : IsoDateTime → List ℤ
date_time_values r = date_values r.date ++ time_values r.time

abbrev pub record_values : InternalDurationRecord → List ℤ
record_values d = duration_values d.date ++ span_values d.time

-- of a difference, last, how many candidates were tried
abbrev pub date_difference_values : DateDifference → List ℤ
date_difference_values d = duration_values d.duration ++ natural_value d.tries

abbrev pub difference_values : DateTimeDifference → List ℤ
difference_values d = record_values d.duration ++ natural_value d.tries

abbrev pub sign_number : Sign → ℤ
sign_number S.Negative = neg_ℤ (pos 1)
sign_number S.Zero = pos 0
sign_number S.Positive = pos 1

abbrev pub sign_value : Sign → List ℤ
sign_value s = sign_number s ∷ []
