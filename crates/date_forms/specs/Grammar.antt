-- Dates and times as text: which texts begin with a date or a time, one production after the other, and what they say. The form is the
-- proposal's extended form, without what the rules leave out of it.
use Rattle.std.specs.Prelude.{ℕ, ◌/◌, ◌%◌, cond, List, eqb, ℤ, pos, neg_ℤ}
use Rattle.forms.specs.Forms.{Parsed, took, nothing, then_read, or_else, marked, digits, fraction}
use Rattle.iso_date.specs.Proposal.{date}
use Rattle.iso_date.specs.declared.IsoDate.{IsoDate}
use Rattle.iso_time.specs.Proposal.{time}
use Rattle.iso_time.specs.declared.IsoTime.{IsoTime}

abbrev pub plus : ℕ
plus = 43

abbrev pub hyphen : ℕ
hyphen = 45

abbrev pub colon : ℕ
colon = 58

-- ---- dates

-- four digits: a year from 0 to 9999
abbrev pub four_digits : List ℕ → Parsed ℤ
four_digits text = then_read (digits 4 text) (λ n rest. took (pos n) rest)

-- any year from 0 on as + and six digits
abbrev pub plus_six : List ℕ → Parsed ℤ
plus_six text = then_read (marked plus (digits 6) text) (λ n rest. took (pos n) rest)

-- any year below 0 as - and six digits; -000000 is no year
abbrev pub minus_six : List ℕ → Parsed ℤ
minus_six text = then_read (marked hyphen (digits 6) text) (λ n rest. cond (eqb n 0) nothing (took (neg_ℤ (pos n)) rest))

unfoldable pub year_form : List ℕ → Parsed ℤ
year_form text = or_else (four_digits text) (or_else (plus_six text) (minus_six text))

-- year, hyphen, month, hyphen, day
unfoldable pub date_form : List ℕ → Parsed IsoDate
date_form text =
    then_read (year_form text) (λ y t.
    then_read (marked hyphen (digits 2) t) (λ m u.
    then_read (marked hyphen (digits 2) u) (λ d rest.
    took (date y m d) rest)))

-- ---- times

-- seconds, and the billionths of a second: none where the text does not say them
pub record Seconds : Type 0 where
  pub second : ℕ
  pub billionths : ℕ

abbrev pub seconds : ℕ → ℕ → Seconds
seconds s f = record { second = s; billionths = f }

-- colon, seconds, and a fraction or none
unfoldable pub seconds_form : List ℕ → Parsed Seconds
seconds_form text =
    then_read (marked colon (digits 2) text) (λ s t.
    then_read (or_else (fraction t) (took 0 t)) (λ f rest.
    took (seconds s f) rest))

-- what the numbers of a clock say. Second 60 counts as 59; of the nine digits of the fraction the first three are milliseconds, the next
-- three microseconds, the last three nanoseconds
unfoldable pub clock_time : ℕ → ℕ → Seconds → IsoTime
clock_time h m s =
    time h m (cond (eqb s.second 60) 59 s.second)
    (s.billionths / 1_000_000) (s.billionths / 1_000 % 1_000) (s.billionths % 1_000)

-- hours, colon, minutes, and seconds or none
unfoldable pub time_form : List ℕ → Parsed IsoTime
time_form text =
    then_read (digits 2 text) (λ h t.
    then_read (marked colon (digits 2) t) (λ m u.
    then_read (or_else (seconds_form u) (took (seconds 0 0) u)) (λ s rest.
    took (clock_time h m s) rest)))
