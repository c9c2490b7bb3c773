-- The steps of the TC39 Temporal proposal on sums and differences of dates, under their names and in their order.
use Rattle.std.specs.Prelude.{ℕ, zero, suc, ◌+◌, ◌*◌, Bool, true, false, cond, ◌&&◌, ◌||◌, leb, ltb, eqb, ℤ, pos, neg_ℤ, nat_abs, ◌+ℤ◌, ◌-ℤ◌}
use Rattle.std.specs.Int.Signed.{lt_z, le_z}
use Rattle.iso_date.specs.Proposal.{date, epoch_days, epoch_days_to_iso_date, balanced_year, balanced_month, constrain_iso_date}
use Rattle.iso_date.specs.declared.IsoDate.{IsoDate}
use Rattle.date_duration.specs.Proposal.{duration}
use Rattle.date_duration.specs.declared.DateDuration.{DateDuration}
use Rattle.options.specs.declared.Unit.{Unit as TemporalUnit}
use Rattle.options.specs.Units.{unit_rank}

-- ---- Moving a date

-- BalanceISOYearMonth(year + years, month + months) with the day of the date: nothing is shortened
unfoldable pub moved_by : IsoDate → ℤ → ℤ → IsoDate
moved_by d years months =
    date (balanced_year (d.year +ℤ years) (pos d.month +ℤ months)) (balanced_month (pos d.month +ℤ months)) d.day

-- AddDaysToISODate
abbrev pub add_days_to_iso_date : IsoDate → ℤ → IsoDate
add_days_to_iso_date d n = epoch_days_to_iso_date (epoch_days d +ℤ n)

-- ---- Comparing

-- whether a comes after b, in CompareISODate's order: by year, then month, then day
unfoldable pub is_later : IsoDate → IsoDate → Bool
is_later a b =
    lt_z b.year a.year ||
    (le_z b.year a.year && (ltb b.month a.month || (leb b.month a.month && ltb b.day a.day)))

-- ISODateSurpasses: the triple lies beyond the date, seen in the direction of the sign
abbrev pub iso_date_surpasses : Bool → IsoDate → IsoDate → Bool
iso_date_surpasses true t two = is_later t two
iso_date_surpasses false t two = is_later two t

-- ---- Candidates: sign, 2 × sign, .. are tried in order, and the last that had not passed is kept

-- a count with the sign, which is forward or backward
abbrev pub directed : Bool → ℕ → ℤ
directed true n = pos n
directed false n = neg_ℤ (pos n)

-- k is kept so far, and at most so many more are tried
unfoldable pub kept : (ℕ → Bool) → ℕ → ℕ → ℕ
kept passed zero k = k
kept passed (suc left) k = cond (passed (suc k)) k (kept passed left (suc k))

-- ---- CalendarDateUntil for ISO dates

-- what is counted under a largest unit
abbrev pub counts_years : TemporalUnit → Bool
counts_years unit = eqb (unit_rank unit) 0

abbrev pub counts_months : TemporalUnit → Bool
counts_months unit = leb (unit_rank unit) 1

abbrev pub counts_weeks : TemporalUnit → Bool
counts_weeks unit = eqb (unit_rank unit) 2

-- the first date moved by years alone
abbrev pub in_years : IsoDate → ℤ → IsoDate
in_years d years = date (d.year +ℤ years) d.month d.day

module _ (forward : Bool) (one two : IsoDate) where
  -- the year after the difference of the years has passed, whatever the rest of the dates
  abbrev most_years : ℕ
  most_years = nat_abs (two.year -ℤ one.year) + 1

  unfoldable pub years_until : ℕ
  years_until = kept (λ k. iso_date_surpasses forward (in_years one (directed forward k)) two) most_years 0

  unfoldable pub months_until : ℕ → ℕ
  months_until years =
      kept (λ k. iso_date_surpasses forward (moved_by one (directed forward years) (directed forward k)) two) (12 * most_years) 0

-- where the rest starts: moved, and only now is the day constrained
unfoldable pub rest_start : Bool → IsoDate → ℕ → ℕ → IsoDate
rest_start forward one years months = constrain_iso_date (moved_by one (directed forward years) (directed forward months))

-- days, so many at a time, from a date on; the day after the distance has passed
unfoldable pub days_until : Bool → ℕ → IsoDate → IsoDate → ℕ
days_until forward step start two =
    kept (λ k. iso_date_surpasses forward (add_days_to_iso_date start (directed forward (step * k))) two)
    (nat_abs (epoch_days two -ℤ epoch_days start) + 1) 0

-- the steps in turn, each from where the one before it led
module _ (forward : Bool) (one two : IsoDate) (unit : TemporalUnit) where
  unfoldable pub years_found : ℕ
  years_found = cond (counts_years unit) (years_until forward one two) 0

  unfoldable pub months_found : ℕ
  months_found = cond (counts_months unit) (months_until forward one two years_found) 0

  unfoldable pub weeks_found : IsoDate → ℕ
  weeks_found start = cond (counts_weeks unit) (days_until forward 7 start two) 0

  unfoldable pub date_until : DateDuration
  date_until =
      let start : IsoDate = rest_start forward one years_found months_found in
      let weeks : ℕ = weeks_found start in
      let days : ℕ = days_until forward 1 (add_days_to_iso_date start (directed forward (7 * weeks))) two in
      duration (directed forward years_found) (directed forward months_found) (directed forward weeks) (directed forward days)

-- CalendarDateUntil: forward, backward, or nothing at all
unfoldable pub calendar_date_until : IsoDate → IsoDate → TemporalUnit → DateDuration
calendar_date_until one two unit =
    cond (is_later two one) (date_until true one two unit)
    (cond (is_later one two) (date_until false one two unit) (duration (pos 0) (pos 0) (pos 0) (pos 0)))
