-- How many candidates the difference of two dates tries: one comparison with the second date for each. The search is the one that is
-- made, which starts near the years that the dates are apart and goes by years under month too; beside it stands the rule of those who
-- use it, which names the number without a search.
use Rattle.std.specs.Prelude.{ℕ, zero, suc, ◌+◌, ◌-◌, ◌*◌, Bool, true, false, cond, not, ◌&&◌, ◌||◌, eqb, nat_abs, ◌-ℤ◌}
use Rattle.iso_date.specs.declared.IsoDate.{IsoDate}
use Rattle.date_duration.specs.declared.DateDuration.{DateDuration}
use Rattle.options.specs.declared.Unit.{Unit as TemporalUnit}
use Rattle.options.specs.declared.Unit.TheVariants as U
use Rattle.date_math.specs.Proposal.{is_later, iso_date_surpasses, directed, in_years, moved_by, counts_months, years_until, calendar_date_until}

-- ---- the search

-- how many are tried from a candidate on, up to and with the first that has passed; at most so many
unfoldable pub tries : (ℕ → Bool) → ℕ → ℕ → ℕ
tries passed zero candidate = 0
tries passed (suc left) candidate = suc (cond (passed candidate) 0 (tries passed left (suc candidate)))

-- the years that two dates are apart, by their numbers alone
abbrev pub years_apart : IsoDate → IsoDate → ℕ
years_apart one two = nat_abs (two.year -ℤ one.year)

module _ (forward : Bool) (one two : IsoDate) where
  -- from one less than the years apart, or from 0. The year after them has passed, so that the bound cuts nothing off
  unfoldable pub year_tries : ℕ
  year_tries = tries (λ k. iso_date_surpasses forward (in_years one (directed forward k)) two) (years_apart one two + 2) (years_apart one two - 1)

  -- from 1, on from where the years lead. A year on from there has passed, so that the bound cuts nothing off
  unfoldable pub month_tries : ℕ
  month_tries =
      tries (λ k. iso_date_surpasses forward (moved_by one (directed forward (years_until forward one two)) (directed forward k)) two)
      (12 * (years_apart one two + 1)) 1

  -- under year and month both are tried, under the other units neither
  unfoldable pub tries_until : TemporalUnit → ℕ
  tries_until unit = cond (counts_months unit) (year_tries + month_tries) 0

-- forward, backward, or none at all
unfoldable pub calendar_date_tries : IsoDate → IsoDate → TemporalUnit → ℕ
calendar_date_tries one two unit =
    cond (is_later two one) (tries_until true one two unit) (cond (is_later one two) (tries_until false one two unit) 0)

-- ---- the rule

-- the dates lie in different years, and as many years were found as these differ
abbrev pub all_years_taken : IsoDate → IsoDate → DateDuration → Bool
all_years_taken one two found = not (eqb (years_apart one two) 0) && eqb (nat_abs found.years) (years_apart one two)

-- none for equal dates, week and day; else 3 or 2 for the years, and one more than the months. What is found before the years are folded
-- into months is what is found under year.
unfoldable pub tries_by_rule : IsoDate → IsoDate → TemporalUnit → ℕ
tries_by_rule one two unit =
    let found : DateDuration = calendar_date_until one two U.Year in
    cond (counts_months unit && (is_later two one || is_later one two))
    (cond (all_years_taken one two found) 3 2 + (nat_abs found.months + 1)) 0
