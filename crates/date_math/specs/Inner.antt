-- The same counts as naturals, for the contracts inside: a triple of year, month and day as one number, 32 days to a month and 12
-- months to a year, so that a day that its month does not have keeps its place. No public contract cites this.
use Rattle.std.specs.Prelude.{ℕ, ◌+◌, ◌-◌, ◌*◌, ◌/◌, cond, ◌&&◌, ltb, ℤ, pos, ◌+ℤ◌, ◌*ℤ◌}
use Rattle.iso_date.specs.declared.IsoDate.{IsoDate}
use Rattle.iso_date.specs.Inner.{year_bias}
use Rattle.options.specs.declared.Unit.{Unit as TemporalUnit}
use Rattle.date_math.specs.Proposal.{counts_years, counts_months, counts_weeks}

unfoldable pub place_of : IsoDate → ℤ
place_of d = pos 384 *ℤ d.year +ℤ pos (32 * d.month + d.day)

abbrev pub place_bias : ℕ
place_bias = 384 * year_bias

-- how many years and months lie within a distance of places, and how many weeks within one of days
unfoldable pub years_in : TemporalUnit → ℕ → ℕ
years_in unit gap = cond (counts_years unit) (gap / 384) 0

unfoldable pub months_in : TemporalUnit → ℕ → ℕ
months_in unit gap = cond (counts_months unit) ((gap - 384 * years_in unit gap) / 32) 0

unfoldable pub weeks_in : TemporalUnit → ℕ → ℕ
weeks_in unit rest = cond (counts_weeks unit) (rest / 7) 0

-- how many candidates are tried to find years and months, between dates so many years apart: of the years from `apart - 1` to the first
-- that passes, `gap / 384 + 1`, both counted; of the months from 1
abbrev pub year_tries_in : ℕ → ℕ → ℕ
year_tries_in gap apart = gap / 384 + 2 - (apart - 1)

unfoldable pub tries_in : TemporalUnit → ℕ → ℕ → ℕ
tries_in unit gap apart = cond (counts_months unit && ltb 0 gap) (year_tries_in gap apart + ((gap - 384 * (gap / 384)) / 32 + 1)) 0
