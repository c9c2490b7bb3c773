-- The same numbers as naturals, for the contracts inside: years counted from -8,000,000,000, a multiple of 400, and days from the
-- first day of that year. No public contract cites this.
use Rattle.std.specs.Prelude.{ℕ, ◌+◌, ◌-◌, ◌*◌, ◌/◌, ◌^◌, ◌≤◌, ◌<◌, Bool, get_or, ◌≡◌}
use Rattle.whole.specs.Whole.{◌⊖◌}
use Rattle.iso_date.specs.Proposal.{days_before_month, month_lengths, balanced_year, balanced_month}

abbrev pub year_bias : ℕ
year_bias = 8_000_000_000

abbrev pub day_bias : ℕ
day_bias = 2_921_940_719_528

abbrev pub month_bias : ℕ
month_bias = 4_800_000_000

-- the days before year u
unfoldable pub year_start : ℕ → ℕ
year_start u = 365 * u + (u + 3) / 4 - (u + 99) / 100 + (u + 399) / 400

-- year u holds day n: it has begun and the next has not
pub record YearHolds (n u : ℕ) : Type 0 where
  pub begun : year_start u ≤ n
  pub not_over : n < year_start (u + 1)
  pub small : u < 2 ^ 40

-- month i, counted from 0, holds day n of a year
pub record MonthHolds (leap : Bool) (n i : ℕ) : Type 0 where
  pub begun : days_before_month leap i ≤ n
  pub not_over : n < days_before_month leap i + get_or (month_lengths leap) i 0
  pub small : i < 12

-- year and index are the balance of year u and month m, the index counted from 0
pub record Balances (u m year index : ℕ) : Type 0 where
  pub year_is : year ⊖ year_bias ≡ balanced_year (u ⊖ year_bias) (m ⊖ month_bias)
  pub month_is : index + 1 ≡ balanced_month (m ⊖ month_bias)
  pub year_small : year < 2 ^ 40
  pub index_small : index < 12
