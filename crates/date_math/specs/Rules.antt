-- What the difference of two dates must be, in the words of those who use it and without a way to compute it: the larger parts are
-- zero and weeks stand only under week; the years, then the months, are the most that can be moved before the first date, its day not
-- shortened, passes the second; what is left is days, under week whole weeks and fewer than seven days; no part opposes another in
-- sign; and the sum, under constrain, gives the second date.
use Rattle.std.specs.Prelude.{◌<◌, ◌≡◌, Bool, true, false, not, ◌&&◌, ◌||◌, ℤ, pos, nat_abs}
use Rattle.refusal.specs.Answer.{given}
use Rattle.iso_date.specs.declared.IsoDate.{IsoDate}
use Rattle.date_duration.specs.Proposal.{any_below, any_above}
use Rattle.date_duration.specs.declared.DateDuration.{DateDuration}
use Rattle.options.specs.declared.Overflow.TheVariants.{Constrain}
use Rattle.options.specs.declared.Unit.{Unit as TemporalUnit}
use Rattle.date_math.specs.Proposal.{is_later, in_years, moved_by, counts_years, counts_months, counts_weeks}
use Rattle.date_math.specs.Paper.{date_sum}

-- a triple stands on the way from one date to another, both ends included: it has not passed the second
abbrev pub on_the_way : IsoDate → IsoDate → IsoDate → Bool
on_the_way one two t = (not (is_later one t) && not (is_later t two)) || (not (is_later t one) && not (is_later two t))

-- n is the most: moved by n it has not passed, and moved by any count that is larger in size it has
pub record Most (not_passed : ℤ → Bool) (n : ℤ) : Type 0 where
  pub stands : not_passed n ≡ true
  pub larger_pass : (k : ℤ) → nat_abs n < nat_abs k → not_passed k ≡ false

pub record MeetsTheRules (one two : IsoDate) (unit : TemporalUnit) (r : DateDuration) : Type 0 where
  pub no_years : counts_years unit ≡ false → r.years ≡ pos 0
  pub no_months : counts_months unit ≡ false → r.months ≡ pos 0
  pub no_weeks : counts_weeks unit ≡ false → r.weeks ≡ pos 0
  pub most_years : counts_years unit ≡ true → Most (λ k. on_the_way one two (in_years one k)) r.years
  -- months are counted on from where the years lead
  pub most_months : counts_months unit ≡ true → Most (λ k. on_the_way (in_years one r.years) two (moved_by one r.years k)) r.months
  pub whole_weeks : counts_weeks unit ≡ true → nat_abs r.days < 7
  pub not_opposed : (any_below r && any_above r) ≡ false
  pub adds_back : date_sum one r Constrain ≡ given two
