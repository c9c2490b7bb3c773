-- The readings of the bench hold: each is a computation of the definitions.
use mathlib.Core.Path.{◌≡◌, refl, ◌∙◌, ap}
use mathlib.Core.Bool.{true}
use mathlib.Core.List.{[], ◌∷◌}
use lib.IntN.{pos, neg_ℤ}
use Rattle.refusal.specs.Answer.{given}
use Rattle.whole.specs.Whole.{fdiv, fmod, clamp_z}
use Rattle.iso_date.specs.Proposal.{date, day_from_year, leap_year, month_lengths, iso_days_in_month, days_before_month, day_from_month}
use Rattle.iso_date.specs.Proposal.{iso_date_to_epoch_days, is_valid_iso_date, year_from_day, month_of, day_of, epoch_days_to_iso_date, constrain_iso_date}
use Rattle.iso_date.specs.Proposal.{ns_within_limits}
use Rattle.iso_date.specs.Paper.{balanced, date_to_day, day_to_date, date_limits, regulate_date, make_date}
use Rattle.iso_date.specs.declared.IsoDate.{IsoDate}
use Rattle.rounding.specs.Proposal.{get_unsigned_rounding_mode, apply_unsigned_rounding_mode, round_quotient, round_number_to_increment}
use Rattle.rounding.specs.Proposal.{round_number_to_increment_as_if_positive}
use Rattle.rounding.specs.Paper.{in_signed64, round_number, round_number_as_if_positive}
use Rattle.iso_time.specs.Proposal.{is_valid_time, balance_time, nanoseconds, unit_length, quantity, rounded_units, round_time, valid_increment}
use Rattle.iso_time.specs.Paper.{all_bounded, balance_time_fields, rounded_time}
use Rattle.date_duration.specs.Proposal.{any_below, any_above, small, small_days, all_small, is_valid_duration}
use Rattle.date_math.specs.Proposal.{moved_by, is_later, kept, years_until, months_until, rest_start, days_until, years_found, months_found}
use Rattle.date_math.specs.Proposal.{weeks_found, date_until, calendar_date_until}
use Rattle.date_math.specs.Paper.{sum_steps, date_sum, date_difference}
use Rattle.date_math.specs.Tries.{tries, year_tries, month_tries, tries_until, calendar_date_tries}
use Rattle.date_math.specs.Inner.{place_of, years_in, months_in, weeks_in, tries_in}
use Rattle.date_math.proofs.Until.{difference_is}
use Rattle.date_math.proofs.Tries.{tries_found, with_tries}
use Rattle.date_math.proofs.Counts.{all_given}
use Rattle.options.specs.declared.Unit.TheVariants as U
use Rattle.replies.specs.Replies.{shown, date_difference_values}
use Rattle.calls.specs.Table.{answers_of}
use Rattle.calls.specs.Readings.{AllAnswered, readings}

-- the whole span of the calendar: the candidates are too many to be tried one by one here, so the difference and the number of those that
-- are tried are taken in closed form
whole_span : answers_of "date_difference" (neg_ℤ (pos 271821) ∷ pos 4 ∷ pos 19 ∷ pos 275760 ∷ pos 9 ∷ pos 13 ∷ pos 0 ∷ []) ≡
    shown (λ vs. vs) (given (pos 547581 ∷ pos 4 ∷ pos 0 ∷ pos 25 ∷ pos 8 ∷ []))
unfolding place_of years_in months_in weeks_in tries_in fdiv fmod day_from_year leap_year month_lengths iso_days_in_month days_before_month day_from_month
    iso_date_to_epoch_days is_valid_iso_date constrain_iso_date ns_within_limits moved_by rest_start
whole_span =
    let one : IsoDate = date (neg_ℤ (pos 271821)) 4 19 in
    let two : IsoDate = date (pos 275760) 9 13 in
    ap (shown date_difference_values)
    (all_given one two U.Year refl refl refl refl refl ∙
    ap given (with_tries _ _ _ _ (difference_is true one two U.Year refl refl 210271258 25 refl refl)
    (tries_found true one two refl refl 210271258 refl U.Year)))

pub every_reading : AllAnswered readings
unfolding fdiv fmod clamp_z day_from_year leap_year month_lengths iso_days_in_month days_before_month day_from_month iso_date_to_epoch_days is_valid_iso_date year_from_day
    month_of day_of epoch_days_to_iso_date constrain_iso_date ns_within_limits balanced date_to_day day_to_date date_limits regulate_date make_date
    get_unsigned_rounding_mode apply_unsigned_rounding_mode round_quotient round_number_to_increment round_number_to_increment_as_if_positive in_signed64 round_number
    round_number_as_if_positive is_valid_time balance_time nanoseconds unit_length quantity rounded_units round_time valid_increment all_bounded balance_time_fields
    rounded_time any_below any_above small small_days all_small is_valid_duration moved_by is_later kept years_until months_until rest_start days_until years_found
    months_found weeks_found date_until calendar_date_until tries year_tries month_tries tries_until calendar_date_tries sum_steps date_sum date_difference
every_reading = (
  record { takes = refl; answers = refl },
  (
    record { takes = refl; answers = refl },
    (
      record { takes = refl; answers = refl },
      (
        record { takes = refl; answers = refl },
        (
          record { takes = refl; answers = refl },
          (
            record { takes = refl; answers = refl },
            (
              record { takes = refl; answers = refl },
              (
                record { takes = refl; answers = refl },
                (
                  record { takes = refl; answers = refl },
                  (
                    record { takes = refl; answers = refl },
                    (
                      record { takes = refl; answers = refl },
                      (
                        record { takes = refl; answers = refl },
                        (
                          record { takes = refl; answers = refl },
                          (
                            record { takes = refl; answers = refl },
                            (
                              record { takes = refl; answers = whole_span },
                              (record { takes = refl; answers = refl }, (record { takes = refl; answers = refl }, tt)),
                            ),
                          ),
                        ),
                      ),
                    ),
                  ),
                ),
              ),
            ),
          ),
        ),
      ),
    ),
  ),
)
