-- What the calls on date durations answer, for every input: a duration that is not valid is 8.
use Rattle.std.specs.Prelude.{ℤ, Option}
use Rattle.std.specs.declared.cmp.Ordering.{Ordering}
use Rattle.std.specs.declared.cmp.Ordering.TheVariants.{Less, Equal, Greater}
use Rattle.refusal.specs.Answer.{Answer, given, check}
use Rattle.date_duration.specs.Proposal.{is_valid_duration, date_duration_sign, absolute, negation, adjusted}
use Rattle.date_duration.specs.declared.DateDuration.{DateDuration}
use Rattle.date_duration.specs.declared.Sign.{Sign}
use Rattle.date_duration.specs.declared.Sign.TheVariants.{Negative, Zero, Positive}

unfoldable pub new_duration : DateDuration → Answer DateDuration
new_duration d = check (is_valid_duration d) 8 (given d)

unfoldable pub duration_sign : DateDuration → Answer Sign
duration_sign d = check (is_valid_duration d) 8 (given (date_duration_sign d))

-- the sign of a number, from how it compares to 0
abbrev pub sign_from : Ordering → Sign
sign_from Less = Negative
sign_from Equal = Zero
sign_from Greater = Positive

unfoldable pub duration_abs : DateDuration → Answer DateDuration
duration_abs d = check (is_valid_duration d) 8 (given (absolute d))

unfoldable pub duration_negated : DateDuration → Answer DateDuration
duration_negated d = check (is_valid_duration d) 8 (given (negation d))

-- the duration first, then what comes out
unfoldable pub duration_adjust : DateDuration → ℤ → Option ℤ → Option ℤ → Answer DateDuration
duration_adjust d days weeks months = check (is_valid_duration d) 8 (new_duration (adjusted d days weeks months))
