-- Each part of a valid duration is small enough to be turned.
use Rattle.std.proofs.Common.{rules, arith, ap, ◌∙◌}
use Rattle.refusal.specs.Answer.{given}
use Rattle.date_duration.proofs.Durations.{bounded, checked_valid, same_parts, turned_fits, turned_is, negated_given}
use Rattle.date_duration.proofs.DateDuration.negated.Goals as goal

pub overflow_sub-result : goal.overflow_sub-result
overflow_sub-result c = turned_fits c.in_ok-valid.valid.years (search rules) (omega (arith, (bounded _ (checked_valid _ _ c.in_ok-valid.ensures)).years_low))

pub overflow_sub-result-2 : goal.overflow_sub-result-2
overflow_sub-result-2 c = turned_fits c.in_ok-valid.valid.months (search rules) (omega (arith, (bounded _ (checked_valid _ _ c.in_ok-valid.ensures)).months_low))

pub overflow_sub-result-3 : goal.overflow_sub-result-3
overflow_sub-result-3 c = turned_fits c.in_ok-valid.valid.weeks (search rules) (omega (arith, (bounded _ (checked_valid _ _ c.in_ok-valid.ensures)).weeks_low))

pub overflow_sub-result-4 : goal.overflow_sub-result-4
overflow_sub-result-4 c = turned_fits c.in_ok-valid.valid.days (search rules) (omega (arith, (bounded _ (checked_valid _ _ c.in_ok-valid.ensures)).days_low))

pub returns : goal.returns
returns c =
    let x = c.in_ok-valid.valid in
    let b = bounded x (checked_valid _ _ c.in_ok-valid.ensures) in
    let years = turned_is x.years (search rules) (omega (arith, b.years_low)) in
    let months = turned_is x.months (search rules) (omega (arith, b.months_low)) in
    let weeks = turned_is x.weeks (search rules) (omega (arith, b.weeks_low)) in
    let days = turned_is x.days (search rules) (omega (arith, b.days_low)) in
    ap given (same_parts _ _ _ _ _ _ _ _ years months weeks days) ∙ negated_given _ _ c.in_ok-valid.ensures
