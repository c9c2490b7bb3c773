-- Each part of a valid duration is small enough that its size fits.
use Rattle.std.proofs.Common.{rules, ap, ◌∙◌}
use Rattle.refusal.specs.Answer.{given}
use Rattle.date_duration.proofs.Durations.{same_parts, size_is, abs_given}
use Rattle.date_duration.proofs.DateDuration.abs.Goals as goal

pub returns : goal.returns
returns c =
    let x = c.in_ok-valid.valid in
    let years = size_is x.years (search rules) c.abs.result (search rules) c.abs.ensures.value in
    let months = size_is x.months (search rules) c.abs-2.result (search rules) c.abs-2.ensures.value in
    let weeks = size_is x.weeks (search rules) c.abs-3.result (search rules) c.abs-3.ensures.value in
    let days = size_is x.days (search rules) c.abs-4.result (search rules) c.abs-4.ensures.value in
    ap given (same_parts _ _ _ _ _ _ _ _ years months weeks days) ∙ abs_given _ _ c.in_ok-valid.ensures
