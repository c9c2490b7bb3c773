-- The months counted on are balanced by 12, and the day is constrained to the month that they lead to.
use Rattle.std.proofs.Common.{rules, arith, ◌≡◌, ◌%◌, sym, ◌∙◌, w32, to_z, of_z}
use mir.Val.{SFits}
use Rattle.iso_date.proofs.Dates.{read_valid}
use Rattle.iso_date.proofs.Tables.{length_least}
use Rattle.date_math.proofs.Steps.{rest_start_is, many_before}
use Rattle.date_math.proofs.inner.rest_start.Goals as goal

pub of-first-requires : goal.of-first-requires
of-first-requires c = let v = read_valid _ _ _ c.args.valid.valid in (v.month_low, v.month_high)

pub month_reached-month-requires : goal.month_reached-month-requires
month_reached-month-requires c =
    let d = c.args.valid.date in
    let f : SFits w32 d.year = search rules in
    let year : to_z w32 (of_z w32 d.year) ≡ d.year = search rules in
    omega (arith, many_before _ _ f (sym year ∙ c.of-first.ensures.0))

pub invariant_of-month : goal.invariant_of-month
invariant_of-month c =
    let d = c.args.valid.date in
    let f : SFits w32 d.year = search rules in
    let year : to_z w32 (of_z w32 d.year) ≡ d.year = search rules in
    let few = many_before _ _ f (sym year ∙ c.of-first.ensures.0) in
    record { within = omega (arith, few) }

pub clamp-requires : goal.clamp-requires
clamp-requires c = rw c.days.ensures.0 (length_least _ (c.month_reached-month.result % 12) (omega arith))

pub returns : goal.returns
returns c =
    let d = c.args.valid.date in
    let year : to_z w32 (of_z w32 d.year) ≡ d.year = search rules in (
      rw c.from.ensures
          (rest_start_is _ d.year d.month _ d.day _ _ _ _ _ _ c.of-first.ensures.1 (sym year ∙ c.of-first.ensures.0) c.month_reached-month.ensures.0
          c.days.ensures.0 c.start.ensures.0 c.clamp.ensures),
      search rules,
    )
