-- The gap of the places tells years and months and how many of them were tried, the day numbers what is left: the record of the
-- definition, in closed form.
use Rattle.std.proofs.Common.{rules, arith, ◌≡◌, ◌∙◌, w32, to_z, of_z}
use Rattle.date_math.proofs.Until.{put_together}
use Rattle.date_math.proofs.Tries.{with_tries, gap_near, tries_put}
use Rattle.date_math.proofs.inner.difference.Goals as goal

pub years_and_months-found-requires : goal.years_and_months-found-requires
years_and_months-found-requires c =
    let first : to_z w32 (of_z w32 c.args.one.date.year) ≡ c.args.one.date.year = search rules in
    let second : to_z w32 (of_z w32 c.args.two.date.year) ≡ c.args.two.date.year = search rules in
    rw (c.from-apart.ensures, c.abs_diff.ensures, second, first, c.abs_diff-2.ensures) (
      gap_near c.args.one.date c.args.two.date c.args.one.valid c.args.two.valid _ _ c.place-from.ensures.0 c.place-to.ensures.0,
      omega (arith, c.place-from.ensures.1, c.place-to.ensures.1),
    )

pub returns : goal.returns
returns c =
    let one = c.args.one.date in
    let two = c.args.two.date in
    let first : to_z w32 (of_z w32 one.year) ≡ one.year = search rules in
    let second : to_z w32 (of_z w32 two.year) ≡ two.year = search rules in
    let found = rw (c.from-apart.ensures, c.abs_diff.ensures, second, first, c.abs_diff-2.ensures) at c.years_and_months-found.ensures in
    with_tries _ _ _ _
    (c.parts.ensures ∙
    put_together one two c.args.unit c.args.one.valid c.args.two.valid _ _ _ _ _ _ _ _ c.place-from.ensures.0 c.place-to.ensures.0 found.0.0 found.0.1
    c.rest_start-start.ensures.0 c.day_up.ensures.0 c.abs_diff-rest.ensures c.weeks_of-weeks.ensures.0)
    (found.1.1 ∙ tries_put one two c.args.one.valid c.args.two.valid _ _ c.place-from.ensures.0 c.place-to.ensures.0 c.args.unit)
