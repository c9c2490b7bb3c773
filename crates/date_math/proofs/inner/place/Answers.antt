-- 384 places to a year and 32 to a month, at the bias.
use Rattle.std.proofs.Common.{rules, ◌≡◌, sym, ◌∙◌, w32, to_z, of_z}
use Rattle.date_math.proofs.Steps.{place_is}
use Rattle.date_math.proofs.inner.place.Goals as goal

pub returns : goal.returns
returns c =
    let d = c.args.valid.date in
    let year : to_z w32 (of_z w32 d.year) ≡ d.year = search rules in
    (rw (c.from.ensures, c.from-2.ensures) (place_is d.year _ d.month d.day (sym year ∙ c.year_up.ensures.0)), search rules)
