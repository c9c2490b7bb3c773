-- Four numbers.
use Rattle.std.proofs.Common.{rules, arith, ◌≡◌, w64, to_z, of_z}
use Rattle.replies.proofs.Laws.{both_values}
use Rattle.replies.proofs.inner.kinds.DateDurationValues.put.Goals as goal

pub returns : goal.returns
returns c =
    let d = c.args.self in
    let years : to_z w64 (of_z w64 d.years) ≡ d.years = search rules in
    let months : to_z w64 (of_z w64 d.months) ≡ d.months = search rules in
    let weeks : to_z w64 (of_z w64 d.weeks) ≡ d.weeks = search rules in
    let days : to_z w64 (of_z w64 d.days) ≡ d.days = search rules in
    let last = both_values _ _ (rw weeks at c.put-days.ensures.0) (rw days at c.put.ensures.0) in
    (both_values _ _ (rw years at c.put-months.ensures.0) (both_values _ _ (rw months at c.put-weeks.ensures.0) last), omega arith)
