-- The exact count, and where it has no room in 64 bits it is past the balanced range.
use Rattle.std.proofs.Common.{rules, ◌≡◌, ◌∙◌, w64, to_z, of_z}
use mir.Facts.{to_z-of_z}
use Rattle.std.proofs.lemmas.Result.{err_from_is_err_and}
use Rattle.whole.proofs.Tests.{checked_is, checked_not}
use Rattle.iso_date.proofs.Answers.{first_is, count_given, count_far, before_fits}
use Rattle.refusal.specs.declared.Refusal.TheVariants.{DayCount}
use Rattle.iso_date.proofs.inner.balance_sum.Goals as goal

pub overflow_add-before : goal.overflow_add-before
overflow_add-before c =
    let z : to_z w64 (of_z w64 c.lower.result) ≡ c.lower.result = search rules in
    let b = before_fits c.lower.result c.args.carry _ c.lower.ensures c.start.ensures.1 c.requires in
    rw (to_z-of_z c.ranges.carry, to_z-of_z b.0, z) b.1

pub returns-in_err-count : goal.returns-in_err-count
returns-in_err-count c =
    let p = err_from_is_err_and c.from_residual.result c.from_residual.ensures.1 in
    let h = c.in_err-count.ensures in
    let z : to_z w64 (of_z w64 c.lower.result) ≡ c.lower.result = search rules in
    let b = before_fits c.lower.result c.args.carry _ c.lower.ensures c.start.ensures.1 c.requires in
    let m = rw (to_z-of_z c.ranges.year, to_z-of_z c.ranges.month) at c.balance.ensures in
    let first = first_is c.args.year c.args.month _ _ _ _ m.0 m.1 c.start.ensures.0 c.lower.ensures in
    let sum = rw (to_z-of_z c.ranges.day, to_z-of_z c.ranges.carry, to_z-of_z b.0, z, to_z-of_z b.1) at c.checked_add.ensures in
    let v = rw h.ok_part at h.value in
    let e : c.in_err-count.field-0.0 ≡ DayCount = cc in
    rw (p.1, p.2, e)
    (count_far c.args.year c.args.month _ c.args.day c.args.carry first (checked_not _ _ _ h.ok_part sum))

pub returns : goal.returns
returns c =
    let n : to_z w64 (of_z w64 c.in_ok-count.count) ≡ c.in_ok-count.count = search rules in
    let z : to_z w64 (of_z w64 c.lower.result) ≡ c.lower.result = search rules in
    let b = before_fits c.lower.result c.args.carry _ c.lower.ensures c.start.ensures.1 c.requires in
    let m = rw (to_z-of_z c.ranges.year, to_z-of_z c.ranges.month) at c.balance.ensures in
    let first = first_is c.args.year c.args.month _ _ _ _ m.0 m.1 c.start.ensures.0 c.lower.ensures in
    let sum = rw (to_z-of_z c.ranges.day, to_z-of_z c.ranges.carry, to_z-of_z b.0, z, to_z-of_z b.1) at c.checked_add.ensures in
    let is = checked_is _ _ _ _ c.in_ok-count.ensures.ok_part sum in
    (rw (n, is) at c.from_epoch_days.ensures) ∙ count_given c.args.year c.args.month _ c.args.day c.args.carry first
