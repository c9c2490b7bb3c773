-- The time's balance, whose refusal ends it, then the date of the exact count with the carry.
use Rattle.std.proofs.Common.{rules, ◌≡◌, w64, to_z, of_z}
use Rattle.std.proofs.lemmas.Result.{err_from_is_err_and}
use mir.Facts.{to_z-of_z}
use Rattle.iso_date_time.proofs.Moments.{bound_handed_on, count_handed_on, balance_is, carry_small}
use Rattle.iso_date_time.proofs.IsoDateTime.balance.Goals as goal

pub returns-in_err-balanced : goal.returns-in_err-balanced
returns-in_err-balanced c =
    let f = c.ranges in
    let p = err_from_is_err_and c.from_residual.result c.from_residual.ensures.1 in
    let most = rw (to_z-of_z f.hour, to_z-of_z f.minute, to_z-of_z f.second, to_z-of_z f.millisecond) at c.in_err-balanced.ensures in
    rw (p.1, p.2) (bound_handed_on _ _ _ _ _ _ _ _ _ _ (rw (to_z-of_z f.microsecond, to_z-of_z f.nanosecond) at most))

pub balance_sum-requires : goal.balance_sum-requires
balance_sum-requires c =
    let b = c.in_ok-balanced.balanced in
    let days : to_z w64 (of_z w64 b.days) ≡ b.days = search rules in
    rw days (carry_small _ _ _ _ _ _ _ c.in_ok-balanced.ensures)

pub returns-in_err-date : goal.returns-in_err-date
returns-in_err-date c =
    let f = c.ranges in
    let b = c.in_ok-balanced.balanced in
    let days : to_z w64 (of_z w64 b.days) ≡ b.days = search rules in
    let p = err_from_is_err_and c.from_residual-in_err-date.result c.from_residual-in_err-date.ensures.1 in
    let most = rw (to_z-of_z f.hour, to_z-of_z f.minute, to_z-of_z f.second, to_z-of_z f.millisecond) at c.in_ok-balanced.ensures in
    let time = rw (to_z-of_z f.microsecond, to_z-of_z f.nanosecond) at most in
    rw (p.1, p.2) (count_handed_on _ _ _ _ _ _ _ _ _ b _ time (rw (to_z-of_z f.year, to_z-of_z f.month, to_z-of_z f.day, days) at c.in_err-date.ensures))

pub returns : goal.returns
returns c =
    let f = c.ranges in
    let b = c.in_ok-balanced.balanced in
    let days : to_z w64 (of_z w64 b.days) ≡ b.days = search rules in
    let most = rw (to_z-of_z f.hour, to_z-of_z f.minute, to_z-of_z f.second, to_z-of_z f.millisecond) at c.in_ok-balanced.ensures in
    let time = rw (to_z-of_z f.microsecond, to_z-of_z f.nanosecond) at most in
    balance_is _ _ _ _ _ _ _ _ _ b _ time (rw (to_z-of_z f.year, to_z-of_z f.month, to_z-of_z f.day, days) at c.in_ok-date.ensures)
