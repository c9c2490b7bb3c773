-- The record checked, the time rounded, its day joined to the date; then the limits decide.
use Rattle.std.proofs.Common.{rules, arith, ◌≡◌, ◌∙◌, w64, to_z, of_z}
use Rattle.iso_date_time.proofs.Roundings.{rounded, few_days, day_valid, days_joined, count_never_refused, round_limits}
use Rattle.iso_date_time.proofs.IsoDateTime.round.Goals as goal

pub add_days-requires : goal.add_days-requires
add_days-requires c =
    let b = c.in_ok-rounded.rounded in
    let days : to_z w64 (of_z w64 b.days) ≡ b.days = search rules in
    (omega arith, rw days (few_days _ (rounded _ _ _ _ _ c.in_ok-rounded.ensures)))

pub returns-in_err-date : goal.returns-in_err-date
returns-in_err-date c =
    let b = c.in_ok-rounded.rounded in
    let days : to_z w64 (of_z w64 b.days) ≡ b.days = search rules in
    absurd (count_never_refused _ _ _ _ _ c.in_ok-record.ensures.1 c.in_ok-rounded.ensures _
    (days_joined _ _ _ _ _ c.in_ok-record.ensures.0 days c.in_err-date.ensures))

pub invariant_of-date : goal.invariant_of-date
invariant_of-date c = record { valid = day_valid _ _ c.in_ok-date.ensures }

pub invariant_of-time : goal.invariant_of-time
invariant_of-time c = record { valid = (rounded _ _ _ _ _ c.in_ok-rounded.ensures).valid }

pub returns : goal.returns
returns c =
    let b = c.in_ok-rounded.rounded in
    let days : to_z w64 (of_z w64 b.days) ≡ b.days = search rules in
    c.limited.ensures ∙
    round_limits _ _ _ _ _ c.in_ok-record.ensures.1 c.in_ok-rounded.ensures _
    (days_joined _ _ _ _ _ c.in_ok-record.ensures.0 days c.in_ok-date.ensures)
