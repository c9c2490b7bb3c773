-- The size rounded, and its sign put to it: an exact result that has no room is 7.
use Rattle.std.proofs.Common.{◌≡◌, ◌<◌, ◌^◌, ◌≤ℤ◌, pos, arith, w64}
use Rattle.std.proofs.lemmas.Result.{err_from_is_err_and}
use mir.Facts.{to_z-of_z, to_z_pos}
use Rattle.refusal.specs.declared.Refusal.TheVariants.{Bound}
use Rattle.whole.proofs.Laws.{ints}
use Rattle.whole.proofs.Tests.{checked_not}
use Rattle.rounding.proofs.Rounds.{by_size_above, by_size_below, fits_above, fits_below, past_above, past_below, rounded_given, rounded_past}
use Rattle.rounding.proofs.inner.round_by_size.Goals as goal

pub returns-in_err-size : goal.returns-in_err-size
returns-in_err-size c =
    let p = err_from_is_err_and c.from_residual.result c.from_residual.ensures.1 in
    let h = c.in_err-size.ensures in
    let v = rw h.ok_part at h.value in
    let e : c.in_err-size.field-0.0 ≡ Bound = cc in
    let s = rw (to_z-of_z c.ranges.number) at c.size_of_negative-below.ensures in
    rw (p.1, p.2, e, by_size_below _ _ _ _ s.0 s.1.0)
    (rounded_past c.args.step _ c.if-step-eq0.false (past_below _ _ (checked_not _ _ _ h.ok_part c.round_size.ensures) (omega arith)))

pub returns-in_err-size-2 : goal.returns-in_err-size-2
returns-in_err-size-2 c =
    let p = err_from_is_err_and c.from_residual-in_err-size-2.result c.from_residual-in_err-size-2.ensures.1 in
    let h = c.in_err-size-2.ensures in
    let v = rw h.ok_part at h.value in
    let e : c.in_err-size-2.field-0.0 ≡ Bound = cc in
    let above : pos 0 ≤ℤ c.args.number = omega (arith, ints) in
    let size = rw (c.unsigned_abs.ensures.value, to_z-of_z c.ranges.number) at c.round_size-else-number-lt0.ensures in
    rw (p.1, p.2, e, by_size_above _ _ _ above)
    (rounded_past c.args.step _ c.if-step-eq0.false (past_above _ _ (checked_not _ _ _ h.ok_part size) (omega arith)))

pub returns-in_ok-size : goal.returns-in_ok-size
returns-in_ok-size c =
    let s = rw (to_z-of_z c.ranges.number) at c.size_of_negative-below.ensures in
    let held = rw c.in_ok-size.ensures.ok_part at c.round_size.ensures in
    let fits = fits_below _ _ held.0 (omega arith) in
    rw (c.negated.ensures, held.1, to_z-of_z fits, by_size_below _ _ _ _ s.0 s.1.0) (rounded_given c.args.step _ c.if-step-eq0.false fits)

pub returns-in_ok-size-2 : goal.returns-in_ok-size-2
returns-in_ok-size-2 c =
    let above : pos 0 ≤ℤ c.args.number = omega (arith, ints) in
    let size = rw (c.unsigned_abs.ensures.value, to_z-of_z c.ranges.number) at c.round_size-else-number-lt0.ensures in
    let held = rw c.in_ok-size-2.ensures.ok_part at size in
    let room : c.in_ok-size-2.size < 2 ^ 63 = omega (arith, held.0, held.1) in
    rw (to_z_pos w64 room, held.1, by_size_above _ _ _ above) (rounded_given c.args.step _ c.if-step-eq0.false (fits_above _ _ held.0 (omega arith)))
