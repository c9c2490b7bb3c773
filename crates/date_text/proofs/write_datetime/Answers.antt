-- A refusal writes nothing; else the date, the T and the time stand one after another at the start.
use Rattle.std.proofs.Common.{arith, ap, length}
use Rattle.std.proofs.lemmas.Result.{err_from_is_err_and}
use Rattle.writing.proofs.Writing.{after}
use Rattle.forms.proofs.Fractions.{trims_written}
use Rattle.date_forms.proofs.Texts.{time_length_is}
use Rattle.iso_date_time.proofs.Moments.{limits_fine}
use Rattle.date_text.specs.Paper.{date_time_text}
use Rattle.date_text.proofs.Answers.{stamp_refused, stamp_has_no_room, stamp_written, stamp_length}
use Rattle.date_text.proofs.write_datetime.Goals as goal

pub returns-in_err-check_within_limits : goal.returns-in_err-check_within_limits
returns-in_err-check_within_limits c =
    let p = err_from_is_err_and c.from_residual.result c.from_residual.ensures.1 in
    rw (p.1, p.2) (stamp_refused _ _ _ _ c.in_err-check_within_limits.ensures)

pub fraction_of-fraction-requires : goal.fraction_of-fraction-requires
fraction_of-fraction-requires c = (limits_fine _ c.in_ok-check_within_limits.ensures).time_valid

pub returns-then-out-date_length : goal.returns-then-out-date_length
returns-then-out-date_length c =
    let trimmed = ap length (trims_written _ _ c.fraction_of-fraction.ensures) in
    stamp_has_no_room _ _ _ c.in_ok-check_within_limits.ensures
    (omega (
      arith,
      stamp_length c.args.stamp,
      c.date_length.ensures.0,
      c.time_length.ensures.0,
      trimmed,
      time_length_is c.args.stamp.time,
      c.if-out-date_length.true,
    ))

pub put_time-end-requires : goal.put_time-end-requires
put_time-end-requires c =
    let trimmed = ap length (trims_written _ _ c.fraction_of-fraction.ensures) in
    let mark = c.put_date-mark.ensures in
    let start = c.put_byte-start.ensures in (
      c.fraction_of-fraction.ensures,
      omega (
        arith,
        stamp_length c.args.stamp,
        c.date_length.ensures.0,
        c.time_length.ensures.0,
        trimmed,
        time_length_is c.args.stamp.time,
        c.if-out-date_length.false,
        mark.ends,
        mark.sized,
        start.ends,
        start.sized,
      ),
    )

pub returns : goal.returns
unfolding date_time_text
returns c =
    let trimmed = ap length (trims_written _ _ c.fraction_of-fraction.ensures) in
    stamp_written _ _ _ c.in_ok-check_within_limits.ensures
    (omega (
      arith,
      stamp_length c.args.stamp,
      c.date_length.ensures.0,
      c.time_length.ensures.0,
      trimmed,
      time_length_is c.args.stamp.time,
      c.if-out-date_length.false,
    ))
    (after c.put_date-mark.ensures (after c.put_byte-start.ensures c.put_time-end.ensures))
