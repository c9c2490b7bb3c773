-- A refusal writes nothing; else the text stands at the start.
use Rattle.std.proofs.Common.{arith}
use Rattle.std.proofs.lemmas.Result.{err_from_is_err_and}
use Rattle.date_text.proofs.Answers.{date_refused, date_has_no_room, date_written}
use Rattle.date_text.proofs.write_date.Goals as goal

pub returns-in_err-check_within_limits : goal.returns-in_err-check_within_limits
returns-in_err-check_within_limits c =
    let p = err_from_is_err_and c.from_residual.result c.from_residual.ensures.1 in
    rw (p.1, p.2) (date_refused _ _ _ _ c.in_err-check_within_limits.ensures)

pub returns-then-out-date_length : goal.returns-then-out-date_length
returns-then-out-date_length c =
    date_has_no_room _ _ _ c.in_ok-check_within_limits.ensures (omega (arith, c.date_length.ensures, c.if-out-date_length.true))

pub returns : goal.returns
returns c =
    date_written _ _ _ c.in_ok-check_within_limits.ensures (omega (arith, c.date_length.ensures, c.if-out-date_length.false)) c.put_date.ensures
