-- A refusal writes nothing; else the text stands at the start.
use Rattle.std.proofs.Common.{arith, rules, ap, length}
use Rattle.forms.proofs.Fractions.{trims_written}
use Rattle.date_forms.proofs.Texts.{time_length_is}
use Rattle.date_text.proofs.Answers.{time_refused, time_has_no_room, time_written}
use Rattle.date_text.proofs.write_time.Goals as goal

pub returns-then-not-is_valid : goal.returns-then-not-is_valid
returns-then-not-is_valid c = time_refused _ _ _ (search rules)

pub returns-then-out-time_length : goal.returns-then-out-time_length
returns-then-out-time_length c =
    let long = ap length (trims_written _ _ c.fraction_of-fraction.ensures) in
    time_has_no_room _ _ _ (search rules)
    (omega (arith, c.time_length.ensures.0, long, time_length_is c.args.time, c.if-out-time_length.true))

pub put_time-requires : goal.put_time-requires
put_time-requires c =
    let long = ap length (trims_written _ _ c.fraction_of-fraction.ensures) in
    (c.fraction_of-fraction.ensures, omega (arith, c.time_length.ensures.0, long, time_length_is c.args.time, c.if-out-time_length.false))

pub returns : goal.returns
returns c =
    let long = ap length (trims_written _ _ c.fraction_of-fraction.ensures) in
    time_written _ _ _ (search rules)
    (omega (arith, c.time_length.ensures.0, long, time_length_is c.args.time, c.if-out-time_length.false)) c.put_time.ensures
