-- Fields, unit and increment are checked in turn.
use Rattle.std.proofs.Common.{ap, sym, ◌∙◌}
use Rattle.refusal.specs.Answer.{given}
use Rattle.iso_time.proofs.Checks.{allowed_is, scaled, round_given}
use Rattle.iso_time.proofs.IsoTime.round.Goals as goal

pub round-requires : goal.round-requires
round-requires c =
    let u = scaled c.args.unit c.in_ok-scale.scale (sym c.in_ok-scale.ensures.ok_part ∙ c.scale_of.ensures) in
    (c.in_ok-time.time.valid, (u.some, sym (allowed_is _ _ _ u.dividend_is) ∙ sym c.if-not-allows.ensures))

pub returns : goal.returns
returns c =
    let scale = sym c.in_ok-scale.ensures.ok_part ∙ c.scale_of.ensures in
    ap given c.round.ensures ∙ round_given _ _ _ _ _ c.in_ok-time.ensures _ scale (sym c.if-not-allows.ensures)
