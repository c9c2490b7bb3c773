-- Rounded by the size, with the rule of the sign.
use Rattle.std.proofs.Common.{◌∙◌}
use mir.Facts.{to_z-of_z}
use Rattle.rounding.proofs.Rounds.{round_is}
use Rattle.rounding.proofs.round.Goals as goal

pub returns : goal.returns
returns c =
    let rule = rw (to_z-of_z c.ranges.number) at c.get_unsigned_round_mode-rule.ensures in
    (rw (to_z-of_z c.ranges.number, rule) at c.round_by_size.ensures) ∙ round_is c.args.number c.args.step c.args.mode
