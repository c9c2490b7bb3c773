-- The cell at the mode's row and the sign's column.
use Rattle.rounding.proofs.Rounds.{cell}
use Rattle.rounding.proofs.inner.get_unsigned_round_mode.Goals as goal

pub returns : goal.returns
returns c = rw (c.row.ensures.0, c.from.ensures) (cell c.args.mode c.args.negative)
