-- The lower multiple, or the next where there is room for it.
use Rattle.rounding.proofs.Rounds.{size_up}
use Rattle.rounding.proofs.inner.round_size.Goals as goal

pub returns : goal.returns
returns c =
    let l = c.lower_multiple-lower.ensures in
    rw (size_up _ _ _ _ l.up) (rw l.lower.0 at c.multiple.ensures)
