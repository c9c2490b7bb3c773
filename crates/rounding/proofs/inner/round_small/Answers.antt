-- The lower multiple, or the next; both are small.
use Rattle.std.proofs.Common.{arith}
use Rattle.rounding.proofs.Rounds.{size_up}
use Rattle.rounding.proofs.inner.round_small.Goals as goal

pub returns-then-up : goal.returns-then-up
returns-then-up c =
    let l = c.lower_multiple-lower.ensures in
    let s = rw c.if-up.true at (size_up _ _ _ _ l.up) in
    (omega (arith, s, l.lower), omega (arith, l.lower))

pub returns-else-up : goal.returns-else-up
returns-else-up c =
    let l = c.lower_multiple-lower.ensures in
    let s = rw c.if-up.false at (size_up _ _ _ _ l.up) in
    (omega (arith, s, l.lower), omega (arith, l.lower))
