-- Six numbers.
use Rattle.std.proofs.Common.{arith}
use Rattle.replies.proofs.Laws.{more_values, one_value}
use Rattle.replies.proofs.inner.kinds.IsoTimeValues.put.Goals as goal

pub returns : goal.returns
returns c =
    let h = rw c.from.ensures at c.put_natural-minute.ensures.0 in
    let m = rw c.from-2.ensures at c.put_natural-second.ensures.0 in
    let s = rw c.from-3.ensures at c.put_natural-millisecond.ensures.0 in
    let ms = rw c.from-4.ensures at c.put_natural-microsecond.ensures.0 in
    let us = rw c.from-5.ensures at c.put_natural-nanosecond.ensures.0 in
    let ns = rw c.from-6.ensures at c.put_natural.ensures.0 in
    (more_values _ _ h (more_values _ _ m (more_values _ _ s (more_values _ _ ms (more_values _ _ us (one_value _ ns))))), omega arith)
