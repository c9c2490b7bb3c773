-- The values of the duration, and then the count.
use Rattle.std.proofs.Common.{arith}
use Rattle.replies.proofs.Laws.{both_values}
use Rattle.replies.proofs.inner.kinds.put_counted.Goals as goal

pub returns : goal.returns
returns g c = (both_values _ _ c.put-count.ensures.0 c.put.ensures.0, omega arith)
