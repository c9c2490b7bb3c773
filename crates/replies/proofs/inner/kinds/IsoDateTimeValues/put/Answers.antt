-- The values of the date, and then of the time.
use Rattle.std.proofs.Common.{arith}
use Rattle.replies.proofs.Laws.{both_values}
use Rattle.replies.proofs.inner.kinds.IsoDateTimeValues.put.Goals as goal

pub returns : goal.returns
returns c = (both_values _ _ c.put-time.ensures.0 c.put.ensures.0, omega arith)
