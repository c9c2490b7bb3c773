-- One number.
use Rattle.std.proofs.Common.{arith}
use mir.Facts.{to_z-of_z}
use Rattle.replies.proofs.Laws.{one_value}
use Rattle.replies.proofs.inner.kinds.I64Values.put.Goals as goal

pub returns : goal.returns
returns c = (one_value _ (rw (to_z-of_z c.ranges.self) at c.put_integer.ensures.0), omega arith)
