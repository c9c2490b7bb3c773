-- One number.
use Rattle.std.proofs.Common.{arith}
use Rattle.replies.proofs.Laws.{one_value}
use Rattle.replies.proofs.inner.kinds.U8Values.put.Goals as goal

pub returns : goal.returns
returns c = (one_value _ (rw c.from.ensures at c.put_natural.ensures.0), omega arith)
