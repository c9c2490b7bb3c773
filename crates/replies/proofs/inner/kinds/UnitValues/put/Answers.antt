-- Nothing is written.
use Rattle.std.proofs.Common.{arith}
use Rattle.replies.proofs.Laws.{no_value}
use Rattle.replies.proofs.inner.kinds.UnitValues.put.Goals as goal

pub returns : goal.returns
returns c = (no_value _ _, omega arith)
