-- `writing::inner::digit_count` meets its contract.
use Rattle.std.proofs.Common.{arith}
use Rattle.writing.proofs.Digits.{count_max}
use Rattle.writing.proofs.inner.digit_count.Goals as goal

pub returns : goal.returns
returns c = let h = c.ilog10.ensures in count_max c.args.n c.ilog10.result (omega arith) (omega arith) (omega arith)
