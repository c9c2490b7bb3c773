-- Two numbers.
use Rattle.std.proofs.Common.{rules, arith, ◌≡◌, w64, to_z, of_z}
use Rattle.replies.proofs.Laws.{both_values}
use Rattle.replies.proofs.inner.kinds.TimeDurationValues.put.Goals as goal

pub returns : goal.returns
returns c =
    let seconds : to_z w64 (of_z w64 c.args.self.seconds) ≡ c.args.self.seconds = search rules in
    let nanoseconds : to_z w64 (of_z w64 c.args.self.nanoseconds) ≡ c.args.self.nanoseconds = search rules in
    (both_values _ _ (rw seconds at c.put-nanoseconds.ensures.0) (rw nanoseconds at c.put.ensures.0), omega arith)
