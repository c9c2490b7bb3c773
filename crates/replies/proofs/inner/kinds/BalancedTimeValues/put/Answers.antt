-- The days, and then the values of the time.
use Rattle.std.proofs.Common.{rules, arith, ◌≡◌, w64, to_z, of_z}
use Rattle.replies.proofs.Laws.{both_values}
use Rattle.replies.proofs.inner.kinds.BalancedTimeValues.put.Goals as goal

pub returns : goal.returns
returns c =
    let days : to_z w64 (of_z w64 c.args.self.days) ≡ c.args.self.days = search rules in
    (both_values _ _ (rw days at c.put-time.ensures.0) c.put.ensures.0, omega arith)
