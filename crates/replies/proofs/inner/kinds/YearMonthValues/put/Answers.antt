-- Two numbers.
use Rattle.std.proofs.Common.{rules, arith, ◌≡◌, w64, to_z, of_z}
use Rattle.replies.proofs.Laws.{more_values, one_value}
use Rattle.replies.proofs.inner.kinds.YearMonthValues.put.Goals as goal

pub returns : goal.returns
returns c =
    let year : to_z w64 (of_z w64 c.from.result) ≡ c.args.self.year = search rules in
    let y = rw year at c.put_integer-month.ensures.0 in
    let m = rw c.from-2.ensures at c.put_natural.ensures.0 in
    (more_values _ _ y (one_value _ m), omega arith)
