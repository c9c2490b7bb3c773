-- February is the table's 28 and the leap day; the other months stand in the table.
use Rattle.std.proofs.Common.{◌∙◌, ◌-◌, ◌<◌, arith}
use Rattle.iso_date.proofs.Tables.{one_if, length_february, length_other}
use Rattle.iso_date.proofs.inner.month_days.Goals as goal

pub returns-then-m-eq2 : goal.returns-then-m-eq2
returns-then-m-eq2 c = rw c.if-m-eq2.true (length_february _ _ (c.from.ensures ∙ one_if _))

pub returns-else-m-eq2 : goal.returns-else-m-eq2
returns-else-m-eq2 c =
    let h : c.args.m - 1 < 12 = omega arith in
    length_other _ _ h (λ e. c.if-m-eq2.false (omega arith))
