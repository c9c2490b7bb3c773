-- Months are added or taken away, and no more are taken than there are.
use Rattle.std.proofs.Common.{rules}
use Rattle.date_math.proofs.Steps.{reached_on, reached_back}
use Rattle.date_math.proofs.inner.month_reached.Goals as goal

pub returns-then-forward : goal.returns-then-forward
returns-then-forward c = (reached_on _ _ _ c.if-forward.true, search rules)

pub returns-else-forward : goal.returns-else-forward
returns-else-forward c = (reached_back _ _ _ c.if-forward.false c.requires.0, search rules)
