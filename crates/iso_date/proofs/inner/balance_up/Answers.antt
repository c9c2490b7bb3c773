-- The bias of the months is a multiple of twelve, so the quotient and the remainder are the floor's.
use Rattle.iso_date.proofs.Answers.{balances}
use Rattle.iso_date.proofs.inner.balance_up.Goals as goal

pub returns : goal.returns
returns c = balances _ _ c.requires.0.0 c.requires.0.1 c.requires.1.0 c.requires.1.1
