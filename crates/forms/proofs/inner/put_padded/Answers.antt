use native.Mathlib.Omega.{arith}
use Rattle.forms.proofs.Padded.{all_put}
use Rattle.forms.proofs.inner.put_padded.Goals as goal

pub returns : goal.returns
returns c = all_put _ _ _ _ _ c.loop-i.i c.loop-i.left (omega arith) (omega arith) c.loop-i.invariant
