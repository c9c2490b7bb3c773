-- The buffer with the digits that are left to write in their place is, at each turn, the buffer with all of them.
use mathlib.Core.Path.{◌≡◌}
use Rattle.writing.proofs.Writing.{placed}
use Rattle.forms.specs.Forms.{padded}
use Rattle.forms.proofs.inner.put_padded.Given as goal

abbrev pub invariant-loop-i : goal.invariant-loop-i
invariant-loop-i l = placed l.out l.at (padded l.i l.left) ≡ placed l.fn.out l.at (padded l.n l.number)
