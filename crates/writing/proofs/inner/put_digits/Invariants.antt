-- The buffer with the digits that are left to write in their place is, at each turn, the buffer with all of them.
use Rattle.std.proofs.Common.{◌≡◌, ◌-◌, ◌≤◌, length}
use Rattle.writing.proofs.Digits.{padded}
use Rattle.writing.proofs.Writing.{placed}
use Rattle.writing.proofs.inner.put_digits.Given as goal

abbrev pub invariant-loop-i : goal.invariant-loop-i
invariant-loop-i l =
    (l.at ≤ l.i) × (length l.out ≡ length l.fn.out) ×
    (placed l.out l.at (padded (l.i - l.at) l.left) ≡ placed l.fn.out l.at (padded (l.end - l.at) l.n))
