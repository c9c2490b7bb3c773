-- The candidate before the one that is tried lies within the gap, so that the first that does not is one more than is kept. Those tried
-- are counted from the first on.
use Rattle.std.proofs.Common.{◌≡◌, ◌+◌, ◌-◌, ◌*◌, ◌≤◌}
use Rattle.date_math.proofs.inner.most_kept.Given as goal

abbrev pub invariant-loop-candidate : goal.invariant-loop-candidate
invariant-loop-candidate l = (l.step * l.candidate ≤ l.gap + l.step) × (l.candidate ≡ l.first + l.tries)

abbrev pub decreases-loop-candidate : goal.decreases-loop-candidate
decreases-loop-candidate l = l.gap + 1 - l.candidate
