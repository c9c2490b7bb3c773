-- Without the zeros at their end, the digits that are left are those of the start.
use Prim.Native.Nat.{◌^◌, ◌<◌}
use mathlib.Core.Path.{◌≡◌}
use Rattle.forms.specs.Forms.{padded, trimmed}
use Rattle.forms.proofs.inner.trim.Given as goal

abbrev pub invariant-loop-count : goal.invariant-loop-count
invariant-loop-count l = (l.value < 10 ^ l.count) × (trimmed (padded l.count l.value) ≡ trimmed (padded 9 l.billionths))
