-- After as many turns the value is what as many digits say, and the rest is what they leave.
use Prim.Native.Nat.{◌^◌, ◌<◌}
use mathlib.Core.Path.{◌≡◌}
use Rattle.forms.specs.Forms.{took, digits}
use Rattle.forms.proofs.inner.read_digits.Given as goal

abbrev pub invariant-loop : goal.invariant-loop
invariant-loop l = (digits l.counter l.text ≡ took l.value l.rest) × (l.value < 10 ^ l.counter)
