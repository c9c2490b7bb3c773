-- A value of fewer than 18 digits has room for one more.
use native.Mathlib.Omega.{arith}
use Rattle.forms.proofs.Digits.{fits}
use Rattle.forms.proofs.inner.read_digits.Goals as goal

pub overflow_mul-value : goal.overflow_mul-value
overflow_mul-value c = omega (arith, fits c.loop.counter c.loop.value c.loop.invariant.1 (omega arith))

pub overflow_add-value : goal.overflow_add-value
overflow_add-value c = omega (arith, fits c.loop.counter c.loop.value c.loop.invariant.1 (omega arith), c.in_ok-digit.ensures.small)
