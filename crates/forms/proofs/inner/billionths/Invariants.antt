-- After `count` turns the value is what the first `count` bytes say.
use Rattle.std.proofs.Common.{◌≡◌, ◌^◌, ◌<◌, length, take}
use Rattle.forms.specs.Forms.{padded}
use Rattle.forms.proofs.inner.billionths.Given as goal

abbrev pub invariant-loop-b : goal.invariant-loop-b
invariant-loop-b l =
    goal.iterator-loop-b.can_next l.b-iterator × goal.iterator-loop-b.is_finite l.b-iterator × (l.count ≡ length l.yielded) ×
    (take l.count l.text ≡ padded l.count l.value) × (l.value < 10 ^ l.count)
