-- While the digits are walked, their value so far and the digits left say the number.
use Rattle.std.proofs.Common.{◌≡◌, ◌^◌, ◌<◌, drop}
use Rattle.lines.proofs.Numbers.{read_from}
use Rattle.lines.proofs.digits_value.Given as goal

abbrev pub invariant-loop-b : goal.invariant-loop-b
invariant-loop-b l = (l.value < 2 ^ 64) × (read_from l.value (drop l.b-index l.text) ≡ read_from 0 l.text)
