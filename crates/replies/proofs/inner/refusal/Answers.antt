-- A refusal is the digits of its number, of which there are at most twenty.
use Rattle.std.proofs.Common.{arith}
use Rattle.writing.specs.Text.{decimal}
use Rattle.writing.proofs.Digits.{few_digits}
use Rattle.replies.proofs.inner.refusal.Goals as goal

pub put_digits-requires : goal.put_digits-requires
put_digits-requires c = omega (arith, few_digits 20 19 c.from.result (omega arith))

pub returns : goal.returns
unfolding decimal
returns c =
    let few = few_digits 20 19 c.from.result (omega arith) in
    rw (← c.from.ensures) record { wrote = c.put_digits.ensures; short = omega (arith, c.put_digits.ensures.ends) }
