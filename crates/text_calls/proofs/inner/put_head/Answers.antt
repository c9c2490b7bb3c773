-- A refusal's number has at most twenty digits.
use Rattle.std.proofs.Common.{arith}
use Rattle.writing.specs.Text.{decimal}
use Rattle.writing.proofs.Digits.{few_digits}
use Rattle.text_calls.proofs.Parts.{ends_there}
use Rattle.text_calls.proofs.inner.put_head.Goals as goal

pub put_digits-requires : goal.put_digits-requires
put_digits-requires c = omega (arith, few_digits 20 19 c.from.result (omega arith))

pub returns-in-Err : goal.returns-in-Err
unfolding decimal
returns-in-Err c =
    rw (c.in-Err.is, ← c.number.ensures, ← c.from.ensures)
    (ends_there c.put_digits.ensures, (omega (arith, c.put_digits.ensures.ends), few_digits 20 19 c.from.result (omega arith)))
