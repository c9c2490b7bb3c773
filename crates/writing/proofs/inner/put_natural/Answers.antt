-- `writing::inner::put_natural` meets its contract: a space, and at most twenty digits.
use Rattle.std.proofs.Common.{arith}
use Rattle.writing.specs.Text.{decimal}
use Rattle.writing.proofs.Digits.{few_digits}
use Rattle.writing.proofs.Writing.{after}
use Rattle.writing.proofs.inner.put_natural.Goals as goal

pub put_digits-requires : goal.put_digits-requires
put_digits-requires c = let w = c.put_byte-start.ensures in omega (arith, few_digits 20 19 c.args.n (omega arith))

pub returns : goal.returns
unfolding decimal
returns c =
    let d = c.put_digits.ensures in
    (after c.put_byte-start.ensures d, omega (arith, few_digits 20 19 c.args.n (omega arith)))
