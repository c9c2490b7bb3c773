-- `writing::inner::put_digits` meets its contract.
use Rattle.std.proofs.Common.{◌≡◌, ◌+◌, ◌-◌, ap, ◌∙◌, arith, length-set}
use Rattle.writing.proofs.Digits.{padded_all, put_next, put_none}
use Rattle.writing.proofs.Writing.{placed_wrote}
use Rattle.writing.proofs.inner.put_digits.Goals as goal

pub loop-i-preserved : goal.loop-i-preserved
loop-i-preserved c =
    let l = c.loop-i in
    let e : l.i - 1 + 1 ≡ l.i = omega arith in (
      omega arith,
      simp length-set l.invariant.1,
      rw e at (put_next l.out c.args.at (l.i - 1) l.left (omega arith) (omega arith)) ∙ l.invariant.2,
    )

pub returns : goal.returns
returns c =
    let l = c.loop-i in
    let n = c.digit_count.ensures in
    let e : c.args.at + c.digit_count.result - c.args.at ≡ c.digit_count.result = omega arith in
    placed_wrote _ _ _ _ _ c.requires
    (put_none l.out c.args.at l.i l.left (omega arith) ∙ l.invariant.2 ∙ rw (e, n, padded_all)) (ap (λ k. c.args.at + k) n)
