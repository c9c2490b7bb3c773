-- `lines::digits_value` meets its contract.
use Rattle.std.proofs.Common.{sym, ap, ◌∙◌, arith}
use Rattle.lines.specs.Meaning.{of_natural}
use Rattle.lines.proofs.Numbers.{too_large, next_digit, all_read}
use Rattle.lines.proofs.digits_value.Goals as goal

pub returns-in_err-checked_mul : goal.returns-in_err-checked_mul
returns-in_err-checked_mul c =
    let l = c.loop-b in
    let over = c.in_err-checked_mul.ensures in
    ap of_natural c.from_residual.ensures ∙ sym (too_large c.args.text.now l.b-index l.value c.loop-b-test.true (omega arith)) ∙ l.invariant.1

pub returns-in_err-value : goal.returns-in_err-value
returns-in_err-value c =
    let l = c.loop-b in
    let ten = c.in_ok-checked_mul.ensures in
    let over = c.in_err-value.ensures in
    ap of_natural c.from_residual-in_err-value.ensures ∙
    sym (too_large c.args.text.now l.b-index l.value c.loop-b-test.true (omega arith)) ∙ l.invariant.1

pub loop-b-preserved : goal.loop-b-preserved
loop-b-preserved c =
    let l = c.loop-b in
    let digit = c.if-not-is_ascii_digit.ensures.cases in
    let ten = c.in_ok-checked_mul.ensures in
    let more = c.in_ok-value.ensures in
    (omega arith, next_digit c.args.text.now l.b-index l.value c.loop-b-test.true c.in_ok-value.value (omega arith) (omega arith) (omega arith) ∙ l.invariant.1)

pub returns : goal.returns
returns c =
    let l = c.loop-b in
    sym (all_read c.args.text.now l.b-index l.value c.loop-b-test.false l.invariant.0) ∙ l.invariant.1
