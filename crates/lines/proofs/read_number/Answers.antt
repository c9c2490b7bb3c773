-- `lines::read_number` meets its contract: a natural, or `-` and a natural from 1 to 2^63.
use Rattle.std.proofs.Common.{◌≡◌, neg_ℤ, pos, Some, ap, sym, ◌∙◌, arith, rules}
use Rattle.lines.specs.Text.{number, number_of}
use Rattle.lines.specs.Meaning.{of_number}
use Rattle.std.proofs.lemmas.Int.{ints}
use Rattle.std.proofs.lemmas.List.{get_or_past}
use borrow.Author.Tests.{ltb-true}
use Rattle.lines.proofs.Numbers.{number_plain, number_minus, unsigned, negative_none, negative_out, negative_some, mapped}
use Rattle.lines.proofs.read_number.Goals as goal
use Rattle.lines.proofs.read_number.Goals.{in_default-via-then-text-lt1, in_default-via-else-text-lt1+in_default-1}

pub returns-in_default : goal.returns-in_default
returns-in_default c =
    mapped c.read_natural.result c.map.result _ (λ n z s. search rules) c.map.ensures.cases ∙ c.read_natural.ensures ∙
    sym (number_plain c.args.text.now (elim c.in_default.branch [
      | in_default-via-then-text-lt1 w ↦ λ e. omega (arith, ltb-true, get_or_past c.args.text.now 0 0)
      | in_default-via-else-text-lt1+in_default-1 w ↦ λ e. omega arith
    ]))

pub returns-in_err-size : goal.returns-in_err-size
returns-in_err-size c =
    ap of_number c.from_residual.ensures ∙ negative_none (unsigned c.args.text.now) c.in_err-size.ensures ∙ sym (number_minus c.args.text.now (omega arith))

pub returns-then-size-eq0 : goal.returns-then-size-eq0
returns-then-size-eq0 c = negative_out (unsigned c.args.text.now) c.in_ok-size.size c.in_ok-size.ensures (λ l h. omega arith) ∙ sym (number_minus c.args.text.now (omega arith))

pub returns : goal.returns
returns c =
    let z : of_number (Some (neg_ℤ (pos c.in_ok-size.size))) ≡ number_of c.args.text.now = negative_some (unsigned c.args.text.now) c.in_ok-size.size c.in_ok-size.ensures (omega arith) (omega arith) ∙ sym (number_minus c.args.text.now (omega arith)) in
    ap number (omega (arith, ints)) ∙ z
