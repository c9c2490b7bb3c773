-- `lines::number_within` meets its contract.
use Rattle.std.proofs.Common.{arith, neg_ℤ, pos}
use Rattle.std.proofs.lemmas.Int.{ints}
use Rattle.lines.proofs.Within.{kept_within}
use Rattle.lines.proofs.number_within.Goals as goal

pub returns : goal.returns
returns c =
    kept_within (neg_ℤ (pos c.args.below)) (pos c.args.high) c.args.x c.filter.result _ (λ n b s. grind (arith, ints)) c.filter.ensures
