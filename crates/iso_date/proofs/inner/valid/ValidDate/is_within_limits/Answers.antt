use Rattle.std.proofs.Common.{rules, ◌≡◌, ◌∙◌, ℤ, pos, neg_ℤ, ◌&&◌, to_z, of_z, w64, arith}
use lib.Signed.{le_z}
use Rattle.whole.proofs.Laws.{ints}
use Rattle.std.proofs.lemmas.Grind.{common_steps}
use Rattle.iso_date.proofs.Answers.{limits_decide}
use Rattle.iso_date.proofs.inner.valid.ValidDate.is_within_limits.Goals as goal

pub returns : goal.returns
returns c =
    let back : to_z w64 (of_z w64 c.epoch_days.result) ≡ c.epoch_days.result = search rules in
    let t = rw (c.new.ensures.start, c.new.ensures.end, back) at c.contains.ensures.cases in
    let u = limits_decide c.epoch_days.result in
    let z : ℤ = c.epoch_days.result in
    let g : c.contains.result ≡ (le_z (neg_ℤ (pos 100000001)) z && le_z z (pos 100000000)) = grind (arith, ints, common_steps, t) in
    rw (← c.epoch_days.ensures.0) (g ∙ u)
