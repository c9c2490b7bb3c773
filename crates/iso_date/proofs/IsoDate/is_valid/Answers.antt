-- The length of the month by its natural is the definition's.
use Rattle.std.proofs.Common.{rules, ◌≡◌, ◌≤◌, w32, to_z, of_z, arith}
use Rattle.std.proofs.lemmas.Grind.{common_steps}
use Rattle.iso_date.specs.Proposal.{is_valid_iso_date, iso_days_in_month}
use Rattle.iso_date.proofs.Answers.{length_of_month}
use Rattle.iso_date.proofs.IsoDate.is_valid.Goals as goal

pub returns-then-contains : goal.returns-then-contains
unfolding is_valid_iso_date
returns-then-contains c =
    let back : to_z w32 (of_z w32 c.args.self.year) ≡ c.args.self.year = search rules in
    let y = rw back at c.of.ensures.0 in
    let low : 1 ≤ c.args.self.month = grind (arith, common_steps) in
    let high : c.args.self.month ≤ 12 = grind (arith, common_steps) in
    let l : c.days.result ≡ iso_days_in_month c.args.self.year c.args.self.month =
    (length_of_month c.args.self.year _ _ _ _ y c.of.ensures.1 low high c.days.ensures.0).0 in
    grind (arith, common_steps, l)
