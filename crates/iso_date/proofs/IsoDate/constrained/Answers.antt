-- The month clamped to the year, then the day to the month.
use Rattle.std.proofs.Common.{rules, ◌≡◌, w32, to_z, of_z}
use Rattle.iso_date.proofs.Answers.{constrained_is}
use Rattle.iso_date.proofs.IsoDate.constrained.Goals as goal

pub invariant_of-result : goal.invariant_of-result
invariant_of-result c =
    let back : to_z w32 (of_z w32 c.args.self.year) ≡ c.args.self.year = search rules in
    record {
      valid = rw back (constrained_is _ _ _ _ _ _ c.clamp-month.ensures (rw back at c.days_in_month.ensures.0) c.clamp-day.ensures).1;
    }

pub returns : goal.returns
returns c =
    let back : to_z w32 (of_z w32 c.args.self.year) ≡ c.args.self.year = search rules in
    rw back (constrained_is _ _ _ _ _ _ c.clamp-month.ensures (rw back at c.days_in_month.ensures.0) c.clamp-day.ensures).0
