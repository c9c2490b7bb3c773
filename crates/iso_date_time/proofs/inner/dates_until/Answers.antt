-- The date of a day number is valid.
use Rattle.iso_date.proofs.Dates.{back_valid}
use Rattle.iso_date_time.proofs.inner.dates_until.Goals as goal

pub invariant_of-two : goal.invariant_of-two
invariant_of-two c = record { valid = rw c.civil.ensures (back_valid _) }
