-- Before day 10^8 every nanosecond is an instant, on it midnight alone, after it none: so much says the last test of the definition.
use mir.Facts.{to_z-of_z}
use Rattle.iso_date_time.proofs.Instants.{instant_decides}
use Rattle.iso_date_time.proofs.inner.is_instant.Goals as goal

pub returns : goal.returns
returns c = rw (to_z-of_z c.ranges.day, to_z-of_z c.ranges.nanosecond) (instant_decides _ _)
