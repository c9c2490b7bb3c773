-- Each field is a remainder of a quotient of the one number.
use Rattle.std.proofs.Common.{arith}
use Rattle.iso_time.proofs.Times.{show_valid}
use Rattle.iso_time.proofs.inner.ValidTime.at.Goals as goal

pub invariant_of-result : goal.invariant_of-result
invariant_of-result c =
    record {
      valid =
          show_valid _
          (record { hours = omega arith; minutes = omega arith; seconds = omega arith; millis = omega arith; micros = omega arith; nanos = omega arith });
    }
