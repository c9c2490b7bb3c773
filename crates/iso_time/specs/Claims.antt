-- The words of the theorems on times (proofs/Theorems.antt): what a reader of them must believe beside the definitions of the calls.
use Rattle.std.specs.Prelude.{ℕ, ◌+◌, ◌-◌, ◌*◌, ◌<◌, ◌≡◌, Bool, true, false, ℤ, pos, nat_abs, ◌+ℤ◌, ◌*ℤ◌, ◌≤ℤ◌}
use Rattle.options.specs.Units.{ns_per_day}
use Rattle.options.specs.declared.Unit.{Unit as TemporalUnit}
use Rattle.iso_time.specs.Proposal.{nanoseconds, quantity}
use Rattle.iso_time.specs.declared.IsoTime.{IsoTime}
use Rattle.iso_time.specs.declared.BalancedTime.{BalancedTime}
use Rattle.iso_time.specs.declared.TimeDuration.{TimeDuration}

-- ---- exact nanoseconds

-- of days and a time
abbrev pub exact : BalancedTime → ℤ
exact b = pos ns_per_day *ℤ b.days +ℤ pos (nanoseconds b.time)

-- of six fields of any size
abbrev pub flat : ℤ → ℤ → ℤ → ℤ → ℤ → ℤ → ℤ
flat h m s ms us ns =
    pos 3_600_000_000_000 *ℤ h +ℤ pos 60_000_000_000 *ℤ m +ℤ pos 1_000_000_000 *ℤ s +ℤ pos 1_000_000 *ℤ ms +ℤ pos 1000 *ℤ us +ℤ ns

-- of a duration
abbrev pub nanoseconds_of : TimeDuration → ℤ
nanoseconds_of d = pos 1_000_000_000 *ℤ d.seconds +ℤ d.nanoseconds

-- ---- the parts of a difference

-- a number that does not point against a direction: forward it is at least 0, backward at most 0
abbrev pub Along : Bool → ℤ → Type 0
Along true z = pos 0 ≤ℤ z
Along false z = z ≤ℤ pos 0

-- the nanoseconds are below a second in size, and neither part is opposed in sign to the other
pub record Parts (d : TimeDuration) : Type 0 where
  pub forward : Bool
  pub seconds_along : Along forward d.seconds
  pub nanoseconds_along : Along forward d.nanoseconds
  pub below_a_second : nat_abs d.nanoseconds < 1_000_000_000

-- ---- a rounded time: a multiple of the step stands in place of the quantity, nearer to it than a step, and the larger fields are kept

pub record Near (t : IsoTime) (unit : TemporalUnit) (step : ℕ) (b : BalancedTime) : Type 0 where
  -- the nanoseconds that stand in place of the quantity
  pub rounded : ℕ
  pub larger_kept : exact b ≡ pos (nanoseconds t - quantity unit t + rounded)
  pub times : ℕ
  pub multiple : times * step ≡ rounded
  pub not_far_above : rounded < quantity unit t + step
  pub not_far_below : quantity unit t < rounded + step
