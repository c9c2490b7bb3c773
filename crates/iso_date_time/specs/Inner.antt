-- The difference's adjustment on naturals, for the contracts inside. No public contract cites this.
use Rattle.std.specs.Prelude.{ℕ, ◌<◌, ◌≡◌, Bool, true, cond, ◌&&◌, leb, ℤ, pos, neg_ℤ, ◌+ℤ◌, ◌-ℤ◌, ◌*ℤ◌}
use Rattle.std.specs.Int.Signed.{lt_z}
use Rattle.options.specs.Units.{ns_per_day}
use Rattle.date_math.specs.Proposal.{directed}
use Rattle.iso_date_time.specs.Proposal.{sign_of, opposed}

-- the days that move, from day p at nanosecond a to day q at nanosecond b
unfoldable pub adjusted_days : ℤ → ℤ → ℤ → ℤ → ℤ
adjusted_days p a q b =
    cond (opposed (b -ℤ a) (cond (lt_z p q) (pos 1) (cond (lt_z q p) (neg_ℤ (pos 1)) (pos 0)))) (sign_of (b -ℤ a)) (pos 0)

-- the day that q is moved to, and the time that is left
pub record Adjusts (p a q b day : ℕ) (forward : Bool) (ns : ℕ) : Type 0 where
  pub day_is : pos day ≡ pos q +ℤ adjusted_days (pos p) (pos a) (pos q) (pos b)
  pub left_is : directed forward ns ≡ pos b -ℤ pos a -ℤ pos ns_per_day *ℤ adjusted_days (pos p) (pos a) (pos q) (pos b)
  pub between : cond forward (leb p day && leb day q) (leb q day && leb day p) ≡ true
  pub small : ns < ns_per_day
