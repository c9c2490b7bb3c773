-- How the answer of rounding a date and time comes out of its steps, one law for each way through the code.
use Prim.Native.Nat.{ℕ, ◌^◌, ◌<◌}
use native.Mathlib.Omega.{arith}
use mathlib.Core.Path.{◌≡◌, refl, sym, ◌∙◌, ap}
use mathlib.Core.Bool.{Bool, true, false}
use lib.IntN.{ℤ, pos, neg_ℤ, nat_abs, ◌+ℤ◌, ◌*ℤ◌, +ℤ_idr}
use lib.Signed.{◌≤ℤ◌}
use Rattle.refusal.specs.Answer.{Answer, given, refused, check, number_of}
use Rattle.refusal.proofs.Answers.{given_inj, never}
use Rattle.whole.proofs.Laws.{ints, size_of, range_of, read_add}
use Rattle.iso_date.specs.Proposal.{epoch_days, epoch_days_to_iso_date, is_valid_iso_date}
use Rattle.iso_date.specs.Paper.{balanced, day_to_date}
use Rattle.iso_date.specs.declared.IsoDate.{IsoDate}
use Rattle.iso_date.proofs.Dates.{back_valid}
use Rattle.iso_date.proofs.Answers.{in_range}
use Rattle.iso_time.specs.Proposal.{is_valid_time, valid_increment, round_time}
use Rattle.iso_time.specs.Paper.{is_rounding_unit, rounded_time}
use Rattle.iso_time.specs.declared.IsoTime.{IsoTime}
use Rattle.iso_time.specs.declared.BalancedTime.{BalancedTime}
use Rattle.iso_time.proofs.Theorems.{rounded_time_is_a_time}
use Rattle.rounding.specs.declared.RoundingMode.{RoundingMode}
use Rattle.options.specs.declared.Unit.{Unit as TemporalUnit}
use Rattle.iso_date_time.specs.Proposal.{date_time, iso_date_time_within_limits, round_iso_date_time}
use Rattle.iso_date_time.specs.Paper.{date_time_limits, round_date_time}
use Rattle.iso_date_time.specs.declared.IsoDateTime.{IsoDateTime}
use Rattle.iso_date_time.proofs.Moments.{limits_fine, check_given, check_passed}
use Rattle.iso_date_time.proofs.Differences.{fine_day}

-- ---- what a rounded time is

pub record Rounded (b : BalancedTime) : Type 0 where
  pub valid : is_valid_time b.time ≡ true
  pub days_low : pos 0 ≤ℤ b.days
  pub days_high : b.days ≤ℤ pos 1

module _ (t : IsoTime) (unit : TemporalUnit) (inc : ℕ) (mode : RoundingMode) (b : BalancedTime) where
  -- what is given passed the checks and is RoundTime's
  pub round_read : given b ≡ rounded_time t unit inc mode →
      (is_valid_time t ≡ true) × ((is_rounding_unit unit ≡ true) × ((valid_increment unit inc ≡ true) × (b ≡ round_time t inc unit mode)))
  unfolding rounded_time
  round_read e =
      let v = check_passed (is_valid_time t) 1 _ b (sym e) in
      let u = check_passed (is_rounding_unit unit) 5 _ b v.1 in
      let i = check_passed (valid_increment unit inc) 6 _ b u.1 in
      (v.0, (u.0, (i.0, sym (given_inj (round_time t inc unit mode) b i.1))))

  pub rounded : given b ≡ rounded_time t unit inc mode → Rounded b
  rounded e =
      let f = round_read e in
      let r = rounded_time_is_a_time t unit inc mode f.0 f.1.0 f.1.1.0 in
      rw f.1.1.1 (record { valid = r.0; days_low = r.1.0; days_high = r.1.1 })

pub few_days : (b : BalancedTime) → Rounded b → nat_abs b.days < 2 ^ 38
few_days b r = omega (arith, ints, r.days_low, r.days_high, size_of b.days, range_of b.days)

pub day_valid : (d : IsoDate) (n : ℤ) → given d ≡ day_to_date n → is_valid_iso_date d ≡ true
unfolding day_to_date
day_valid d n e =
    rw (check_given (balanced n) 4 (epoch_days_to_iso_date n) d e).1 (back_valid n)

-- no weeks
pub days_alone : (a d : ℤ) → a +ℤ (d +ℤ pos 7 *ℤ pos 0) ≡ a +ℤ d
days_alone a d = ap (λ (z : ℤ). a +ℤ z) (+ℤ_idr d)

-- the record's date and the days as the code has them
pub days_joined : (one two : IsoDateTime) (x : Answer IsoDate) (d z : ℤ) → one ≡ two → z ≡ d →
    x ≡ day_to_date (epoch_days one.date +ℤ (z +ℤ pos 7 *ℤ pos 0)) → x ≡ day_to_date (epoch_days two.date +ℤ d)
days_joined one two x d z e f h = h ∙ rw (e, f) (ap day_to_date (days_alone (epoch_days two.date) d))

-- ---- the ways

module _ (r : IsoDateTime) (unit : TemporalUnit) (inc : ℕ) (mode : RoundingMode) where
  pub round_record : (n : ℕ) → refused n ≡ date_time_limits r → refused n ≡ round_date_time r unit inc mode
  unfolding round_date_time
  round_record n e = rw (← e)

  pub round_time_lem : (n : ℕ) → given tt ≡ date_time_limits r → refused n ≡ rounded_time r.time unit inc mode → refused n ≡ round_date_time r unit inc mode
  unfolding round_date_time rounded_time
  round_time_lem n h e = go (is_rounding_unit unit) refl (valid_increment unit inc) refl
    where
      valid : is_valid_time r.time ≡ true
      valid = (limits_fine r h).time_valid

      go : (u : Bool) → is_rounding_unit unit ≡ u → (i : Bool) → valid_increment unit inc ≡ i → refused n ≡ round_date_time r unit inc mode
      go true u true i = never (round_time r.time inc unit mode) n (rw (valid, u, i) at e)
      go true u false i = let x : n ≡ 6 = ap number_of (rw (valid, u, i) at e) in rw (← h, u, i, x)
      go false u _ i = let x : n ≡ 5 = ap number_of (rw (valid, u) at e) in rw (← h, u, x)

  module _ (b : BalancedTime) (h : given tt ≡ date_time_limits r) (e : given b ≡ rounded_time r.time unit inc mode) where
    -- the rounded time has no day or one, and the record's day is at most 100,000,000: the count is always that of a date
    count_balanced : balanced (epoch_days r.date +ℤ b.days) ≡ true
    count_balanced =
        let x = fine_day r (limits_fine r h) in
        let d = rounded r.time unit inc mode b e in
        go (epoch_days r.date) b.days x.0 x.1 d.days_low d.days_high
      where
        go : (n d : ℤ) → neg_ℤ (pos 100000001) ≤ℤ n → n ≤ℤ pos 100000000 → pos 0 ≤ℤ d → d ≤ℤ pos 1 → balanced (n +ℤ d) ≡ true
        go n d h i j k = in_range (n +ℤ d) (omega (arith, ints, read_add n d)) (omega (arith, ints, read_add n d))

    -- so the code's refusal by 4 is never reached
    pub count_never_refused : (n : ℕ) → refused n ≡ day_to_date (epoch_days r.date +ℤ b.days) → ⊥
    unfolding day_to_date
    count_never_refused n f = never (epoch_days_to_iso_date (epoch_days r.date +ℤ b.days)) n (rw count_balanced at f)

    pub round_limits : (d : IsoDate) → given d ≡ day_to_date (epoch_days r.date +ℤ b.days) →
        check (iso_date_time_within_limits (date_time d b.time)) 3 (given (date_time d b.time)) ≡ round_date_time r unit inc mode
    unfolding round_date_time round_iso_date_time day_to_date
    round_limits d f =
        let g = round_read r.time unit inc mode b e in
        let k = check_given (balanced (epoch_days r.date +ℤ b.days)) 4 (epoch_days_to_iso_date (epoch_days r.date +ℤ b.days)) d f in
        rw (← h, g.1.0, g.1.1.0, k.1, g.1.1.1)

    module _ (d : IsoDate) (f : given d ≡ day_to_date (epoch_days r.date +ℤ b.days)) where
      abbrev made : IsoDateTime
      made = date_time d b.time

      limits_alone : date_time_limits made ≡ check (iso_date_time_within_limits made) 3 (given tt)
      unfolding date_time_limits
      limits_alone = rw (day_valid d (epoch_days r.date +ℤ b.days) f, (rounded r.time unit inc mode b e).valid)

      -- the fields are valid, so that the limits alone can refuse what comes out
      pub round_out : (n : ℕ) → refused n ≡ date_time_limits made → refused n ≡ round_date_time r unit inc mode
      round_out n g = go (iso_date_time_within_limits made) (g ∙ limits_alone) ∙ round_limits d f
        where
          go : (t : Bool) → refused n ≡ check {A = Unit {0}} t 3 (given tt) → refused n ≡ check t 3 (given made)
          go true g = never {A = Unit {0}} tt n g
          go false g = ap refused (ap number_of g)

      pub round_within : given tt ≡ date_time_limits made → given made ≡ round_date_time r unit inc mode
      round_within g = go (iso_date_time_within_limits made) (g ∙ limits_alone) ∙ round_limits d f
        where
          go : (t : Bool) → given tt ≡ check {A = Unit {0}} t 3 (given tt) → given made ≡ check t 3 (given made)
          go true g = refl
          go false g = never {A = Unit {0}} tt 3 (sym g)

pub ruleset round_ways = (round_record, round_time_lem)
