-- The limits of a moment by its day and its nanosecond of the day, and how the answers of balancing and rounding come out of their
-- steps, one law for each way through the code.
use Prim.Native.Nat.{ℕ, ◌^◌, ◌≤◌, ◌<◌}
use native.Mathlib.Omega.{arith}
use mathlib.Core.Path.{◌≡◌, ap, refl, sym, ◌∙◌}
use mathlib.Core.Bool.{Bool, true, false, ◌&&◌, ◌||◌}
use borrow.Author.Tests.{ltb-true, lt-ltb}
use lib.Dec.{ltb}
use lib.IntN.{ℤ, pos, neg_ℤ, nat_abs, ◌+ℤ◌, ◌-ℤ◌, ◌*ℤ◌}
use lib.Signed.{lt_z, le_z}
use Rattle.options.specs.Units.{ns_per_day}
use Rattle.refusal.specs.Answer.{Answer, given, refused, check, number_of}
use Rattle.refusal.proofs.Answers.{given_inj, never}
use Rattle.whole.proofs.Tests.{both, one_of, together}
use Rattle.whole.proofs.Laws.{ints, size_of, range_of, read_add, read_times}
use Rattle.iso_date.specs.Proposal.{epoch_days_to_iso_date, iso_date_to_epoch_days, is_valid_iso_date, ns_within_limits, moment_within_limits, ns_limit}
use Rattle.iso_date.specs.Paper.{balanced, balance_date, day_to_date}
use Rattle.iso_date.specs.declared.IsoDate.{IsoDate}
use Rattle.iso_date.proofs.Answers.{limits_in, limits_days}
use Rattle.iso_date.proofs.Dates.{back_valid}
use Rattle.iso_time.specs.Proposal.{is_valid_time, balance_time, nanoseconds}
use Rattle.iso_time.specs.Paper.{all_bounded, balance_time_fields}
use Rattle.iso_time.specs.declared.BalancedTime.{BalancedTime}
use Rattle.iso_time.specs.Claims.{flat}
use Rattle.iso_time.proofs.Times.{below_day_lem, balance_exact, balance_valid}
use Rattle.iso_time.proofs.Checks.{all_within}
use Rattle.iso_time.proofs.Theorems.{balance_is_valid}
use Rattle.iso_date_time.specs.Proposal.{date_time, iso_date_time_within_limits, balance_iso_date_time}
use Rattle.iso_date_time.specs.Paper.{date_time_limits, balance_date_time}
use Rattle.iso_date_time.specs.declared.IsoDateTime.{IsoDateTime}

-- ---- the limits

-- within the first and the last day every moment lies within, and on the day before the first every one but midnight
pub moment_decides : (n : ℤ) (ns : ℕ) → ns < ns_per_day →
    ((le_z (neg_ℤ (pos 100000001)) n && le_z n (pos 100000000)) && (le_z (neg_ℤ (pos 100000000)) n || ltb 0 ns)) ≡ moment_within_limits n ns
unfolding ns_within_limits
moment_decides n ns small = together _ (moment_within_limits n ns) there back
  where
    there : ((le_z (neg_ℤ (pos 100000001)) n && le_z n (pos 100000000)) && (le_z (neg_ℤ (pos 100000000)) n || ltb 0 ns)) ≡ true → moment_within_limits n ns ≡ true
    there e =
        let f = both (le_z (neg_ℤ (pos 100000001)) n && le_z n (pos 100000000)) (le_z (neg_ℤ (pos 100000000)) n || ltb 0 ns) e in
        let g = both (le_z (neg_ℤ (pos 100000001)) n) (le_z n (pos 100000000)) f.0 in
        let t = read_times ns_per_day n in
        let s = read_add (pos ns_per_day *ℤ n) (pos ns) in
        one_of (le_z (neg_ℤ (pos 100000000)) n) (ltb 0 ns) f.1
        (λ h. limits_in n ns (omega (arith, ints)) (omega (arith, ints, g.1)))
        (λ h. let k = ltb-true 0 ns h in limits_in n ns (omega (arith, ints, g.0)) (omega (arith, ints, g.1)))

    back : moment_within_limits n ns ≡ true → ((le_z (neg_ℤ (pos 100000001)) n && le_z n (pos 100000000)) && (le_z (neg_ℤ (pos 100000000)) n || ltb 0 ns)) ≡ true
    back e =
        let d = limits_days n ns small e in
        let f = both (lt_z (neg_ℤ (pos ns_limit)) (pos ns_per_day *ℤ n +ℤ pos ns)) (lt_z (pos ns_per_day *ℤ n +ℤ pos ns) (pos ns_limit)) e in
        let a : le_z (neg_ℤ (pos 100000001)) n ≡ true = omega (arith, ints, d.0) in
        let b : le_z n (pos 100000000) ≡ true = omega (arith, ints, d.1) in
        rw (a, b) (go f.0 (le_z (neg_ℤ (pos 100000000)) n) refl)
      where
        go : lt_z (neg_ℤ (pos ns_limit)) (pos ns_per_day *ℤ n +ℤ pos ns) ≡ true → (t : Bool) → le_z (neg_ℤ (pos 100000000)) n ≡ t →
            (le_z (neg_ℤ (pos 100000000)) n || ltb 0 ns) ≡ true
        go f true e = rw e
        go f false e = rw (e, lt-ltb 0 ns (omega (arith, ints, read_times ns_per_day n, read_add (pos ns_per_day *ℤ n) (pos ns))))

-- ---- a record's checks

module _ (r : IsoDateTime) where
  pub limits_date : (n : ℕ) → n ≡ 1 → is_valid_iso_date r.date ≡ false → refused n ≡ date_time_limits r
  unfolding date_time_limits
  limits_date n i e = rw (e, i)

  module _ (d : IsoDate) (i : d ≡ r.date) (e : is_valid_iso_date d ≡ true) where
    pub limits_time : is_valid_time r.time ≡ false → refused 1 ≡ date_time_limits r
    unfolding date_time_limits
    limits_time f = rw (rw i at e, f)

    pub limits_out : is_valid_time r.time ≡ true → iso_date_time_within_limits (date_time d r.time) ≡ false → refused 3 ≡ date_time_limits r
    unfolding date_time_limits
    limits_out f g = rw (rw i at e, f, rw i at g)

    pub limits_within : is_valid_time r.time ≡ true → iso_date_time_within_limits (date_time d r.time) ≡ true → given tt ≡ date_time_limits r
    unfolding date_time_limits
    limits_within f g = rw (rw i at e, f, rw i at g)

pub ruleset limits_ways = (limits_date, limits_time, limits_out, limits_within)

-- what passing them tells
pub record Fine (r : IsoDateTime) : Type 0 where
  pub date_valid : is_valid_iso_date r.date ≡ true
  pub time_valid : is_valid_time r.time ≡ true
  pub within : iso_date_time_within_limits r ≡ true

pub limits_fine : (r : IsoDateTime) → given tt ≡ date_time_limits r → Fine r
unfolding date_time_limits
limits_fine r e = go (is_valid_iso_date r.date) refl (is_valid_time r.time) refl (iso_date_time_within_limits r) refl
  where
    go : (a : Bool) → is_valid_iso_date r.date ≡ a → (b : Bool) → is_valid_time r.time ≡ b → (c : Bool) → iso_date_time_within_limits r ≡ c → Fine r
    go true a true b true c = record { date_valid = a; time_valid = b; within = c }
    go true a true b false c = never {A = Unit {0}} tt 3 (sym (e ∙ (rw (a, b, c))))
    go true a false b c _ = never {A = Unit {0}} tt 1 (sym (e ∙ (rw (a, b))))
    go false a b _ c _ = never {A = Unit {0}} tt 1 (sym (e ∙ (rw a)))

-- ---- balancing

module _ {A : Type 0} where
  -- what a check refuses it did not pass, and what it gives stands behind it
  pub check_refused : (t : Bool) (k n : ℕ) (x : A) → refused n ≡ check t k (given x) → t ≡ false
  check_refused true k n x e = never x n e
  check_refused false k n x e = refl

  pub check_passed : (t : Bool) (k : ℕ) (rest : Answer A) (y : A) → check t k rest ≡ given y → (t ≡ true) × (rest ≡ given y)
  check_passed true k rest y e = (refl, e)
  check_passed false k rest y e = never y k e

  pub check_given : (t : Bool) (k : ℕ) (x y : A) → given y ≡ check t k (given x) → (t ≡ true) × (y ≡ x)
  check_given true k x y e = (refl, given_inj y x e)
  check_given false k x y e = never y k (sym e)

-- the carry of six fields within their bound is small
pub carry_small : (h mi s ms us ns : ℤ) (b : BalancedTime) → given b ≡ balance_time_fields h mi s ms us ns → nat_abs b.days < 2 ^ 52
unfolding balance_time_fields
carry_small h mi s ms us ns b e =
    let g = check_given (all_bounded h mi s ms us ns) 7 (balance_time h mi s ms us ns) b e in
    let k = all_within h mi s ms us ns g.0 in
    let v = balance_valid h mi s ms us ns in
    rw g.1
    (few (balance_time h mi s ms us ns).days h mi s ms us ns (nanoseconds (balance_time h mi s ms us ns).time) (below_day_lem (balance_time h mi s ms us ns).time v)
    (balance_exact h mi s ms us ns) k.0 k.1.0 k.1.1.0 k.1.1.1.0 k.1.1.1.1.0 k.1.1.1.1.1)
  where
    few : (d h mi s ms us ns : ℤ) (n : ℕ) → n < ns_per_day → pos ns_per_day *ℤ d +ℤ pos n ≡ flat h mi s ms us ns →
        nat_abs h ≤ 9007199254740991 → nat_abs mi ≤ 9007199254740991 → nat_abs s ≤ 9007199254740991 → nat_abs ms ≤ 9007199254740991 →
        nat_abs us ≤ 9007199254740991 → nat_abs ns ≤ 9007199254740991 → nat_abs d < 2 ^ 52
    few d h mi s ms us ns n l e a1 a2 a3 a4 a5 a6 =
        let t1 : ℤ = pos 3600000000000 *ℤ h in
        let t2 : ℤ = pos 60000000000 *ℤ mi in
        let t3 : ℤ = pos 1000000000 *ℤ s in
        let t4 : ℤ = pos 1000000 *ℤ ms in
        let t5 : ℤ = pos 1000 *ℤ us in
        omega (
          arith,
          ints,
          read_times ns_per_day d,
          read_add (pos ns_per_day *ℤ d) (pos n),
          read_times 3600000000000 h,
          read_times 60000000000 mi,
          read_times 1000000000 s,
          read_times 1000000 ms,
          read_times 1000 us,
          read_add t1 t2,
          read_add (t1 +ℤ t2) t3,
          read_add (t1 +ℤ t2 +ℤ t3) t4,
          read_add (t1 +ℤ t2 +ℤ t3 +ℤ t4) t5,
          read_add (t1 +ℤ t2 +ℤ t3 +ℤ t4 +ℤ t5) ns,
          size_of d,
          size_of h,
          size_of mi,
          size_of s,
          size_of ms,
          size_of us,
          size_of ns,
          range_of d,
        )

module _ (y m d h mi s ms us ns : ℤ) where
  abbrev day_on : BalancedTime → ℤ
  day_on b = iso_date_to_epoch_days y (m -ℤ pos 1) (d +ℤ b.days)

  pub balance_bound : (n : ℕ) → refused n ≡ balance_time_fields h mi s ms us ns → refused 7 ≡ balance_date_time y m d h mi s ms us ns
  unfolding balance_date_time balance_time_fields
  balance_bound n e = let f = check_refused (all_bounded h mi s ms us ns) 7 n (balance_time h mi s ms us ns) e in rw f

  pub balance_count : (b : BalancedTime) (n : ℕ) → given b ≡ balance_time_fields h mi s ms us ns → refused n ≡ balance_date y m (d +ℤ b.days) →
      refused 4 ≡ balance_date_time y m d h mi s ms us ns
  unfolding balance_date_time balance_time_fields balance_date day_to_date
  balance_count b n e f =
      let g = check_given (all_bounded h mi s ms us ns) 7 (balance_time h mi s ms us ns) b e in
      let k = check_refused (balanced (day_on b)) 4 n (epoch_days_to_iso_date (day_on b)) f in
      rw (g.0, rw g.1 at k)

  -- so the number by which a step refuses can be handed on
  pub bound_handed_on : (n : ℕ) → refused n ≡ balance_time_fields h mi s ms us ns → refused n ≡ balance_date_time y m d h mi s ms us ns
  unfolding balance_time_fields
  bound_handed_on n e =
      let f = check_refused (all_bounded h mi s ms us ns) 7 n (balance_time h mi s ms us ns) e in
      ap refused (ap number_of (rw f at e)) ∙ balance_bound n e

  pub count_handed_on : (b : BalancedTime) (n : ℕ) → given b ≡ balance_time_fields h mi s ms us ns → refused n ≡ balance_date y m (d +ℤ b.days) →
      refused n ≡ balance_date_time y m d h mi s ms us ns
  unfolding balance_date day_to_date
  count_handed_on b n e f =
      let k = check_refused (balanced (day_on b)) 4 n (epoch_days_to_iso_date (day_on b)) f in
      ap refused (ap number_of (rw k at f)) ∙ balance_count b n e f

  pub balance_is : (b : BalancedTime) (c : IsoDate) → given b ≡ balance_time_fields h mi s ms us ns → given c ≡ balance_date y m (d +ℤ b.days) →
      given (date_time c b.time) ≡ balance_date_time y m d h mi s ms us ns
  unfolding balance_date_time balance_iso_date_time balance_time_fields balance_date day_to_date
  balance_is b c e f =
      let g = check_given (all_bounded h mi s ms us ns) 7 (balance_time h mi s ms us ns) b e in
      let k = check_given (balanced (day_on b)) 4 (epoch_days_to_iso_date (day_on b)) c f in
      rw (g.0, k.1, g.1, rw g.1 at k.0)

  -- what balancing gives has valid fields, wherever it lies
  pub balanced_is_valid : (r : IsoDateTime) → given r ≡ balance_date_time y m d h mi s ms us ns →
      (is_valid_iso_date r.date ≡ true) × (is_valid_time r.time ≡ true)
  unfolding balance_date_time balance_iso_date_time
  balanced_is_valid r e =
      let b : BalancedTime = balance_time h mi s ms us ns in
      let f = check_passed (all_bounded h mi s ms us ns) 7 _ r (sym e) in
      let g = check_passed (balanced (day_on b)) 4 _ r f.1 in
      rw (← given_inj _ r g.1) (back_valid (day_on b), balance_is_valid h mi s ms us ns)

pub ruleset balance_ways = (bound_handed_on, count_handed_on, balance_is, carry_small)
