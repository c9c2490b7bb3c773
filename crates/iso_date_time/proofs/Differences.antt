-- The difference of two records, their days and times adjusted, and how its answers come out of the checks.
use Prim.Native.Nat.{ℕ, ◌+◌, ◌-◌, ◌*◌, ◌^◌, ◌≤◌, ◌<◌, min, max}
use native.Mathlib.Omega.{arith}
use mathlib.Core.Path.{◌≡◌, refl, sym, ◌∙◌, ap, ap₂}
use mathlib.Core.Bool.{Bool, true, false, cond, ◌&&◌}
use borrow.Author.Tests.{leb-true, le-leb, lt-leb}
use lib.Dec.{leb}
use lib.IntN.{ℤ, pos, neg_ℤ, ◌+ℤ◌, ◌-ℤ◌, ◌*ℤ◌}
use lib.Signed.{◌≤ℤ◌}
use Rattle.refusal.specs.Answer.{given, refused}
use Rattle.whole.specs.Whole.{apart, ◌⊖◌}
use Rattle.whole.proofs.Laws.{ints, read_add, read_neg, read_diff}
use Rattle.whole.proofs.Tests.{both}
use Rattle.iso_date.specs.Proposal.{epoch_days, epoch_days_to_iso_date, is_valid_iso_date}
use Rattle.iso_date.specs.Inner.{day_bias}
use Rattle.iso_date.specs.declared.IsoDate.{IsoDate}
use Rattle.iso_date.proofs.Answers.{limits_days}
use Rattle.iso_date.proofs.Dates.{back_valid, back_and_there}
use Rattle.iso_time.specs.Proposal.{nanoseconds, in_seconds}
use Rattle.iso_time.specs.declared.TimeDuration.{TimeDuration}
use Rattle.iso_time.proofs.Times.{read_valid, below_day_lem}
use Rattle.date_duration.specs.Proposal.{duration}
use Rattle.date_duration.specs.declared.DateDuration.{DateDuration}
use Rattle.options.specs.declared.Unit.{Unit as TemporalUnit}
use Rattle.options.specs.Units.{unit_rank, ns_per_day}
use Rattle.options.specs.declared.Unit.TheVariants as U
use Rattle.date_math.specs.Proposal.{directed, calendar_date_until}
use Rattle.date_math.specs.Tries.{calendar_date_tries}
use Rattle.date_math.proofs.Places.{directed_times, directed_add}
use Rattle.date_math.proofs.Tries.{none_below}
use Rattle.iso_date_time.specs.Proposal.{moved_days, moved_date, time_left, difference_iso_date_time}
use Rattle.iso_date_time.specs.Paper.{date_time_limits, difference_tries, difference_of_records, date_time_difference}
use Rattle.iso_date_time.specs.Inner.{Adjusts}
use Rattle.iso_date_time.specs.declared.IsoDateTime.{IsoDateTime}
use Rattle.iso_date_time.specs.declared.InternalDurationRecord.{InternalDurationRecord}
use Rattle.iso_date_time.specs.declared.DateTimeDifference.{DateTimeDifference}
use Rattle.iso_date_time.proofs.Moments.{Fine}
use Rattle.iso_date_time.proofs.Adjusted.{moved_days_is, day_difference}

-- ---- the days of a record within the limits

pub fine_day : (r : IsoDateTime) → Fine r → (neg_ℤ (pos 100000001) ≤ℤ epoch_days r.date) × (epoch_days r.date ≤ℤ pos 100000000)
fine_day r f =
    limits_days (epoch_days r.date) (nanoseconds r.time) (below_day_lem r.time (read_valid r.time f.time_valid)) f.within

-- ---- the adjustment between two records

-- where the second date is moved to, and the time that is then left
pub record Placed (one two : IsoDateTime) (p day : ℕ) (forward : Bool) (ns : ℕ) : Type 0 where
  pub day_low : day_bias - 100000001 ≤ day
  pub day_high : day ≤ day_bias + 100000000
  pub near : apart p day < 2 ^ 40
  pub moved_is : epoch_days two.date +ℤ moved_days one two ≡ day ⊖ day_bias
  pub days_are : (day ⊖ day_bias) -ℤ epoch_days one.date ≡ directed forward (apart p day)
  pub left_are : time_left one two ≡ directed forward ns

raised : (z : ℤ) (r K : ℕ) → z ≡ r ⊖ K → neg_ℤ (pos 100000001) ≤ℤ z → z ≤ℤ pos 100000000 → (K ≤ r + 100000001) × (r ≤ K + 100000000)
raised z r K e h k = let d = read_diff r K in (omega (arith, ints), omega (arith, ints))

on_the_way_lem : (p q day : ℕ) (forward : Bool) → cond forward (leb p day && leb day q) (leb q day && leb day p) ≡ true →
    (min p q ≤ day) × (day ≤ max p q)
on_the_way_lem p q day true e =
    let b = both _ _ e in
    let l = leb-true p day b.0 in
    let m = leb-true day q b.1 in
    (omega arith, omega arith)
on_the_way_lem p q day false e =
    let b = both _ _ e in
    let l = leb-true q day b.0 in
    let m = leb-true day p b.1 in
    (omega arith, omega arith)

day_moved : (x m : ℤ) (q day K : ℕ) → x ≡ q ⊖ K → pos day ≡ pos q +ℤ m → x +ℤ m ≡ day ⊖ K
day_moved x m q day K e f = omega (arith, ints, read_diff q K, read_diff day K, read_add x m, read_add (pos q) m)

days_ahead : (x : ℤ) (p q day K : ℕ) (forward : Bool) → cond forward (leb p day && leb day q) (leb q day && leb day p) ≡ true →
    x ≡ p ⊖ K → (day ⊖ K) -ℤ x ≡ directed forward (apart p day)
days_ahead x p q day K true e f =
    let l = leb-true p day (both (leb p day) (leb day q) e).0 in
    omega (arith, ints, read_diff p K, read_diff day K, read_neg x, read_add (day ⊖ K) (neg_ℤ x))
days_ahead x p q day K false e f =
    let l = leb-true day p (both (leb q day) (leb day p) e).1 in
    omega (arith, ints, read_diff p K, read_diff day K, read_neg x, read_add (day ⊖ K) (neg_ℤ x), read_neg (pos (apart p day)))

module _ (one two : IsoDateTime) (one_fine : Fine one) (two_fine : Fine two) (p a q b day : ℕ) (forward : Bool) (ns : ℕ)
    (from : epoch_days one.date ≡ p ⊖ day_bias) (to : epoch_days two.date ≡ q ⊖ day_bias)
    (start : a ≡ nanoseconds one.time) (end : b ≡ nanoseconds two.time) where
  pub placed : Adjusts p a q b day forward ns → Placed one two p day forward ns
  placed t =
      let u : Adjusts p (nanoseconds one.time) q (nanoseconds two.time) day forward ns = rw (start, end) at t in
      let m = moved_days_is one two p q day_bias one_fine.date_valid two_fine.date_valid from to in
      let x = fine_day one one_fine in
      let y = fine_day two two_fine in
      let r = raised (epoch_days one.date) p day_bias from x.0 x.1 in
      let s = raised (epoch_days two.date) q day_bias to y.0 y.1 in
      let w = on_the_way_lem p q day forward u.between in
      record {
        day_low = omega arith;
        day_high = omega arith;
        near = omega arith;
        moved_is = rw m (day_moved (epoch_days two.date) _ q day day_bias to u.day_is);
        days_are = days_ahead (epoch_days one.date) p q day day_bias forward u.between from;
        left_are = rw m (sym u.left_is);
      }

-- ---- the two ways of the difference

abbrev both_parts : DateDuration → TimeDuration → InternalDurationRecord
both_parts d t = record { date = d; time = t }

-- days and nanoseconds of one direction, as nanoseconds
together : (forward : Bool) (n ns : ℕ) → directed forward ns +ℤ pos ns_per_day *ℤ directed forward n ≡ directed forward (ns_per_day * n + ns)
together forward n ns =
    let e : ns + ns_per_day * n ≡ ns_per_day * n + ns = omega arith in
    ap (λ (z : ℤ). directed forward ns +ℤ z) (directed_times forward ns_per_day n) ∙ directed_add forward ns (ns_per_day * n) ∙ ap (directed forward) e

module _ (one two : IsoDateTime) (unit : TemporalUnit) (p day : ℕ) (forward : Bool) (ns : ℕ) (t : Placed one two p day forward ns) where
  -- down to the day the dates are counted under the unit, and the time that is left stands beside them
  pub dates_and_time : (d : DateDuration) (s : TimeDuration) → unit_rank unit ≤ 3 →
      d ≡ calendar_date_until one.date (epoch_days_to_iso_date (day ⊖ day_bias)) unit → s ≡ in_seconds (directed forward (ns_per_day * 0 + ns)) →
      both_parts d s ≡ difference_iso_date_time one two unit
  unfolding difference_iso_date_time
  dates_and_time d s h e f =
      let z : ns_per_day * 0 + ns ≡ ns = omega arith in
      rw (le-leb (unit_rank unit) 3 (omega arith), lt-leb 4 (unit_rank unit) (omega arith), t.moved_is, t.left_are)
      (ap₂ both_parts e (rw z at f))

  -- below the day the days join the time
  pub time_alone : is_valid_iso_date one.date ≡ true → (n : ℕ) (s : TimeDuration) → 3 < unit_rank unit → n ≡ apart p day →
      s ≡ in_seconds (directed forward (ns_per_day * n + ns)) →
      both_parts (duration (pos 0) (pos 0) (pos 0) (pos 0)) s ≡ difference_iso_date_time one two unit
  unfolding difference_iso_date_time
  time_alone v n s h g e =
      let to : IsoDate = epoch_days_to_iso_date (day ⊖ day_bias) in
      let days : epoch_days to -ℤ epoch_days one.date ≡ directed forward n =
      rw (back_and_there (day ⊖ day_bias), g) t.days_are in
      let dates = day_difference one.date to v (back_valid (day ⊖ day_bias)) in
      rw (lt-leb (unit_rank unit) 3 (omega arith), le-leb 4 (unit_rank unit) (omega arith), t.moved_is, t.left_are, dates, days, together forward n ns)
      (ap (both_parts (duration (pos 0) (pos 0) (pos 0) (pos 0))) e)

  -- the candidates are those of the dates' difference ..
  pub dates_tried : (n : ℕ) → unit_rank unit ≤ 3 → n ≡ calendar_date_tries one.date (epoch_days_to_iso_date (day ⊖ day_bias)) unit → n ≡ difference_tries one two unit
  unfolding difference_tries
  dates_tried n h e = rw (le-leb (unit_rank unit) 3 (omega arith), t.moved_is) e

-- .. and below the day there are none
pub none_tried : (one two : IsoDateTime) (unit : TemporalUnit) → 3 < unit_rank unit → 0 ≡ difference_tries one two unit
unfolding difference_tries
none_tried one two unit h = rw (lt-leb (unit_rank unit) 3 (omega arith)) (sym (none_below one.date (moved_date one two) U.Day refl))

abbrev counted : InternalDurationRecord → ℕ → DateTimeDifference
counted d n = record { duration = d; tries = n }

pub with_tries : (d e : InternalDurationRecord) (n k : ℕ) → d ≡ e → n ≡ k → counted d n ≡ counted e k
with_tries d e n k p q = rw (p, q)

-- ---- one law for each way through the checks

module _ (one two : IsoDateTime) (unit : TemporalUnit) where
  pub first_refused : (n : ℕ) → refused n ≡ date_time_limits one → refused n ≡ date_time_difference one two unit
  unfolding date_time_difference
  first_refused n e = rw (← e)

  pub second_refused : (n : ℕ) → given tt ≡ date_time_limits one → refused n ≡ date_time_limits two → refused n ≡ date_time_difference one two unit
  unfolding date_time_difference
  second_refused n e f = rw (← e, ← f)

  pub both_given : (r : DateTimeDifference) (a b : IsoDateTime) → a ≡ one → b ≡ two → given tt ≡ date_time_limits one → given tt ≡ date_time_limits two →
      r ≡ difference_of_records a b unit → given r ≡ date_time_difference one two unit
  unfolding date_time_difference
  both_given r a b i j e f g = rw (← e, ← f, g, i, j)

pub ruleset difference_ways = (first_refused, second_refused, both_given)
