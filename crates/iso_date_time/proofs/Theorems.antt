-- What holds of the calls on dates with a time beyond their definitions: the difference of two records within the limits is always
-- given, is exact in nanoseconds, has no part larger than the unit and never two directions; rounding does not meet the refusal of a
-- day count, and what it gives may stand.
use Prim.Native.Nat.{ℕ, ◌+◌, ◌-◌, ◌*◌, ◌/◌, ◌%◌, ◌≤◌, ◌<◌}
use native.Mathlib.Omega.{arith}
use mathlib.Core.Path.{◌≡◌, refl, sym, ◌∙◌, ap}
use mathlib.Core.Logic.{⊎_elim}
use mathlib.Core.Bool.{Bool, true, false, cond}
use borrow.Author.Tests.{le-leb, lt-ltb, le-ltb}
use lib.Dec.{ltb}
use lib.IntN.{ℤ, pos, neg_ℤ, ◌+ℤ◌, ◌-ℤ◌, ◌*ℤ◌, +ℤ_idl, +ℤ_comm}
use Rattle.refusal.specs.Answer.{Answer, given, refused, check, and_then, number_of}
use Rattle.refusal.proofs.Answers.{given_inj, never}
use Rattle.whole.specs.Whole.{apart, ◌⊖◌}
use Rattle.whole.proofs.Laws.{whole, ints, parts, split, read_add, read_neg, read_diff}
use Rattle.whole.proofs.Edges.{raised_is}
use Rattle.iso_date.specs.Proposal.{epoch_days, epoch_days_to_iso_date, is_valid_iso_date}
use Rattle.iso_date.specs.Paper.{date_limits}
use Rattle.iso_date.specs.Inner.{day_bias}
use Rattle.iso_date.proofs.Dates.{back_valid, back_and_there}
use Rattle.iso_time.specs.Proposal.{nanoseconds, in_seconds, is_valid_time, valid_increment, round_time}
use Rattle.iso_time.specs.Paper.{is_rounding_unit}
use Rattle.iso_time.specs.Claims.{nanoseconds_of, Along, Parts}
use Rattle.iso_time.proofs.Theorems.{cut_back, parts_in_seconds, rounded_time_is_a_time}
use Rattle.iso_time.proofs.Times.{read_valid, below_day_lem}
use Rattle.rounding.specs.declared.RoundingMode.{RoundingMode}
use Rattle.date_duration.specs.Proposal.{duration}
use Rattle.date_duration.specs.declared.DateDuration.{DateDuration}
use Rattle.options.specs.declared.Unit.{Unit as TemporalUnit}
use Rattle.options.specs.declared.Unit.TheVariants as U
use Rattle.options.specs.Units.{unit_rank, ns_per_day}
use Rattle.date_math.specs.Proposal.{directed}
use Rattle.date_math.specs.Paper.{is_date_unit, difference_of_dates, date_difference}
use Rattle.date_math.specs.Claims.{Ahead}
use Rattle.date_math.specs.declared.DateDifference.{DateDifference}
use Rattle.date_math.proofs.Sums.{fine_limits}
use Rattle.date_math.proofs.Theorems.{parts_ahead}
use Rattle.date_math.proofs.Counts.{at_most_15}
use Rattle.iso_date_time.specs.Proposal.{epoch_nanoseconds, iso_date_time_within_limits, round_iso_date_time, moved_days, moved_date, time_left, at_least_day}
use Rattle.iso_date_time.specs.Proposal.{below_day, joined, difference_iso_date_time}
use Rattle.iso_date_time.specs.Paper.{date_time_limits, round_date_time, difference_tries, difference_of_records, date_time_difference}
use Rattle.iso_date_time.specs.Inner.{Adjusts}
use Rattle.iso_date_time.specs.Claims.{exactly, OneWay}
use Rattle.iso_date_time.specs.declared.IsoDateTime.{IsoDateTime}
use Rattle.iso_date_time.specs.declared.DateTimeDifference.{DateTimeDifference}
use Rattle.iso_date_time.proofs.Moments.{Fine, limits_fine, check_passed}
use Rattle.iso_date_time.proofs.Adjusted.{in_seconds_is, adjusted_ahead, adjusted_behind, day_difference}
use Rattle.iso_date_time.proofs.Differences.{Placed, fine_day, placed, dates_and_time, time_alone, none_tried}

-- ---- the exact nanoseconds of an answer's days and time

-- wherever the days stand, they count
joined_counts : (below : Bool) (y m w d ns : ℤ) → exactly (joined below (duration y m w d) ns) ≡ ns +ℤ pos ns_per_day *ℤ d
joined_counts true y m w d ns = +ℤ_idl (nanoseconds_of (in_seconds (ns +ℤ pos ns_per_day *ℤ d))) ∙ cut_back (ns +ℤ pos ns_per_day *ℤ d)
joined_counts false y m w d ns = ap (λ (z : ℤ). pos ns_per_day *ℤ d +ℤ z) (cut_back ns) ∙ +ℤ_comm (pos ns_per_day *ℤ d) ns

under_day : (unit : TemporalUnit) → 3 ≤ unit_rank unit → at_least_day unit ≡ U.Day
under_day U.Year h = let f : ⊥ = omega arith in absurd f
under_day U.Month h = let f : ⊥ = omega arith in absurd f
under_day U.Week h = let f : ⊥ = omega arith in absurd f
under_day U.Day h = refl
under_day U.Hour h = refl
under_day U.Minute h = refl
under_day U.Second h = refl
under_day U.Millisecond h = refl
under_day U.Microsecond h = refl
under_day U.Nanosecond h = refl

joined_larger : (below : Bool) (d ns : ℤ) →
    ((joined below (duration (pos 0) (pos 0) (pos 0) d) ns).date.years ≡ pos 0) ×
    (((joined below (duration (pos 0) (pos 0) (pos 0) d) ns).date.months ≡ pos 0) × ((joined below (duration (pos 0) (pos 0) (pos 0) d) ns).date.weeks ≡ pos 0))
joined_larger true d ns = (refl, (refl, refl))
joined_larger false d ns = (refl, (refl, refl))

joined_parts : (below : Bool) (d : DateDuration) (ns : ℤ) → Parts (joined below d ns).time
joined_parts true d ns = parts_in_seconds (ns +ℤ pos ns_per_day *ℤ d.days)
joined_parts false d ns = parts_in_seconds ns

-- days e and f with nanoseconds a and b: what moves, m, joins the days and leaves the time
between_moments : (e f m : ℤ) (a b : ℕ) →
    pos ns_per_day *ℤ f +ℤ pos b -ℤ (pos ns_per_day *ℤ e +ℤ pos a) ≡ (pos b -ℤ pos a -ℤ pos ns_per_day *ℤ m) +ℤ pos ns_per_day *ℤ (f +ℤ m -ℤ e)
between_moments e f m a b = rw (parts e, parts f, parts m) (simp whole (omega arith))

-- ---- the parts of an answer have one direction

counted : (forward : Bool) (n : ℕ) → Along forward (directed forward n)
counted true n = omega (arith, ints)
counted false n = omega (arith, ints, read_neg (pos n))

nothing : (forward : Bool) → Along forward (pos 0)
nothing true = omega (arith, ints)
nothing false = omega (arith, ints)

ahead_by : (forward : Bool) (x y : ℤ) (n : ℕ) → y -ℤ x ≡ directed forward n → Ahead forward x y
ahead_by true x y n e = omega (arith, ints, read_neg x, read_add y (neg_ℤ x))
ahead_by false x y n e = omega (arith, ints, read_neg x, read_add y (neg_ℤ x), read_neg (pos n))

-- the date of a record within its limits is within those of dates
dates_stand : (r : IsoDateTime) → Fine r → date_limits r.date ≡ given tt
dates_stand r f = let b = fine_day r f in fine_limits r.date (record { valid = f.date_valid; low = b.0; high = b.1 })

at_least_day_lem : (unit : TemporalUnit) → is_date_unit (at_least_day unit) ≡ true
at_least_day_lem U.Year = refl
at_least_day_lem U.Month = refl
at_least_day_lem U.Week = refl
at_least_day_lem U.Day = refl
at_least_day_lem U.Hour = refl
at_least_day_lem U.Minute = refl
at_least_day_lem U.Second = refl
at_least_day_lem U.Millisecond = refl
at_least_day_lem U.Microsecond = refl
at_least_day_lem U.Nanosecond = refl

-- any two moments can be adjusted
some_until : {A : Type 0} (a b : ℕ) → a < ns_per_day → b < ns_per_day →
    ((k n : ℕ) → k ≡ cond (ltb b a) 1 0 → n + a ≡ b + ns_per_day * k → n < ns_per_day → A) → A
some_until a b k l go =
    ⊎_elim (λ h. go 1 (b + ns_per_day - a) (rw (lt-ltb b a h)) (omega arith) (omega arith))
    (λ h. go 0 (b - a) (rw (le-ltb b a h)) (omega arith) (omega arith)) (split b a)

module _ {A : Type 0} (p a q b : ℕ) (k : a < ns_per_day) (l : b < ns_per_day)
    (go_on : (day : ℕ) (forward : Bool) (ns : ℕ) → Adjusts p a q b day forward ns → A) where
  ahead : p ≤ q → (b < a → p < q) → A
  ahead h i = some_until a b k l (λ m n x y z. go_on _ _ _ (adjusted_ahead p a q b m n h i k x y z))

  behind : q ≤ p → (a < b → q < p) → A
  behind h i = some_until b a l k (λ m n x y z. go_on _ _ _ (adjusted_behind p a q b m n h i l x y z))

  some_adjustment : A
  some_adjustment =
      ⊎_elim (λ h. ahead (omega arith) (λ i. h))
      (λ h.
      ⊎_elim (λ j. behind h (λ i. j))
      (λ j. ⊎_elim (λ i. behind h (λ x. omega arith)) (λ i. ahead j (λ x. omega arith)) (split b a))
      (split q p))
      (split p q)

-- ---- the time of a difference: its nanoseconds are below a second in size

pub time_parts : (one two : IsoDateTime) (unit : TemporalUnit) → Parts (difference_iso_date_time one two unit).time
unfolding difference_iso_date_time
time_parts one two unit = joined_parts (below_day unit) _ (time_left one two)

-- ---- the difference of two records within the limits

module _ (one two : IsoDateTime) (one_stands : date_time_limits one ≡ given tt) (two_stands : date_time_limits two ≡ given tt) where
  one_fine : Fine one
  one_fine = limits_fine one (sym one_stands)

  two_fine : Fine two
  two_fine = limits_fine two (sym two_stands)

  pub difference_always_given : (unit : TemporalUnit) → date_time_difference one two unit ≡ given (difference_of_records one two unit)
  unfolding date_time_difference
  difference_always_given unit = rw (one_stands, two_stands)

  day_parts : (unit : TemporalUnit) → 3 ≤ unit_rank unit →
      difference_iso_date_time one two unit ≡
      joined (below_day unit) (duration (pos 0) (pos 0) (pos 0) (epoch_days two.date +ℤ moved_days one two -ℤ epoch_days one.date)) (time_left one two)
  unfolding difference_iso_date_time
  day_parts unit h =
      let k : ℤ = epoch_days two.date +ℤ moved_days one two in
      rw (under_day unit h, day_difference one.date (epoch_days_to_iso_date k) one_fine.date_valid (back_valid k), back_and_there k)

  -- where the unit is day or below, days and time are the exact nanoseconds between the records
  pub nanoseconds_exact : (unit : TemporalUnit) → 3 ≤ unit_rank unit →
      epoch_nanoseconds two -ℤ epoch_nanoseconds one ≡ exactly (difference_iso_date_time one two unit)
  unfolding epoch_nanoseconds
  nanoseconds_exact unit h =
      rw (day_parts unit h)
      (between_moments (epoch_days one.date) (epoch_days two.date) (moved_days one two) (nanoseconds one.time) (nanoseconds two.time) ∙
      sym (joined_counts (below_day unit) (pos 0) (pos 0) (pos 0) _ _))

  -- and the larger parts are 0
  pub larger_parts_zero : (unit : TemporalUnit) → 3 ≤ unit_rank unit →
      ((difference_iso_date_time one two unit).date.years ≡ pos 0) ×
      (((difference_iso_date_time one two unit).date.months ≡ pos 0) × ((difference_iso_date_time one two unit).date.weeks ≡ pos 0))
  larger_parts_zero unit h = rw (day_parts unit h) (joined_larger (below_day unit) _ (time_left one two))

  -- below day the days are 0 too
  pub days_joined : (unit : TemporalUnit) → 4 ≤ unit_rank unit → (difference_iso_date_time one two unit).date.days ≡ pos 0
  unfolding difference_iso_date_time
  days_joined unit h = rw (le-leb 4 (unit_rank unit) h)

  one_way : (unit : TemporalUnit) (p day : ℕ) (forward : Bool) (ns : ℕ) → Placed one two p day forward ns → OneWay (difference_iso_date_time one two unit)
  one_way unit p day forward ns t =
      ⊎_elim
      (λ h.
      let n : ℕ = apart p day in
      rw (← time_alone one two unit p day forward ns t one_fine.date_valid n _ h refl (in_seconds_is forward n ns _ _ refl refl))
      (record {
        forward = forward;
        years_along = nothing forward;
        months_along = nothing forward;
        weeks_along = nothing forward;
        days_along = nothing forward;
        seconds_along = counted forward (86400 * n + ns / 1000000000);
        nanoseconds_along = counted forward (ns % 1000000000);
      }))
      (λ h.
      let to : ℤ = day ⊖ day_bias in
      let ahead = ahead_by forward (epoch_days one.date) (epoch_days (epoch_days_to_iso_date to)) (apart p day) (rw (back_and_there to) t.days_are) in
      let d = parts_ahead forward one.date (epoch_days_to_iso_date to) unit one_fine.date_valid (back_valid to) ahead in
      rw (← dates_and_time one two unit p day forward ns t _ _ h (sym d.are) (in_seconds_is forward 0 ns _ _ refl refl))
      (record {
        forward = forward;
        years_along = counted forward d.years;
        months_along = counted forward d.months;
        weeks_along = counted forward d.weeks;
        days_along = counted forward d.days;
        seconds_along = counted forward (86400 * 0 + ns / 1000000000);
        nanoseconds_along = counted forward (ns % 1000000000);
      }))
      (split 3 (unit_rank unit))

  some_placed : {A : Type 0} → ((p day : ℕ) (forward : Bool) (ns : ℕ) → Placed one two p day forward ns → A) → A
  some_placed go_on =
      let a : ℕ = nanoseconds one.time in
      let b : ℕ = nanoseconds two.time in
      let from = raised_is (epoch_days one.date) day_bias (omega (arith, ints, fine_day one one_fine, read_diff 0 day_bias)) in
      let to = raised_is (epoch_days two.date) day_bias (omega (arith, ints, fine_day two two_fine, read_diff 0 day_bias)) in
      some_adjustment _ a _ b (below_day_lem one.time (read_valid one.time one_fine.time_valid))
      (below_day_lem two.time (read_valid two.time two_fine.time_valid))
      (λ day forward ns t. go_on _ day forward ns (placed one two one_fine two_fine _ a _ b day forward ns from to refl refl t))

  -- no two parts have opposed signs
  pub no_part_opposed : (unit : TemporalUnit) → OneWay (difference_iso_date_time one two unit)
  no_part_opposed unit = some_placed (one_way unit)

  -- ---- the candidates that are tried

  -- the second date, moved, lies between the two, so that it may stand
  moved_stands : date_limits (moved_date one two) ≡ given tt
  moved_stands =
      some_placed (λ p day forward ns t.
      let is = back_and_there (epoch_days two.date +ℤ moved_days one two) ∙ t.moved_is in
      let d = read_diff day day_bias in
      fine_limits (moved_date one two)
      (record {
        valid = back_valid (epoch_days two.date +ℤ moved_days one two);
        low = rw is (omega (arith, ints, t.day_low));
        high = rw is (omega (arith, ints, t.day_high));
      }))

  -- the dates, the second as it was moved, have a difference under the larger of day and the unit
  pub dates_given : (unit : TemporalUnit) →
      date_difference one.date (moved_date one two) (at_least_day unit) ≡ given (difference_of_dates one.date (moved_date one two) (at_least_day unit))
  unfolding date_difference
  dates_given unit = rw (dates_stand one one_fine, moved_stands, at_least_day_lem unit)

  -- and its count is the count of the whole
  pub tries_of_the_dates : (unit : TemporalUnit) (d : DateDifference) (r : DateTimeDifference) →
      date_difference one.date (moved_date one two) (at_least_day unit) ≡ given d → date_time_difference one two unit ≡ given r → r.tries ≡ d.tries
  unfolding difference_tries
  tries_of_the_dates unit d r e f =
      sym (ap (λ (x : DateTimeDifference). x.tries) (given_inj (difference_of_records one two unit) r (sym (difference_always_given unit) ∙ f))) ∙
      ap (λ (x : DateDifference). x.tries)
      (given_inj (difference_of_dates one.date (moved_date one two) (at_least_day unit)) d (sym (dates_given unit) ∙ e))

  pub at_most_15_tried : (unit : TemporalUnit) → difference_tries one two unit ≤ 15
  unfolding difference_tries
  at_most_15_tried unit =
      at_most_15 one.date (moved_date one two) one_fine.date_valid (back_valid (epoch_days two.date +ℤ moved_days one two)) (at_least_day unit)

-- below the day none are, whatever the records
pub none_below_day : (one two : IsoDateTime) (unit : TemporalUnit) → 4 ≤ unit_rank unit → difference_tries one two unit ≡ 0
none_below_day one two unit h = sym (none_tried one two unit (omega arith))

-- ---- rounding never refuses with 4, and what it gives may stand

check_not : {A : Type 0} (t : Bool) (k : ℕ) (rest : Answer A) → (k ≡ 4 → ⊥) → (rest ≡ refused 4 → ⊥) → check t k rest ≡ refused 4 → ⊥
check_not true k rest g h e = h e
check_not false k rest g h e = g (ap number_of e)

then_not : {A B : Type 0} (first : Answer A) (step : A → Answer B) → (first ≡ refused 4 → ⊥) → ((a : A) → step a ≡ refused 4 → ⊥) →
    and_then first step ≡ refused 4 → ⊥
then_not (given a) step g h e = h a e
then_not (refused n) step g h e = g (ap refused (ap number_of e))

limits_not : (r : IsoDateTime) → date_time_limits r ≡ refused 4 → ⊥
unfolding date_time_limits
limits_not r =
    check_not (is_valid_iso_date r.date) 1 _ (λ e. omega arith)
    (check_not (is_valid_time r.time) 1 _ (λ e. omega arith)
    (check_not (iso_date_time_within_limits r) 3 _ (λ e. omega arith) (λ e. never {A = Unit {0}} tt 4 (sym e))))

module _ (r : IsoDateTime) (unit : TemporalUnit) (inc : ℕ) (mode : RoundingMode) where
  abbrev result : IsoDateTime
  result = round_iso_date_time r inc unit mode

  abbrev limited : Answer IsoDateTime
  limited = check (iso_date_time_within_limits result) 3 (given result)

  abbrev rounding : Answer IsoDateTime
  rounding = check (is_rounding_unit unit) 5 (check (valid_increment unit inc) 6 limited)

  pub rounding_never_4 : round_date_time r unit inc mode ≡ refused 4 → ⊥
  unfolding round_date_time
  rounding_never_4 =
      then_not (date_time_limits r) (λ _. rounding) (limits_not r)
      (λ _.
      check_not (is_rounding_unit unit) 5 _ (λ e. omega arith)
      (check_not (valid_increment unit inc) 6 _ (λ e. omega arith)
      (check_not (iso_date_time_within_limits result) 3 _ (λ e. omega arith) (λ e. never result 4 (sym e)))))

  result_stands : is_valid_time r.time ≡ true → is_rounding_unit unit ≡ true → valid_increment unit inc ≡ true → iso_date_time_within_limits result ≡ true →
      date_time_limits result ≡ given tt
  unfolding date_time_limits round_iso_date_time
  result_stands v u i w =
      rw (back_valid (epoch_days r.date +ℤ (round_time r.time inc unit mode).days), (rounded_time_is_a_time r.time unit inc mode v u i).0, w)

  -- whatever rounding gives is valid and within the limits
  pub rounded_stands : (s : IsoDateTime) → round_date_time r unit inc mode ≡ given s → date_time_limits s ≡ given tt
  unfolding round_date_time
  rounded_stands s e =
      go (date_time_limits r) refl e
    where
      go : (a : Answer (Unit {0})) → date_time_limits r ≡ a → and_then a (λ _. rounding) ≡ given s → date_time_limits s ≡ given tt
      go (given tt) h f =
          let u = check_passed (is_rounding_unit unit) 5 _ s f in
          let i = check_passed (valid_increment unit inc) 6 _ s u.1 in
          let w = check_passed (iso_date_time_within_limits result) 3 _ s i.1 in
          rw (← given_inj result s w.1) (result_stands (limits_fine r (sym h)).time_valid u.0 i.0 w.0)
      go (refused n) h f = never s n f
