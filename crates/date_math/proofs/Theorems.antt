-- Demand 3: for every two valid dates within the limits and each unit from year to day the difference is given, meets the rules, and
-- is the only record that does.
use Prim.Native.Nat.{ℕ, ◌+◌, ◌-◌, ◌*◌, ◌/◌, ◌^◌, ◌≤◌, ◌<◌}
use native.Mathlib.Omega.{arith}
use mathlib.Core.Path.{◌≡◌, refl, sym, ◌∙◌, ap, subst}
use mathlib.Core.Bool.{Bool, true, false, ◌&&◌}
use mathlib.Core.Logic.{◌↔◌}
use borrow.Author.Tests.{lt-ltb}
use lib.IntN.{ℤ, pos, neg_ℤ, nat_abs, ◌+ℤ◌, ◌-ℤ◌, ◌*ℤ◌, +ℤ_assoc}
use lib.Signed.{lt_z, ◌≤ℤ◌}
use Rattle.refusal.specs.Answer.{given}
use Rattle.refusal.proofs.Answers.{given_inj}
use Rattle.whole.proofs.Laws.{ints, size_of, range_of, read_add, read_neg, read_times, le_by_test}
use Rattle.whole.proofs.Tests.{and_false, or_true, clash}
use Rattle.iso_date.specs.Proposal.{epoch_days, is_valid_iso_date, iso_date_within_limits}
use Rattle.iso_date.specs.Paper.{day_to_date}
use Rattle.iso_date.specs.declared.IsoDate.{IsoDate}
use Rattle.iso_date.proofs.Answers.{constrain_valid}
use Rattle.date_duration.specs.Proposal.{duration, any_below, any_above, small, small_days, all_small, is_valid_duration}
use Rattle.date_duration.specs.declared.DateDuration.{DateDuration}
use Rattle.options.specs.declared.Overflow.TheVariants.{Constrain}
use Rattle.options.specs.declared.Unit.{Unit as TemporalUnit}
use Rattle.date_math.specs.Proposal.{directed, moved_by, in_years, rest_start, counts_years, counts_months, counts_weeks, calendar_date_until}
use Rattle.date_math.specs.Paper.{is_date_unit, date_sum, date_difference}
use Rattle.date_math.specs.Rules.{on_the_way, MeetsTheRules}
use Rattle.date_math.specs.Claims.{duration_in, Ahead, PartsAhead}
use Rattle.date_math.specs.Inner.{place_of, years_in, months_in, weeks_in}
use Rattle.date_math.proofs.Places.{later_place, place_years, place_moved, moved_proper, years_proper, directed_times, directed_add}
use Rattle.date_math.proofs.Places.{directed_none, split_at}
use Rattle.date_math.proofs.Order.{valid_proper, later_day}
use Rattle.date_math.proofs.Rest.{rest_between, distance_of}
use Rattle.date_math.proofs.Until.{within_years, years_within, months_within, weeks_within, closed, difference_is}
use Rattle.date_math.proofs.Most.{between, way_is, size_directed, most_of, most_is}
use Rattle.date_math.proofs.Sums.{Fine, fine, fine_limits, limit_year, sum_goes, sum_back, day_back}

-- ---- parts of one direction

module _ (forward : Bool) (y m w d : ℕ) where
  abbrev parts : DateDuration
  parts = duration (directed forward y) (directed forward m) (directed forward w) (directed forward d)

  one_way : (any_below parts && any_above parts) ≡ false
  unfolding any_below any_above
  one_way = go forward
    where
      not_below : (n : ℕ) → lt_z (pos n) (pos 0) ≡ false
      not_below n = omega (arith, ints)

      not_above : (n : ℕ) → lt_z (pos 0) (neg_ℤ (pos n)) ≡ false
      not_above n = omega (arith, ints, read_neg (pos n))

      go : (f : Bool) →
          (any_below (duration (directed f y) (directed f m) (directed f w) (directed f d)) &&
          any_above (duration (directed f y) (directed f m) (directed f w) (directed f d))) ≡ false
      go true = rw (not_below y, not_below m, not_below w, not_below d)
      go false = rw (not_above y, not_above m, not_above w, not_above d) (and_false (any_below
          (duration (neg_ℤ (pos y)) (neg_ℤ (pos m)) (neg_ℤ (pos w)) (neg_ℤ (pos d)))))

  parts_valid : y < 2 ^ 32 → m < 2 ^ 32 → w < 2 ^ 32 → d * 86400 < 2 ^ 53 → is_valid_duration parts ≡ true
  unfolding is_valid_duration all_small small small_days
  parts_valid a b c e =
      rw (
        size_directed forward y,
        size_directed forward m,
        size_directed forward w,
        size_directed forward d,
        lt-ltb y (2 ^ 32) a,
        lt-ltb m (2 ^ 32) b,
        lt-ltb w (2 ^ 32) c,
        lt-ltb (d * 86400) (2 ^ 53) e,
        one_way,
      )

-- ---- weeks and days of one direction, fewer than seven days: the only pair of their sum

module _ (y m w d : ℤ) (apart : (any_below (duration y m w d) && any_above (duration y m w d)) ≡ false) where
  weeks_below : lt_z w (pos 0) ≡ true → lt_z (pos 0) d ≡ true → ⊥
  unfolding any_below any_above
  weeks_below h k =
      clash (any_below (duration y m w d) && any_above (duration y m w d))
      (rw (h, k, or_true (lt_z (pos 0) w), or_true (lt_z (pos 0) m), or_true (lt_z (pos 0) y), or_true (lt_z m (pos 0)), or_true (lt_z y (pos 0))))
      apart

  days_below : lt_z d (pos 0) ≡ true → lt_z (pos 0) w ≡ true → ⊥
  unfolding any_below any_above
  days_below h k =
      clash (any_below (duration y m w d) && any_above (duration y m w d))
      (rw (h, k, or_true (lt_z w (pos 0)), or_true (lt_z m (pos 0)), or_true (lt_z y (pos 0)), or_true (lt_z (pos 0) m), or_true (lt_z (pos 0) y)))
      apart

not_less : (a b : ℤ) → (lt_z a b ≡ true → ⊥) → b ≤ℤ a
not_less a b h = go (lt_z a b) refl
  where
    go : (t : Bool) → lt_z a b ≡ t → b ≤ℤ a
    go true e = absurd (h e)
    go false e = omega (arith, ints)

weeks_and_days : (forward : Bool) (w d : ℤ) (rest : ℕ) → d +ℤ pos 7 *ℤ w ≡ directed forward rest → nat_abs d < 7 →
    (lt_z w (pos 0) ≡ true → lt_z (pos 0) d ≡ true → ⊥) → (lt_z d (pos 0) ≡ true → lt_z (pos 0) w ≡ true → ⊥) →
    (w ≡ directed forward (rest / 7)) × (d ≡ directed forward (rest - 7 * (rest / 7)))
weeks_and_days true w d rest e h k l =
    let t = read_times 7 w in
    let s = read_add d (pos 7 *ℤ w) in
    let n = size_of d in
    let r = range_of w in
    let q = range_of d in
    let b : pos 0 ≤ℤ d = not_less d (pos 0) (λ x. l x (omega (arith, ints))) in
    (omega (arith, ints), omega (arith, ints))
weeks_and_days false w d rest e h k l =
    let t = read_times 7 w in
    let s = read_add d (pos 7 *ℤ w) in
    let n = size_of d in
    let r = range_of w in
    let q = range_of d in
    let v = read_neg (pos rest) in
    let b : d ≤ℤ pos 0 = not_less (pos 0) d (λ x. k (omega (arith, ints)) x) in
    (omega (arith, ints, read_neg (pos (rest / 7))), omega (arith, ints, read_neg (pos (rest - 7 * (rest / 7)))))

-- ---- the answer meets the rules

module _ (one two : IsoDate) (unit : TemporalUnit) (one_fine : Fine one) (two_fine : Fine two) (forward : Bool) (gap : ℕ)
    (far : place_of two ≡ place_of one +ℤ directed forward gap) where
  abbrev years : ℕ
  years = years_in unit gap

  abbrev months : ℕ
  months = months_in unit gap

  abbrev start : IsoDate
  start = rest_start forward one years months

  rest_lies : Ahead forward (epoch_days one) (epoch_days start) × Ahead forward (epoch_days start) (epoch_days two)
  rest_lies = rest_between forward one two one_fine.valid two_fine.valid gap years months far (months_within unit gap)

  start_fine : Fine start
  unfolding rest_start
  start_fine =
      let b = go forward (epoch_days one) (epoch_days start) (epoch_days two) rest_lies.0 rest_lies.1 one_fine.low one_fine.high
      two_fine.low two_fine.high in
      record { valid = constrain_valid (moved_by one (directed forward years) (directed forward months)); low = b.0; high = b.1 }
    where
      go : (f : Bool) (a s b : ℤ) → Ahead f a s → Ahead f s b → neg_ℤ (pos 100000001) ≤ℤ a → a ≤ℤ pos 100000000 → neg_ℤ (pos 100000001) ≤ℤ b →
          b ≤ℤ pos 100000000 →
          (neg_ℤ (pos 100000001) ≤ℤ s) × (s ≤ℤ pos 100000000)
      go true a s b h k l m n o = (omega (arith, ints), omega (arith, ints))
      go false a s b h k l m n o = (omega (arith, ints), omega (arith, ints))

  abbrev rest : ℕ
  rest = nat_abs (epoch_days two -ℤ epoch_days start)

  left : epoch_days two ≡ epoch_days start +ℤ directed forward rest
  left = distance_of forward (epoch_days start) (epoch_days two) rest_lies.1

  rest_small : rest ≤ 200000001
  rest_small = go (epoch_days two) (epoch_days start) two_fine.low two_fine.high start_fine.low start_fine.high
    where
      go : (a b : ℤ) → neg_ℤ (pos 100000001) ≤ℤ a → a ≤ℤ pos 100000000 → neg_ℤ (pos 100000001) ≤ℤ b → b ≤ℤ pos 100000000 → nat_abs (a -ℤ b) ≤ 200000001
      go a b h k l m = omega (arith, ints, size_of (a -ℤ b), read_add a (neg_ℤ b), read_neg b, range_of (a -ℤ b))

  gap_small : gap < 384 * 600001
  gap_small =
      let y = limit_year one one_fine in
      let z = limit_year two two_fine in
      let s = go one.year two.year y.0 y.1 z.0 z.1 in
      omega (arith, within_years forward one two one_fine.valid two_fine.valid gap far)
    where
      go : (y z : ℤ) → neg_ℤ (pos 300000) ≤ℤ y → y ≤ℤ pos 300000 → neg_ℤ (pos 300000) ≤ℤ z → z ≤ℤ pos 300000 → nat_abs (z -ℤ y) ≤ 600000
      go y z a b c d = omega (arith, ints, size_of (z -ℤ y), read_add z (neg_ℤ y), read_neg y, range_of (z -ℤ y))

  abbrev answer : DateDuration
  answer = closed forward unit gap rest

  answer_is : calendar_date_until one two unit ≡ answer
  answer_is = difference_is forward one two unit one_fine.valid two_fine.valid gap rest far left

  answer_valid : is_valid_duration answer ≡ true
  answer_valid =
      parts_valid forward years months (weeks_in unit rest) (rest - 7 * weeks_in unit rest)
      (omega (arith, months_within unit gap, gap_small)) (omega (arith, months_within unit gap, gap_small))
      (omega (arith, weeks_within unit rest, rest_small)) (omega (arith, rest_small))

  answer_adds_back : date_sum one answer Constrain ≡ given two
  unfolding rest_start
  answer_adds_back =
      sum_goes one answer one_fine start_fine answer_valid ∙ ap day_to_date (go (epoch_days start) (epoch_days two) rest (weeks_in unit rest)
      (weeks_within unit rest) left) ∙ day_back two two_fine
    where
      go : (s t : ℤ) (n w : ℕ) → 7 * w ≤ n → t ≡ s +ℤ directed forward n → s +ℤ (directed forward (n - 7 * w) +ℤ pos 7 *ℤ directed forward w) ≡ t
      go s t n w h e =
          let f : n - 7 * w + 7 * w ≡ n = omega arith in
          ap (λ (z : ℤ). s +ℤ (directed forward (n - 7 * w) +ℤ z)) (directed_times forward 7 w) ∙
          ap (λ (z : ℤ). s +ℤ z) (directed_add forward (n - 7 * w) (7 * w) ∙ ap (directed forward) f) ∙ sym e

  -- ---- the most years, and from there the most months

  years_way : (k : ℤ) → on_the_way one two (in_years one k) ≡ between (place_of one) (place_of two) (place_of one +ℤ pos 384 *ℤ k)
  years_way k =
      let p = valid_proper one one_fine.valid in
      way_is one two (in_years one k) p (valid_proper two two_fine.valid) (years_proper one k p) ∙
      ap (between (place_of one) (place_of two)) (place_years one k)

  abbrev turned : IsoDate
  turned = in_years one (directed forward years)

  turned_far : place_of two ≡ place_of turned +ℤ directed forward (gap - 384 * years)
  turned_far =
      go (place_of one) (place_of two) (place_of turned) years (years_within unit gap) far
      (place_years one (directed forward years) ∙ ap (λ (z : ℤ). place_of one +ℤ z) (directed_times forward 384 years))
    where
      go : (a b t : ℤ) (y : ℕ) → 384 * y ≤ gap → b ≡ a +ℤ directed forward gap → t ≡ a +ℤ directed forward (384 * y) → b ≡ t +ℤ directed forward (gap - 384 * y)
      go a b t y h e f = e ∙ split_at forward a (384 * y) gap h ∙ ap (λ (z : ℤ). z +ℤ directed forward (gap - 384 * y)) (sym f)

  months_way : (k : ℤ) → on_the_way turned two (moved_by one (directed forward years) k) ≡ between (place_of turned) (place_of two) (place_of turned +ℤ pos 32 *ℤ k)
  months_way k =
      let p = valid_proper one one_fine.valid in
      way_is turned two (moved_by one (directed forward years) k) (years_proper one (directed forward years) p) (valid_proper two two_fine.valid)
      (moved_proper one (directed forward years) k p.day_high) ∙
      ap (between (place_of turned) (place_of two))
      (place_moved one (directed forward years) k ∙ sym (+ℤ_assoc (place_of one) (pos 384 *ℤ directed forward years) (pos 32 *ℤ k)) ∙
      ap (λ (z : ℤ). z +ℤ pos 32 *ℤ k) (sym (place_years one (directed forward years))))

  years_counted : counts_years unit ≡ true → years ≡ gap / 384
  unfolding years_in
  years_counted e = rw e

  months_counted : counts_months unit ≡ true → months ≡ (gap - 384 * years) / 32
  unfolding months_in
  months_counted e = rw e

  weeks_counted : counts_weeks unit ≡ true → weeks_in unit rest ≡ rest / 7
  unfolding weeks_in
  weeks_counted e = rw e

  no_years_counted : counts_years unit ≡ false → years ≡ 0
  unfolding years_in
  no_years_counted e = rw e

  no_months_counted : counts_months unit ≡ false → months ≡ 0
  unfolding months_in
  no_months_counted e = rw e

  no_weeks_counted : counts_weeks unit ≡ false → weeks_in unit rest ≡ 0
  unfolding weeks_in
  no_weeks_counted e = rw e

  zero_part : (n : ℕ) → n ≡ 0 → directed forward n ≡ pos 0
  zero_part n e = ap (directed forward) e ∙ directed_none forward

  answer_meets : MeetsTheRules one two unit answer
  answer_meets =
      record {
        no_years = λ e. zero_part years (no_years_counted e);
        no_months = λ e. zero_part months (no_months_counted e);
        no_weeks = λ e. zero_part (weeks_in unit rest) (no_weeks_counted e);
        most_years = λ e.
            rw (years_counted e)
            (most_of forward (place_of one) (place_of two) gap 384 (omega arith) far (λ k. on_the_way one two (in_years one k)) years_way);
        most_months = λ e.
            rw (months_counted e)
            (most_of forward (place_of turned) (place_of two) (gap - 384 * years) 32 (omega arith) turned_far
            (λ k. on_the_way turned two (moved_by one (directed forward years) k)) months_way);
        whole_weeks = λ e. rw (size_directed forward (rest - 7 * weeks_in unit rest)) (omega (arith, weeks_counted e));
        not_opposed = one_way forward years months (weeks_in unit rest) (rest - 7 * weeks_in unit rest);
        adds_back = answer_adds_back;
      }

  -- ---- and it is the only record that does

  days_left : (w d : ℤ) → date_sum one (duration (directed forward years) (directed forward months) w d) Constrain ≡ given two →
      d +ℤ pos 7 *ℤ w ≡ directed forward rest
  unfolding rest_start
  days_left w d e =
      go (epoch_days start) (d +ℤ pos 7 *ℤ w) (directed forward rest)
      (sum_back one (duration (directed forward years) (directed forward months) w d) one_fine start_fine two e ∙ left)
    where
      go : (a b c : ℤ) → a +ℤ b ≡ a +ℤ c → b ≡ c
      go a b c e = omega (arith, ints, read_add a b, read_add a c)

  weeks_only : (w d : ℤ) → MeetsTheRules one two unit (duration (directed forward years) (directed forward months) w d) →
      duration (directed forward years) (directed forward months) w d ≡ answer
  weeks_only w d r = go (counts_weeks unit) refl
    where
      go : (t : Bool) → counts_weeks unit ≡ t → duration (directed forward years) (directed forward months) w d ≡ answer
      go true e =
          let p = weeks_and_days forward w d rest (days_left w d r.adds_back) (r.whole_weeks e)
          (weeks_below (directed forward years) (directed forward months) w d r.not_opposed)
          (days_below (directed forward years) (directed forward months) w d r.not_opposed) in
          rw (weeks_counted e, p.0, p.1)
      go false e =
          let z : w ≡ pos 0 = r.no_weeks e in
          let f : d ≡ directed forward rest = alone d w (directed forward rest) z (days_left w d r.adds_back) in
          rw (no_weeks_counted e, z, f, directed_none forward) (ap (λ (n : ℕ). duration (directed forward years) (directed forward months) (pos 0)
          (directed forward n)) (omega arith))
        where
          alone : (d w s : ℤ) → w ≡ pos 0 → d +ℤ pos 7 *ℤ w ≡ s → d ≡ s
          alone d w s e f = omega (arith, ints, read_times 7 w, read_add d (pos 7 *ℤ w))

  only_answer : (r : DateDuration) → MeetsTheRules one two unit r → r ≡ answer
  only_answer r m =
      let y : r.years ≡ directed forward years = years_same (counts_years unit) refl in
      let m' = subst (λ (z : ℤ). MeetsTheRules one two unit (duration z r.months r.weeks r.days)) y m in
      let n : r.months ≡ directed forward months = months_same (counts_months unit) refl m' in
      ap (λ (z : ℤ). duration z r.months r.weeks r.days) y ∙
      ap (λ (z : ℤ). duration (directed forward years) z r.weeks r.days) n ∙
      weeks_only r.weeks r.days
      (subst (λ (z : ℤ). MeetsTheRules one two unit (duration (directed forward years) z r.weeks r.days)) n m')
    where
      years_same : (t : Bool) → counts_years unit ≡ t → r.years ≡ directed forward years
      years_same true e =
          most_is forward (place_of one) (place_of two) gap 384 (omega arith) far (λ k. on_the_way one two (in_years one k)) years_way r.years (m.most_years e) ∙
          ap (directed forward) (sym (years_counted e))
      years_same false e = m.no_years e ∙ sym (zero_part years (no_years_counted e))

      months_same : (t : Bool) → counts_months unit ≡ t →
          MeetsTheRules one two unit (duration (directed forward years) r.months r.weeks r.days) → r.months ≡ directed forward months
      months_same true e k =
          most_is forward (place_of turned) (place_of two) (gap - 384 * years) 32 (omega arith) turned_far
          (λ j. on_the_way turned two (moved_by one (directed forward years) j)) months_way r.months (k.most_months e) ∙
          ap (directed forward) (sym (months_counted e))
      months_same false e k = k.no_months e ∙ sym (zero_part months (no_months_counted e))

-- ---- for every two dates: the direction and the gap are found

module _ {A : Type 0} (one two : IsoDate) (go_on : (forward : Bool) (gap : ℕ) → place_of two ≡ place_of one +ℤ directed forward gap → A) where
  pub in_some_direction : A
  in_some_direction = go (lt_z (place_of two) (place_of one)) refl
    where
      gap : ℕ
      gap = nat_abs (place_of two -ℤ place_of one)

      go : (t : Bool) → lt_z (place_of two) (place_of one) ≡ t → A
      go true e = go_on false gap (distance_of false (place_of one) (place_of two) (omega (arith, ints)))
      go false e = go_on true gap (distance_of true (place_of one) (place_of two) (omega (arith, ints)))

-- ---- every part has the direction in which the second date lies ahead

places_by_days : (a b : IsoDate) → is_valid_iso_date a ≡ true → is_valid_iso_date b ≡ true → epoch_days a ≤ℤ epoch_days b → place_of a ≤ℤ place_of b
places_by_days a b v w h =
    le_by_test (epoch_days a) (epoch_days b) (place_of a) (place_of b)
    (sym (later_place a b (valid_proper a v) (valid_proper b w)) ∙ later_day a b v w) h

places_ahead : (forward : Bool) (a b : IsoDate) → is_valid_iso_date a ≡ true → is_valid_iso_date b ≡ true →
    Ahead forward (epoch_days a) (epoch_days b) → Ahead forward (place_of a) (place_of b)
places_ahead true a b v w h = places_by_days a b v w h
places_ahead false a b v w h = places_by_days b a w v h

pub parts_ahead : (forward : Bool) (one two : IsoDate) (unit : TemporalUnit) → is_valid_iso_date one ≡ true → is_valid_iso_date two ≡ true →
    Ahead forward (epoch_days one) (epoch_days two) → PartsAhead forward (calendar_date_until one two unit)
parts_ahead forward one two unit v w h =
    let gap : ℕ = nat_abs (place_of two -ℤ place_of one) in
    let far = distance_of forward (place_of one) (place_of two) (places_ahead forward one two v w h) in
    let start : IsoDate = rest_start forward one (years_in unit gap) (months_in unit gap) in
    let rest : ℕ = nat_abs (epoch_days two -ℤ epoch_days start) in
    let lies = rest_between forward one two v w gap (years_in unit gap) (months_in unit gap) far (months_within unit gap) in
    record {
      years = years_in unit gap;
      months = months_in unit gap;
      weeks = weeks_in unit rest;
      days = rest - 7 * weeks_in unit rest;
      are = difference_is forward one two unit v w gap rest far (distance_of forward (epoch_days start) (epoch_days two) lies.1);
    }

-- ---- demand 3

module _ (one two : IsoDate) (unit : TemporalUnit) (one_valid : is_valid_iso_date one ≡ true) (one_within : iso_date_within_limits one ≡ true)
    (two_valid : is_valid_iso_date two ≡ true) (two_within : iso_date_within_limits two ≡ true) where
  -- the difference is always given
  pub always_given : is_date_unit unit ≡ true → duration_in (date_difference one two unit) ≡ given (calendar_date_until one two unit)
  unfolding date_difference
  always_given u =
      rw (fine_limits one (fine one one_valid one_within), fine_limits two (fine two two_valid two_within), u)

  -- what is given meets the rules
  pub meets_the_rules : MeetsTheRules one two unit (calendar_date_until one two unit)
  meets_the_rules =
      let f = fine one one_valid one_within in
      let g = fine two two_valid two_within in
      in_some_direction one two (λ forward gap far. rw (answer_is one two unit f g forward gap far) (answer_meets one two unit f g forward gap far))

  -- no other record does
  pub no_other : (r : DateDuration) → MeetsTheRules one two unit r → r ≡ calendar_date_until one two unit
  no_other r m =
      let f = fine one one_valid one_within in
      let g = fine two two_valid two_within in
      in_some_direction one two (λ forward gap far. only_answer one two unit f g forward gap far r m ∙ sym (answer_is one two unit f g forward gap far))

  -- together, of what is given: it is a record just where that record meets the rules
  pub demand_3 : is_date_unit unit ≡ true → (r : DateDuration) → (duration_in (date_difference one two unit) ≡ given r) ↔ MeetsTheRules one two unit r
  demand_3 u r = (
    (λ e. subst (λ (s : DateDuration). MeetsTheRules one two unit s) (given_inj (calendar_date_until one two unit) r (sym (always_given u) ∙ e)) meets_the_rules),
    (λ m. always_given u ∙ ap given (sym (no_other r m))),
  )
