-- The difference in closed form. Between two dates lies a gap of places; the years kept are as often as 384 goes into it, the months
-- as often as 32 goes into what is left. The rest starts between the dates, so its days are the exact distance.
use Prim.Native.Nat.{ℕ, ◌+◌, ◌-◌, ◌*◌, ◌/◌, ◌≤◌, ◌<◌}
use native.Mathlib.Nat.{mul-le-mul_right}
use native.Mathlib.Omega.{arith}
use mathlib.Core.Path.{◌≡◌, refl, sym, ◌∙◌, ap}
use mathlib.Core.Bool.{Bool, true, false, not, cond}
use borrow.Author.Tests.{lt-ltb, le-ltb, ltb-true, ltb-false, leb-true, leb-false}
use lib.Dec.{ltb, leb}
use lib.IntN.{ℤ, pos, neg_ℤ, nat_abs, ◌+ℤ◌, ◌-ℤ◌, ◌*ℤ◌}
use lib.Signed.{lt_z}
use Rattle.whole.specs.Whole.{apart, ◌⊖◌}
use Rattle.whole.proofs.Laws.{ints, size_of, whole, range_of, read_add, read_neg, read_times}
use Rattle.whole.proofs.Tests.{alike}
use Rattle.iso_date.specs.Proposal.{epoch_days, epoch_days_to_iso_date, is_valid_iso_date}
use Rattle.iso_date.specs.Inner.{day_bias}
use Rattle.iso_date.specs.declared.IsoDate.{IsoDate}
use Rattle.iso_date.proofs.Dates.{back_valid, back_and_there}
use Rattle.date_duration.specs.Proposal.{duration}
use Rattle.date_duration.specs.declared.DateDuration.{DateDuration}
use Rattle.options.specs.declared.Unit.{Unit as TemporalUnit}
use Rattle.date_math.specs.Proposal.{is_later, iso_date_surpasses, directed, moved_by, in_years, add_days_to_iso_date, years_until, months_until}
use Rattle.date_math.specs.Proposal.{rest_start, days_until, years_found, months_found, weeks_found, date_until, calendar_date_until}
use Rattle.date_math.specs.Proposal.{counts_years, counts_months, counts_weeks}
use Rattle.date_math.specs.Tries.{years_apart}
use Rattle.date_math.specs.Claims.{Ahead}
use Rattle.date_math.specs.Inner.{place_of, place_bias, years_in, months_in, weeks_in}
use Rattle.date_math.proofs.Kept.{kept_is}
use Rattle.date_math.proofs.Places.{later_place, place_years, moved_proper, years_proper, place_moved_on, directed_times, split_at}
use Rattle.date_math.proofs.Places.{surpasses_by, beyond_is, surpasses_is}
use Rattle.date_math.proofs.Order.{valid_proper, later_day}
use Rattle.date_math.proofs.Rest.{rest_between, fold_years, distance_is}

-- ---- years and months

-- less than one year from the years that they are apart, either way
gap_bounds : (forward : Bool) (y z : ℤ) (m d n e gap : ℕ) → (1 ≤ m) × (m ≤ 12) → d ≤ 31 → (1 ≤ n) × (n ≤ 12) → e ≤ 31 →
    pos 384 *ℤ z +ℤ pos (32 * n + e) ≡ pos 384 *ℤ y +ℤ pos (32 * m + d) +ℤ directed forward gap →
    (384 * nat_abs (z -ℤ y) < gap + 384) × (gap < 384 * (nat_abs (z -ℤ y) + 1))
gap_bounds true y z m d n e gap a b c f h =
    let size = size_of (z -ℤ y) in
    let range = range_of (z -ℤ y) in
    let difference = read_add z (neg_ℤ y) in
    let back = read_neg y in
    let year = read_times 384 y in
    let other = read_times 384 z in
    let first = read_add (pos 384 *ℤ y) (pos (32 * m + d)) in
    let second = read_add (pos 384 *ℤ z) (pos (32 * n + e)) in
    let on = read_add (pos 384 *ℤ y +ℤ pos (32 * m + d)) (pos gap) in
    (omega (arith, ints), omega (arith, ints))
gap_bounds false y z m d n e gap a b c f h =
    let size = size_of (z -ℤ y) in
    let range = range_of (z -ℤ y) in
    let difference = read_add z (neg_ℤ y) in
    let back = read_neg y in
    let year = read_times 384 y in
    let other = read_times 384 z in
    let first = read_add (pos 384 *ℤ y) (pos (32 * m + d)) in
    let second = read_add (pos 384 *ℤ z) (pos (32 * n + e)) in
    let on = read_add (pos 384 *ℤ y +ℤ pos (32 * m + d)) (neg_ℤ (pos gap)) in
    let turned = read_neg (pos gap) in
    (omega (arith, ints), omega (arith, ints))

less_test : (a b c : ℕ) → b ≤ a → ltb a (b + c) ≡ ltb (a - b) c
less_test a b c h =
    alike (ltb a (b + c)) (ltb (a - b) c) (λ e. lt-ltb (a - b) c (omega (arith, ltb-true a (b + c) e)))
    (λ e. le-ltb (a - b) c (omega (arith, ltb-false a (b + c) e)))

module _ (forward : Bool) (one two : IsoDate) (v : is_valid_iso_date one ≡ true) (w : is_valid_iso_date two ≡ true) (gap : ℕ)
    (far : place_of two ≡ place_of one +ℤ directed forward gap) where
  pub years_near : (384 * years_apart one two < gap + 384) × (gap < 384 * (years_apart one two + 1))
  unfolding place_of
  years_near =
      let p = valid_proper one v in
      let q = valid_proper two w in
      gap_bounds forward one.year two.year one.month one.day two.month two.day gap (p.month_low, p.month_high) p.day_high
      (q.month_low, q.month_high) q.day_high far

  pub within_years : gap < 384 * (nat_abs (two.year -ℤ one.year) + 1)
  within_years = years_near.1

  pub years_pass : (k : ℕ) → iso_date_surpasses forward (in_years one (directed forward k)) two ≡ ltb gap (384 * k)
  years_pass k =
      surpasses_is forward one two (in_years one (directed forward k)) gap (384 * k) (valid_proper two w)
      (years_proper one (directed forward k) (valid_proper one v)) far
      (place_years one (directed forward k) ∙ ap (λ (z : ℤ). place_of one +ℤ z) (directed_times forward 384 k))

  pub months_pass : (y : ℕ) → 384 * y ≤ gap → (k : ℕ) →
      iso_date_surpasses forward (moved_by one (directed forward y) (directed forward k)) two ≡ ltb (gap - 384 * y) (32 * k)
  months_pass y h k =
      surpasses_is forward one two (moved_by one (directed forward y) (directed forward k)) gap (384 * y + 32 * k) (valid_proper two w)
      (moved_proper one (directed forward y) (directed forward k) (valid_proper one v).day_high) far (place_moved_on forward one y k) ∙
      less_test gap (384 * y) (32 * k) h

  pub years_are : years_until forward one two ≡ gap / 384
  unfolding years_until
  years_are =
      kept_is (λ k. iso_date_surpasses forward (in_years one (directed forward k)) two) 384 gap years_pass
      (nat_abs (two.year -ℤ one.year) + 1) within_years

  pub months_are : (y : ℕ) → 384 * y ≤ gap → months_until forward one two y ≡ (gap - 384 * y) / 32
  unfolding months_until
  months_are y h =
      kept_is (λ k. iso_date_surpasses forward (moved_by one (directed forward y) (directed forward k)) two) 32 (gap - 384 * y) (months_pass y h)
      (12 * (nat_abs (two.year -ℤ one.year) + 1)) (omega (arith, within_years))

  -- in the direction of the gap, if there is one
  pub sign_is : 0 < gap → (is_later two one ≡ forward) × (is_later one two ≡ not forward)
  sign_is h =
      let p = valid_proper one v in
      let q = valid_proper two w in
      let s = go forward (place_of one) (place_of two) far in
      (later_place two one q p ∙ s.0, later_place one two p q ∙ s.1)
    where
      go : (f : Bool) (a b : ℤ) → b ≡ a +ℤ directed f gap → (lt_z a b ≡ f) × (lt_z b a ≡ not f)
      go true a b e = (omega (arith, ints, read_add a (pos gap)), omega (arith, ints, read_add a (pos gap)))
      go false a b e = (
        omega (arith, ints, read_neg (pos gap), read_add a (neg_ℤ (pos gap))),
        omega (arith, ints, read_neg (pos gap), read_add a (neg_ℤ (pos gap))),
      )

  pub no_sign : gap ≡ 0 → (is_later two one ≡ false) × (is_later one two ≡ false)
  no_sign h =
      let p = valid_proper one v in
      let q = valid_proper two w in
      let s = go forward (place_of one) (place_of two) far in
      (later_place two one q p ∙ s.0, later_place one two p q ∙ s.1)
    where
      go : (f : Bool) (a b : ℤ) → b ≡ a +ℤ directed f gap → (lt_z a b ≡ false) × (lt_z b a ≡ false)
      go true a b e = (omega (arith, ints, read_add a (pos gap)), omega (arith, ints, read_add a (pos gap)))
      go false a b e = (
        omega (arith, ints, read_neg (pos gap), read_add a (neg_ℤ (pos gap))),
        omega (arith, ints, read_neg (pos gap), read_add a (neg_ℤ (pos gap))),
      )

  -- one of two things, by the direction, or a third where there is none
  pub chosen : {A : Type 0} (g : Bool → A) (z : A) → cond (is_later two one) (g true) (cond (is_later one two) (g false) z) ≡ cond (ltb 0 gap) (g forward) z
  chosen g z = go (ltb 0 gap) refl
    where
      some : {A : Type 0} (g : Bool → A) (z : A) (f : Bool) → is_later two one ≡ f → is_later one two ≡ not f →
          cond (is_later two one) (g true) (cond (is_later one two) (g false) z) ≡ g f
      some g z true e h = rw e
      some g z false e h = rw (e, h)

      go : (t : Bool) → ltb 0 gap ≡ t → cond (is_later two one) (g true) (cond (is_later one two) (g false) z) ≡ cond t (g forward) z
      go true e = let s = sign_is (ltb-true 0 gap e) in some g z forward s.0 s.1
      go false e = let s = no_sign (omega (arith, ltb-false 0 gap e)) in rw (s.0, s.1)

-- ---- what is found under a unit

pub years_within : (unit : TemporalUnit) (gap : ℕ) → 384 * years_in unit gap ≤ gap
unfolding years_in
years_within unit gap = go (counts_years unit)
  where
    go : (t : Bool) → 384 * cond t (gap / 384) 0 ≤ gap
    go true = omega arith
    go false = omega arith

pub months_within : (unit : TemporalUnit) (gap : ℕ) → 384 * years_in unit gap + 32 * months_in unit gap ≤ gap
unfolding months_in
months_within unit gap = go (years_in unit gap) (years_within unit gap) (counts_months unit)
  where
    go : (y : ℕ) → 384 * y ≤ gap → (t : Bool) → 384 * y + 32 * cond t ((gap - 384 * y) / 32) 0 ≤ gap
    go y h true = omega arith
    go y h false = omega arith

pub weeks_within : (unit : TemporalUnit) (rest : ℕ) → 7 * weeks_in unit rest ≤ rest
unfolding weeks_in
weeks_within unit rest = go (counts_weeks unit)
  where
    go : (t : Bool) → 7 * cond t (rest / 7) 0 ≤ rest
    go true = omega arith
    go false = omega arith

-- ---- days

days_surpass : (forward : Bool) (start two : IsoDate) (rest n : ℕ) → is_valid_iso_date two ≡ true →
    epoch_days two ≡ epoch_days start +ℤ directed forward rest →
    iso_date_surpasses forward (add_days_to_iso_date start (directed forward n)) two ≡ ltb rest n
days_surpass forward start two rest n w far =
    let k : ℤ = epoch_days start +ℤ directed forward n in
    let t : IsoDate = epoch_days_to_iso_date k in
    surpasses_by forward epoch_days t two (later_day t two (back_valid k) w) (later_day two t w (back_valid k)) ∙
    beyond_is forward (epoch_days start) (epoch_days two) (epoch_days t) rest n far (back_and_there k)

days_are : (forward : Bool) (step : ℕ) (start two : IsoDate) (rest : ℕ) → 0 < step → is_valid_iso_date two ≡ true →
    epoch_days two ≡ epoch_days start +ℤ directed forward rest → days_until forward step start two ≡ rest / step
unfolding days_until
days_are forward step start two rest h w far =
    kept_is (λ k. iso_date_surpasses forward (add_days_to_iso_date start (directed forward (step * k))) two) step rest
    (λ k. days_surpass forward start two rest (step * k) w far)
    (nat_abs (epoch_days two -ℤ epoch_days start) + 1)
    (enough (nat_abs (epoch_days two -ℤ epoch_days start)) (distance_is forward (epoch_days start) (epoch_days two) rest far) step h)
  where
    enough : (n : ℕ) → n ≡ rest → (step : ℕ) → 0 < step → rest < step * (n + 1)
    enough n e step h = omega (arith, mul-le-mul_right (n + 1) h)

-- ---- the whole

-- with a gap of places between the dates and a rest of days
abbrev pub closed : Bool → TemporalUnit → ℕ → ℕ → DateDuration
closed forward unit gap rest =
    duration (directed forward (years_in unit gap)) (directed forward (months_in unit gap)) (directed forward (weeks_in unit rest))
    (directed forward (rest - 7 * weeks_in unit rest))

module _ (forward : Bool) (one two : IsoDate) (unit : TemporalUnit) (v : is_valid_iso_date one ≡ true) (w : is_valid_iso_date two ≡ true)
    (gap rest : ℕ) (far : place_of two ≡ place_of one +ℤ directed forward gap)
    (left : epoch_days two ≡ epoch_days (rest_start forward one (years_in unit gap) (months_in unit gap)) +ℤ directed forward rest) where
  years_found_lem : years_found forward one two unit ≡ years_in unit gap
  unfolding years_found years_in
  years_found_lem = ap (λ (n : ℕ). cond (counts_years unit) n 0) (years_are forward one two v w gap far)

  months_found_lem : months_found forward one two unit ≡ months_in unit gap
  unfolding months_found months_in
  months_found_lem =
      rw years_found_lem
      (ap (λ (n : ℕ). cond (counts_months unit) n 0) (months_are forward one two v w gap far (years_in unit gap) (years_within unit gap)))

  weeks_found_lem : weeks_found forward one two unit (rest_start forward one (years_in unit gap) (months_in unit gap)) ≡ weeks_in unit rest
  unfolding weeks_found weeks_in
  weeks_found_lem =
      ap (λ (n : ℕ). cond (counts_weeks unit) n 0)
      (days_are forward 7 (rest_start forward one (years_in unit gap) (months_in unit gap)) two rest (omega arith) w left)

  days_found : days_until forward 1 (add_days_to_iso_date (rest_start forward one (years_in unit gap) (months_in unit gap))
      (directed forward (7 * weeks_in unit rest))) two ≡
      rest - 7 * weeks_in unit rest
  days_found =
      let start : IsoDate = rest_start forward one (years_in unit gap) (months_in unit gap) in
      let k : ℤ = epoch_days start +ℤ directed forward (7 * weeks_in unit rest) in
      days_are forward 1 (epoch_days_to_iso_date k) two (rest - 7 * weeks_in unit rest) (omega arith) w
      (rw (back_and_there k) (left ∙ split_at forward (epoch_days start) (7 * weeks_in unit rest) rest (weeks_within unit rest))) ∙
      by_one (rest - 7 * weeks_in unit rest)
    where
      by_one : (n : ℕ) → n / 1 ≡ n
      by_one n = omega arith

  until_is : date_until forward one two unit ≡ closed forward unit gap rest
  unfolding date_until
  until_is = rw (years_found_lem, months_found_lem, weeks_found_lem, days_found)

  nothing_left : gap ≡ 0 → rest ≡ 0
  nothing_left h =
      let b = rest_between forward one two v w gap (years_in unit gap) (months_in unit gap) far (months_within unit gap) in
      let none = no_sign forward one two v w gap far h in
      go forward (epoch_days one) (epoch_days (rest_start forward one (years_in unit gap) (months_in unit gap))) (epoch_days two) b.0 b.1
      (sym (later_day two one w v) ∙ none.0) (sym (later_day one two v w) ∙ none.1) left
    where
      go : (f : Bool) (a s b : ℤ) → Ahead f a s → Ahead f s b → lt_z a b ≡ false → lt_z b a ≡ false → b ≡ s +ℤ directed f rest → rest ≡ 0
      go true a s b k l m n e = omega (arith, ints, read_add s (pos rest))
      go false a s b k l m n e = omega (arith, ints, read_neg (pos rest), read_add s (neg_ℤ (pos rest)))

  pub difference_is : calendar_date_until one two unit ≡ closed forward unit gap rest
  unfolding calendar_date_until
  difference_is = chosen forward one two v w gap far (λ f. date_until f one two unit) (duration (pos 0) (pos 0) (pos 0) (pos 0)) ∙ go (ltb 0 gap) refl
    where
      zeros : (f : Bool) (y m w d : ℕ) → y ≡ 0 → m ≡ 0 → w ≡ 0 → d ≡ 0 →
          duration (pos 0) (pos 0) (pos 0) (pos 0) ≡ duration (directed f y) (directed f m) (directed f w) (directed f d)
      zeros true y m w d a b c e = rw (a, b, c, e)
      zeros false y m w d a b c e = rw (a, b, c, e)

      go : (t : Bool) → ltb 0 gap ≡ t → cond t (date_until forward one two unit) (duration (pos 0) (pos 0) (pos 0) (pos 0)) ≡ closed forward unit gap rest
      go true e = until_is
      go false e =
          let z : gap ≡ 0 = omega (arith, ltb-false 0 gap e) in
          let n = nothing_left z in
          zeros forward (years_in unit gap) (months_in unit gap) (weeks_in unit rest) (rest - 7 * weeks_in unit rest)
          (omega (arith, months_within unit gap)) (omega (arith, months_within unit gap)) (omega (arith, weeks_within unit rest)) (omega arith)

-- ---- from the naturals of the code

pub far_of : (a b B : ℕ) (p q : ℤ) → p ≡ a ⊖ B → q ≡ b ⊖ B → q ≡ p +ℤ directed (leb a b) (apart a b)
far_of a b B p q e f = go (leb a b) refl
  where
    go : (t : Bool) → leb a b ≡ t → q ≡ p +ℤ directed (leb a b) (apart a b)
    go true h = let l = leb-true a b h in rw (h, e, f) (simp whole (omega arith))
    go false h = let l = leb-false a b h in rw (h, e, f) (simp whole (omega arith))

left_of : (forward : Bool) (s t B : ℕ) (p q : ℤ) → p ≡ s ⊖ B → q ≡ t ⊖ B → Ahead forward p q → q ≡ p +ℤ directed forward (apart s t)
left_of true s t B p q e f h =
    let l : s ≤ t = omega (arith, simp whole at (rw (e, f) at h)) in
    rw (e, f) (simp whole (omega arith))
left_of false s t B p q e f h =
    let l : t ≤ s = omega (arith, simp whole at (rw (e, f) at h)) in
    rw (e, f) (simp whole (omega arith))

module _ (one two : IsoDate) (unit : TemporalUnit) (v : is_valid_iso_date one ≡ true) (w : is_valid_iso_date two ≡ true)
    (a b y m s t rest k : ℕ) (from : place_of one ≡ a ⊖ place_bias) (to : place_of two ≡ b ⊖ place_bias)
    (years : y ≡ years_in unit (apart a b)) (months : m ≡ months_in unit (apart a b))
    (start : epoch_days (rest_start (leb a b) one 0 (12 * y + m)) ≡ s ⊖ day_bias) (end : epoch_days two ≡ t ⊖ day_bias)
    (days : rest ≡ apart s t) (weeks : k ≡ weeks_in unit rest) where
  pub put_together : duration (directed (leb a b) y) (directed (leb a b) m) (directed (leb a b) k) (directed (leb a b) (rest - 7 * k)) ≡
      calendar_date_until one two unit
  put_together =
      let far = far_of a b place_bias (place_of one) (place_of two) from to in
      let lies = rest_between (leb a b) one two v w (apart a b) (years_in unit (apart a b)) (months_in unit (apart a b)) far (months_within unit (apart a b)) in
      let begins = rw (fold_years (leb a b) one (years_in unit (apart a b)) (months_in unit (apart a b))) at (rw (years, months) at start) in
      rw (years, months, weeks, days)
      (sym (difference_is (leb a b) one two unit v w (apart a b) (apart s t) far
      (left_of (leb a b) s t day_bias (epoch_days (rest_start (leb a b) one (years_in unit (apart a b)) (months_in unit (apart a b)))) (epoch_days two)
      begins end lies.1)))
