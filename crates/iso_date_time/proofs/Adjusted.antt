-- The adjustment of a difference: the day that moves where date and time pull opposite ways, days as seconds, and differences in days.
use Prim.Native.Nat.{ℕ, ◌+◌, ◌-◌, ◌*◌, ◌/◌, ◌%◌, ◌≤◌, ◌<◌}
use native.Mathlib.Omega.{arith}
use mathlib.Core.Path.{◌≡◌, refl, sym, ◌∙◌, ap}
use mathlib.Core.Bool.{Bool, true, false, cond}
use mathlib.Core.Logic.{◌⊎◌, ⊎_elim}
use borrow.Author.Tests.{ltb-true, ltb-false, lt-ltb, le-ltb, le-leb}
use lib.Dec.{ltb}
use lib.IntN.{ℤ, pos, neg_ℤ, nat_abs, ◌+ℤ◌, ◌-ℤ◌, ◌*ℤ◌}
use lib.Signed.{lt_z}
use Rattle.options.specs.Units.{ns_per_day}
use Rattle.whole.specs.Whole.{◌⊖◌}
use Rattle.whole.proofs.Laws.{split, up, dn, ints, read_add, read_neg, read_times, read_diff, fdiv_unique}
use Rattle.whole.proofs.Tests.{alike, and_false}
use Rattle.iso_date.specs.Proposal.{date, epoch_days, is_valid_iso_date, constrain_iso_date}
use Rattle.iso_date.specs.declared.IsoDate.{IsoDate}
use Rattle.iso_date.proofs.Dates.{read_valid}
use Rattle.iso_time.specs.Proposal.{nanoseconds, in_seconds}
use Rattle.iso_time.proofs.Checks.{duration as span, cut_below}
use Rattle.date_duration.specs.Proposal.{duration}
use Rattle.options.specs.declared.Unit.TheVariants as U
use Rattle.date_math.specs.Proposal.{directed, is_later, moved_by, rest_start, calendar_date_until}
use Rattle.date_math.specs.Inner.{place_of, years_in, months_in, weeks_in}
use Rattle.date_math.proofs.Order.{later_day}
use Rattle.date_math.proofs.Rest.{constrained_is, rest_between, distance_of}
use Rattle.date_math.proofs.Until.{difference_is}
use Rattle.date_math.proofs.Theorems.{in_some_direction}
use Rattle.iso_date_time.specs.Proposal.{opposed, sign_of, moved_days}
use Rattle.iso_date_time.specs.Inner.{adjusted_days, Adjusts}
use Rattle.iso_date_time.specs.declared.IsoDateTime.{IsoDateTime}

-- ---- days and nanoseconds as seconds

-- cut towards zero, both parts have the direction
cut : (forward : Bool) (n : ℕ) → in_seconds (directed forward n) ≡ span (directed forward (n / 1000000000)) (directed forward (n % 1000000000))
cut true n = refl
cut false n = cut_below n

pub in_seconds_is : (forward : Bool) (days ns : ℕ) (s n : ℤ) → s ≡ directed forward (86400 * days + ns / 1000000000) →
    n ≡ directed forward (ns % 1000000000) → span s n ≡ in_seconds (directed forward (ns_per_day * days + ns))
in_seconds_is forward days ns s n e f =
    let q : (ns_per_day * days + ns) / 1000000000 ≡ 86400 * days + ns / 1000000000 = omega arith in
    let r : (ns_per_day * days + ns) % 1000000000 ≡ ns % 1000000000 = omega arith in
    rw (e, f) (sym (rw (q, r) at (cut forward (ns_per_day * days + ns))))

-- ---- the day that moves

-- z is the span of the times, c the sign of the dates
abbrev moves : ℤ → ℤ → ℤ
moves z c = cond (opposed z c) (sign_of z) (pos 0)

back : (z : ℤ) → lt_z z (pos 0) ≡ true → moves z (pos 1) ≡ neg_ℤ (pos 1)
back z e = rw e

forth : (z : ℤ) → lt_z z (pos 0) ≡ false → lt_z (pos 0) z ≡ true → moves z (neg_ℤ (pos 1)) ≡ pos 1
forth z e f = rw (e, f)

stays_ahead : (z : ℤ) → lt_z z (pos 0) ≡ false → moves z (pos 1) ≡ pos 0
stays_ahead z e = rw (e, and_false (lt_z (pos 0) z))

stays_behind : (z : ℤ) → lt_z (pos 0) z ≡ false → moves z (neg_ℤ (pos 1)) ≡ pos 0
stays_behind z e = rw (e, and_false (lt_z z (pos 0)))

stays : (z : ℤ) → moves z (pos 0) ≡ pos 0
stays z = rw (and_false (lt_z z (pos 0)), and_false (lt_z (pos 0) z))

module _ (p a q b : ℕ) where
  abbrev moved : ℤ
  moved = adjusted_days (pos p) (pos a) (pos q) (pos b)

  abbrev passed : ℤ
  passed = pos b -ℤ pos a

  read_passed : up passed + a ≡ dn passed + b
  read_passed = omega (arith, read_add (pos b) (neg_ℤ (pos a)), read_neg (pos a))

  moved_down : p < q → b < a → moved ≡ neg_ℤ (pos 1)
  unfolding adjusted_days
  moved_down h k = rw (lt-ltb p q h) (back passed (omega (arith, ints, read_passed)))

  moved_up : q < p → a < b → moved ≡ pos 1
  unfolding adjusted_days
  moved_up h k =
      rw (le-ltb p q (omega arith), lt-ltb q p h)
      (forth passed (omega (arith, ints, read_passed)) (omega (arith, ints, read_passed)))

  kept_ahead : p < q → a ≤ b → moved ≡ pos 0
  unfolding adjusted_days
  kept_ahead h k = rw (lt-ltb p q h) (stays_ahead passed (omega (arith, ints, read_passed)))

  kept_behind : q < p → b ≤ a → moved ≡ pos 0
  unfolding adjusted_days
  kept_behind h k =
      rw (le-ltb p q (omega arith), lt-ltb q p h) (stays_behind passed (omega (arith, ints, read_passed)))

  kept_here : q ≤ p → p ≤ q → moved ≡ pos 0
  unfolding adjusted_days
  kept_here h k = rw (le-ltb p q h, le-ltb q p k) (stays passed)

  -- ---- what is left, t the days that move

  abbrev left : ℤ → ℤ
  left t = passed -ℤ pos ns_per_day *ℤ t

  read_left : (t : ℤ) → up (left t) + a + ns_per_day * up t ≡ dn (left t) + b + ns_per_day * dn t
  read_left t =
      omega (arith, read_passed, read_times ns_per_day t, read_neg (pos ns_per_day *ℤ t), read_add passed (neg_ℤ (pos ns_per_day *ℤ t)))

  day_before : (t : ℤ) → t ≡ neg_ℤ (pos 1) → p < q → pos (q - 1) ≡ pos q +ℤ t
  day_before t e h = omega (arith, ints, read_add (pos q) t)

  day_after : (t : ℤ) → t ≡ pos 1 → pos (q + 1) ≡ pos q +ℤ t
  day_after t e = omega (arith, ints, read_add (pos q) t)

  same_day : (t : ℤ) → t ≡ pos 0 → pos q ≡ pos q +ℤ t
  same_day t e = omega (arith, ints, read_add (pos q) t)

  left_down : (t : ℤ) → t ≡ neg_ℤ (pos 1) → a < ns_per_day → pos (b + ns_per_day - a) ≡ left t
  left_down t e h = omega (arith, ints, read_left t)

  left_up : (t : ℤ) → t ≡ pos 1 → b < ns_per_day → neg_ℤ (pos (a + ns_per_day - b)) ≡ left t
  left_up t e h = omega (arith, ints, read_left t, read_neg (pos (a + ns_per_day - b)))

  left_ahead : (t : ℤ) → t ≡ pos 0 → a ≤ b → pos (b - a) ≡ left t
  left_ahead t e h = omega (arith, ints, read_left t)

  left_behind : (t : ℤ) → t ≡ pos 0 → b ≤ a → neg_ℤ (pos (a - b)) ≡ left t
  left_behind t e h = omega (arith, ints, read_left t, read_neg (pos (a - b)))

  -- ---- the two directions: k days are borrowed, and n nanoseconds are then left

  pub adjusted_ahead : (k n : ℕ) → p ≤ q → (b < a → p < q) → a < ns_per_day → k ≡ cond (ltb b a) 1 0 → n + a ≡ b + ns_per_day * k → n < ns_per_day →
      Adjusts p a q b (q - k) true n
  adjusted_ahead k n h i x e f l = go (ltb b a) refl (split p q)
    where
      go : (t : Bool) → ltb b a ≡ t → (p < q) ⊎ (q ≤ p) → Adjusts p a q b (q - k) true n
      go true g s =
          let j : p < q = i (ltb-true b a g) in
          let o : k ≡ 1 = rw g at e in
          let m = moved_down j (ltb-true b a g) in
          let w : n ≡ b + ns_per_day - a = omega arith in
          rw (o, w)
          (record {
            day_is = day_before moved m j;
            left_is = left_down moved m (omega arith);
            between = rw (le-leb p (q - 1) (omega arith), le-leb (q - 1) q (omega arith));
            small = omega arith;
          })
      go false g s =
          let c : a ≤ b = ltb-false b a g in
          let o : k ≡ 0 = rw g at e in
          let m : moved ≡ pos 0 = ⊎_elim (λ j. kept_ahead j c) (λ j. kept_here j h) s in
          let w : n ≡ b - a = omega arith in
          let z : q - k ≡ q = omega arith in
          rw (z, w)
          (record {
            day_is = same_day moved m;
            left_is = left_ahead moved m c;
            between = rw (le-leb p q h, le-leb q q (omega arith));
            small = omega arith;
          })

  pub adjusted_behind : (k n : ℕ) → q ≤ p → (a < b → q < p) → b < ns_per_day → k ≡ cond (ltb a b) 1 0 → n + b ≡ a + ns_per_day * k → n < ns_per_day →
      Adjusts p a q b (q + k) false n
  adjusted_behind k n h i x e f l = go (ltb a b) refl (split q p)
    where
      go : (t : Bool) → ltb a b ≡ t → (q < p) ⊎ (p ≤ q) → Adjusts p a q b (q + k) false n
      go true g s =
          let j : q < p = i (ltb-true a b g) in
          let o : k ≡ 1 = rw g at e in
          let m = moved_up j (ltb-true a b g) in
          let w : n ≡ a + ns_per_day - b = omega arith in
          rw (o, w)
          (record {
            day_is = day_after moved m;
            left_is = left_up moved m (omega arith);
            between = rw (le-leb q (q + 1) (omega arith), le-leb (q + 1) p (omega arith));
            small = omega arith;
          })
      go false g s =
          let c : b ≤ a = ltb-false a b g in
          let o : k ≡ 0 = rw g at e in
          let m : moved ≡ pos 0 = ⊎_elim (λ j. kept_behind j c) (λ j. kept_here h j) s in
          let w : n ≡ a - b = omega arith in
          let z : q + k ≡ q = omega arith in
          rw (z, w)
          (record {
            day_is = same_day moved m;
            left_is = left_behind moved m c;
            between = rw (le-leb q q (omega arith), le-leb q p h);
            small = omega arith;
          })

-- ---- the same over records

same_order : (x y : ℤ) (p q B : ℕ) → x ≡ p ⊖ B → y ≡ q ⊖ B → lt_z x y ≡ ltb p q
same_order x y p q B e f =
    let a = read_diff p B in
    let b = read_diff q B in
    sym (alike (ltb p q) (lt_z x y) (λ h. omega (arith, ints, ltb-true p q h)) (λ h. omega (arith, ints, ltb-false p q h)))

pub moved_days_is : (one two : IsoDateTime) (p q B : ℕ) → is_valid_iso_date one.date ≡ true → is_valid_iso_date two.date ≡ true →
    epoch_days one.date ≡ p ⊖ B → epoch_days two.date ≡ q ⊖ B →
    moved_days one two ≡ adjusted_days (pos p) (pos (nanoseconds one.time)) (pos q) (pos (nanoseconds two.time))
unfolding moved_days adjusted_days
moved_days_is one two p q B v w e f =
    let g : is_later two.date one.date ≡ ltb p q =
    later_day two.date one.date w v ∙ same_order (epoch_days one.date) (epoch_days two.date) p q B e f in
    let h : is_later one.date two.date ≡ ltb q p =
    later_day one.date two.date v w ∙ same_order (epoch_days two.date) (epoch_days one.date) q p B f e in
    rw (g, h)

-- ---- the difference in days

-- moved by nothing, a valid date stays
not_moved : (d : IsoDate) → is_valid_iso_date d ≡ true → moved_by d (pos 0) (pos 0) ≡ d
unfolding moved_by
not_moved d v =
    let r = read_valid d.year d.month d.day v in
    let x : ℤ = pos d.month +ℤ pos 0 -ℤ pos 1 in
    let f = fdiv_unique x (pos 0) 12 (d.month - 1) (omega (arith, r.month_high))
    (omega (arith, ints, r.month_low, read_add (pos d.month +ℤ pos 0) (neg_ℤ (pos 1)))) in
    let g : d.year +ℤ pos 0 +ℤ pos 0 ≡ d.year = omega (arith, ints, read_add d.year (pos 0), read_add (d.year +ℤ pos 0) (pos 0)) in
    let m : d.month - 1 + 1 ≡ d.month = omega (arith, r.month_low) in
    rw (f.0, f.1, g, m)

start_here : (forward : Bool) (d : IsoDate) → is_valid_iso_date d ≡ true → rest_start forward d 0 0 ≡ d
unfolding rest_start
start_here forward d v = go forward
  where
    stays_valid : constrain_iso_date d ≡ d
    stays_valid =
        let r = read_valid d.year d.month d.day v in
        constrained_is d.year d.month d.day r.month_low r.month_high r.day_low ∙ ap (date d.year d.month) (omega (arith, r.day_high))

    go : (f : Bool) → constrain_iso_date (moved_by d (directed f 0) (directed f 0)) ≡ d
    go true = ap constrain_iso_date (not_moved d v) ∙ stays_valid
    go false = ap constrain_iso_date (not_moved d v) ∙ stays_valid

pub day_difference : (a b : IsoDate) → is_valid_iso_date a ≡ true → is_valid_iso_date b ≡ true →
    calendar_date_until a b U.Day ≡ duration (pos 0) (pos 0) (pos 0) (epoch_days b -ℤ epoch_days a)
unfolding years_in months_in weeks_in
day_difference a b v w = in_some_direction a b go
  where
    rest : ℕ
    rest = nat_abs (epoch_days b -ℤ epoch_days a)

    days : (f : Bool) (x y : ℤ) (n : ℕ) → y ≡ x +ℤ directed f n →
        duration (directed f 0) (directed f 0) (directed f 0) (directed f (n - 7 * 0)) ≡ duration (pos 0) (pos 0) (pos 0) (y -ℤ x)
    days true x y n e = ap (duration (pos 0) (pos 0) (pos 0)) (omega (arith, ints, read_add x (pos n), read_neg x, read_add y (neg_ℤ x)))
    days false x y n e =
        ap (duration (pos 0) (pos 0) (pos 0)) (omega (
          arith,
          ints,
          read_neg (pos n),
          read_neg (pos (n - 7 * 0)),
          read_add x (neg_ℤ (pos n)),
          read_neg x,
          read_add y (neg_ℤ x),
        ))

    go : (forward : Bool) (gap : ℕ) → place_of b ≡ place_of a +ℤ directed forward gap →
        calendar_date_until a b U.Day ≡ duration (pos 0) (pos 0) (pos 0) (epoch_days b -ℤ epoch_days a)
    go forward gap far =
        let s = start_here forward a v in
        let h = rw s at (rest_between forward a b v w gap 0 0 far (omega arith)).1 in
        let d = distance_of forward (epoch_days a) (epoch_days b) h in
        difference_is forward a b U.Day v w gap rest far (rw s d) ∙ days forward (epoch_days a) (epoch_days b) rest d
