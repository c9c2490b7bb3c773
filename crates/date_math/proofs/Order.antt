-- The order of valid dates, by year, then month, then day, is that of their day numbers.
use Prim.Native.Nat.{ℕ, ◌+◌, ◌-◌, ◌*◌, ◌≤◌, ◌<◌}
use native.Mathlib.Omega.{arith}
use mathlib.Core.Path.{◌≡◌, refl, sym, subst}
use mathlib.Core.Bool.{Bool, true, false, cond, ◌&&◌, ◌||◌}
use borrow.Author.Tests.{ltb-true, ltb-false, leb-true, leb-false}
use lib.Dec.{T, ltb, leb, leb→le}
use lib.ListN.{get_or}
use lib.IntN.{ℤ, pos, ◌+ℤ◌}
use lib.Signed.{lt_z, le_z, ◌≤ℤ◌, ◌<ℤ◌}
use Rattle.whole.specs.Whole.{◌⊖◌}
use Rattle.whole.proofs.Laws.{ints, whole, up, dn, read_add}
use Rattle.whole.proofs.Every.{every, every_at, every_le}
use Rattle.iso_date.specs.Proposal.{date, day_from_year, leap_year, month_lengths, iso_days_in_month, days_before_month, epoch_days, is_valid_iso_date}
use Rattle.iso_date.specs.Inner.{year_start}
use Rattle.iso_date.specs.declared.IsoDate.{IsoDate}
use Rattle.iso_date.proofs.Dates.{Valid, read_valid, day_in_year, in_year}
use Rattle.iso_date.proofs.Years.{with_bias, biased_year, start_mono, year_length}
use Rattle.date_math.specs.Proposal.{is_later}
use Rattle.date_math.proofs.Places.{Proper}

-- ---- years

pub year_mono : (x y : ℤ) → x ≤ℤ y → day_from_year x ≤ℤ day_from_year y
year_mono x y h =
    go (dn x + dn y) (up x + (400 * (dn x + dn y) - dn x)) (up y + (400 * (dn x + dn y) - dn y))
    (with_bias x (400 * (dn x + dn y)) (omega arith)) (with_bias y (400 * (dn x + dn y)) (omega arith)) (omega (arith, ints))
  where
    go : (k u v : ℕ) → x ≡ u ⊖ (400 * k) → y ≡ v ⊖ (400 * k) → u ≤ v → day_from_year x ≤ℤ day_from_year y
    go k u v e f l =
        let s : u + (v - u) ≡ v = omega arith in
        let m : year_start u ≤ year_start v = rw s at (start_mono u (v - u)) in
        rw (e, f) (rw (biased_year u k, biased_year v k) (simp whole (omega arith)))

-- ---- months of a year

abbrev over : Bool → ℕ → ℕ → Bool
over leap j i = leb (days_before_month leap i + get_or (month_lengths leap) i 0) (days_before_month leap j)

every_over : (leap : Bool) → T (every (λ j. every (over leap j) j) 12)
unfolding month_lengths days_before_month
every_over true = tt
every_over false = tt

-- a month is over when a later one begins
month_over : (leap : Bool) (i j : ℕ) → i < j → j < 12 → days_before_month leap i + get_or (month_lengths leap) i 0 ≤ days_before_month leap j
month_over leap i j h k =
    leb→le (days_before_month leap i + get_or (month_lengths leap) i 0) (days_before_month leap j)
    (every_at (over leap j) j (every_at (λ (n : ℕ). every (over leap n) n) 12 (every_over leap) j k) i h)

length_most : (leap : Bool) (i : ℕ) → i < 12 → get_or (month_lengths leap) i 0 ≤ 31
unfolding month_lengths
length_most true = every_le (λ i. get_or (month_lengths true) i 0) (λ i. 31) 12 tt
length_most false = every_le (λ i. get_or (month_lengths false) i 0) (λ i. 31) 12 tt

pub valid_proper : (d : IsoDate) → is_valid_iso_date d ≡ true → Proper d
unfolding iso_days_in_month
valid_proper d e =
    let v = read_valid d.year d.month d.day e in
    record {
      month_low = v.month_low;
      month_high = v.month_high;
      day_high = omega (arith, v.day_high, length_most (leap_year d.year) (d.month - 1) (omega (arith, v.month_low, v.month_high)));
    }

-- ---- three ways to be later

years_apart_lem : (y z : ℤ) (m d n e : ℕ) → Valid y m d → Valid z n e → z <ℤ y → epoch_days (date z n e) <ℤ epoch_days (date y m d)
years_apart_lem y z m d n e v w h =
    let i : ℕ = days_before_month (leap_year y) (m - 1) + (d - 1) in
    let j : ℕ = days_before_month (leap_year z) (n - 1) + (e - 1) in
    let k : ℕ = cond (leap_year z) 366 365 in
    let a : (z +ℤ pos 1) ≤ℤ y = omega (arith, ints, read_add z (pos 1)) in
    let b : (day_from_year z +ℤ pos k) ≤ℤ day_from_year y = rw (year_length z) at (year_mono (z +ℤ pos 1) y a) in
    let c : j < k = in_year z n e w in
    rw (day_in_year y m d v.month_low v.month_high v.day_low, day_in_year z n e w.month_low w.month_high w.day_low)
    (go (day_from_year z) (day_from_year y) i j k b c)
  where
    go : (x y : ℤ) (i j k : ℕ) → (x +ℤ pos k) ≤ℤ y → j < k → (x +ℤ pos j) <ℤ (y +ℤ pos i)
    go x y i j k h l = omega (arith, ints, read_add x (pos k), read_add x (pos j), read_add y (pos i))

in_one_year : (x : ℤ) (i j : ℕ) → i < j → (x +ℤ pos i) <ℤ (x +ℤ pos j)
in_one_year x i j h = omega (arith, ints, read_add x (pos i), read_add x (pos j))

months_apart : (y : ℤ) (m d n e : ℕ) → Valid y m d → Valid y n e → n < m → epoch_days (date y n e) <ℤ epoch_days (date y m d)
unfolding iso_days_in_month
months_apart y m d n e v w h =
    let o = month_over (leap_year y) (n - 1) (m - 1) (omega (arith, w.month_low)) (omega (arith, v.month_low, v.month_high)) in
    rw (day_in_year y m d v.month_low v.month_high v.day_low, day_in_year y n e w.month_low w.month_high w.day_low)
    (in_one_year (day_from_year y) (days_before_month (leap_year y) (n - 1) + (e - 1)) (days_before_month (leap_year y) (m - 1) + (d - 1))
    (omega (arith, o, w.day_high, w.day_low)))

days_apart : (y : ℤ) (m d e : ℕ) → Valid y m d → Valid y m e → e < d → epoch_days (date y m e) <ℤ epoch_days (date y m d)
days_apart y m d e v w h =
    rw (day_in_year y m d v.month_low v.month_high v.day_low, day_in_year y m e w.month_low w.month_high w.day_low)
    (in_one_year (day_from_year y) (days_before_month (leap_year y) (m - 1) + (e - 1)) (days_before_month (leap_year y) (m - 1) + (d - 1))
    (omega (arith, v.day_low, w.day_low)))

yes : (a b : ℤ) → a <ℤ b → lt_z a b ≡ true
yes a b h = omega (arith, ints)

no : (a b : ℤ) → b <ℤ a → lt_z a b ≡ false
no a b h = omega (arith, ints)

never : (a : ℤ) → lt_z a a ≡ false
never a = omega (arith, ints)

same_month : (y : ℤ) (m d e : ℕ) → Valid y m d → Valid y m e → ltb e d ≡ lt_z (epoch_days (date y m e)) (epoch_days (date y m d))
same_month y m d e v w = go (ltb e d) refl (ltb d e) refl
  where
    go : (p : Bool) → ltb e d ≡ p → (q : Bool) → ltb d e ≡ q → ltb e d ≡ lt_z (epoch_days (date y m e)) (epoch_days (date y m d))
    go true p q _ = rw p (sym (yes _ _ (days_apart y m d e v w (ltb-true e d p))))
    go false p true q = rw p (sym (no _ _ (days_apart y m e d w v (ltb-true d e q))))
    go false p false q =
        let f : e ≡ d = omega (arith, ltb-false e d p, ltb-false d e q) in
        rw p (rw f (sym (never (epoch_days (date y m d)))))

same_year : (y : ℤ) (m d n e : ℕ) → Valid y m d → Valid y n e →
    (ltb n m || (leb n m && ltb e d)) ≡ lt_z (epoch_days (date y n e)) (epoch_days (date y m d))
same_year y m d n e v w = go (ltb n m) refl (leb n m) refl
  where
    go : (p : Bool) → ltb n m ≡ p → (q : Bool) → leb n m ≡ q →
        (ltb n m || (leb n m && ltb e d)) ≡ lt_z (epoch_days (date y n e)) (epoch_days (date y m d))
    go true p q _ = rw p (sym (yes _ _ (months_apart y m d n e v w (ltb-true n m p))))
    go false p false q = rw (p, q) (sym (no _ _ (months_apart y n e m d w v (leb-false n m q))))
    go false p true q =
        let f : m ≡ n = omega (arith, ltb-false n m p, leb-true n m q) in
        rw (p, q)
        (subst (λ (k : ℕ). Valid y k e → ltb e d ≡ lt_z (epoch_days (date y k e)) (epoch_days (date y m d))) f (same_month y m d e v) w)

any_years : (y z : ℤ) (m d n e : ℕ) → Valid y m d → Valid z n e →
    (lt_z z y || (le_z z y && (ltb n m || (leb n m && ltb e d)))) ≡ lt_z (epoch_days (date z n e)) (epoch_days (date y m d))
any_years y z m d n e v w = go (lt_z z y) refl (le_z z y) refl
  where
    go : (p : Bool) → lt_z z y ≡ p → (q : Bool) → le_z z y ≡ q →
        (lt_z z y || (le_z z y && (ltb n m || (leb n m && ltb e d)))) ≡ lt_z (epoch_days (date z n e)) (epoch_days (date y m d))
    go true p q _ = rw p (sym (yes _ _ (years_apart_lem y z m d n e v w (omega (arith, ints)))))
    go false p false q = rw (p, q) (sym (no _ _ (years_apart_lem z y n e m d w v (omega (arith, ints)))))
    go false p true q =
        let f : y ≡ z = omega (arith, ints) in
        rw (p, q)
        (subst (λ (x : ℤ). Valid x n e → (ltb n m || (leb n m && ltb e d)) ≡ lt_z (epoch_days (date x n e)) (epoch_days (date y m d))) f (same_year y m d n e v) w)

pub later_day : (a b : IsoDate) → is_valid_iso_date a ≡ true → is_valid_iso_date b ≡ true → is_later a b ≡ lt_z (epoch_days b) (epoch_days a)
unfolding is_later
later_day a b v w =
    any_years a.year b.year a.month a.day b.month b.day (read_valid a.year a.month a.day v)
    (read_valid b.year b.month b.day w)
