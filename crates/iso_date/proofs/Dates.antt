-- Dates and day numbers: each valid date has a day number and each day number one valid date, for every whole number.
use Prim.Native.Nat.{ℕ, suc, ◌+◌, ◌-◌, ◌≤◌, ◌<◌}
use native.Mathlib.Omega.{arith}
use mathlib.Core.Path.{◌≡◌, sym, ◌∙◌, ap, ap₂}
use mathlib.Core.Bool.{true, cond, ◌&&◌}
use borrow.Author.Tests.{leb-true, le-leb}
use lib.Dec.{leb}
use lib.IntN.{ℤ, pos, neg_ℤ, nat_abs, ◌+ℤ◌, ◌-ℤ◌}
use lib.Signed.{◌≤ℤ◌, ◌<ℤ◌}
use Rattle.whole.specs.Whole.{◌⊖◌, fdiv, fmod}
use Rattle.whole.proofs.Laws.{parts, whole, ints, read_add, read_neg, range_of, less_one}
use Rattle.whole.proofs.Edges.{nat_of}
use Rattle.whole.proofs.Tests.{both}
use Rattle.iso_date.specs.Proposal.{date, day_from_year, leap_year, month_lengths, iso_days_in_month, days_before_month, day_from_month}
use Rattle.iso_date.specs.Proposal.{iso_date_to_epoch_days, epoch_days, year_from_day, month_of, day_of, date_in, epoch_days_to_iso_date}
use Rattle.iso_date.specs.Proposal.{is_valid_iso_date}
use Rattle.iso_date.specs.declared.IsoDate.{IsoDate}
use Rattle.iso_date.specs.Inner.{year_bias, day_bias, year_start, YearHolds, MonthHolds}
use Rattle.iso_date.proofs.Months.{Found, found, found_back, year_sum, twelve, month_within, month_found}
use Rattle.iso_date.proofs.Years.{Holds, year_holds, year_unique, year_length, day_biased, in_biased_year}

-- ---- a valid date

pub record Valid (y : ℤ) (m d : ℕ) : Type 0 where
  pub month_low : 1 ≤ m
  pub month_high : m ≤ 12
  pub day_low : 1 ≤ d
  pub day_high : d ≤ iso_days_in_month y m

pub read_valid : (y : ℤ) (m d : ℕ) → is_valid_iso_date (date y m d) ≡ true → Valid y m d
unfolding is_valid_iso_date
read_valid y m d e =
    let f = both (leb 1 m && leb m 12) (leb 1 d && leb d (iso_days_in_month y m)) e in
    let a = both (leb 1 m) (leb m 12) f.0 in
    let b = both (leb 1 d) (leb d (iso_days_in_month y m)) f.1 in
    record {
      month_low = leb-true 1 m a.0;
      month_high = leb-true m 12 a.1;
      day_low = leb-true 1 d b.0;
      day_high = leb-true d (iso_days_in_month y m) b.1;
    }

pub show_valid : (y : ℤ) (m d : ℕ) → Valid y m d → is_valid_iso_date (date y m d) ≡ true
unfolding is_valid_iso_date
show_valid y m d v =
    simp (le-leb 1 m v.month_low, le-leb m 12 v.month_high, le-leb 1 d v.day_low, le-leb d (iso_days_in_month y m) v.day_high)

-- what the fields of a valid date are at least and at most
module _ (d : IsoDate) (v : is_valid_iso_date d ≡ true) where
  pub month_low : 1 ≤ d.month
  month_low = (read_valid d.year d.month d.day v).month_low

  pub month_high : d.month ≤ 12
  month_high = (read_valid d.year d.month d.day v).month_high

  pub day_low : 1 ≤ d.day
  day_low = (read_valid d.year d.month d.day v).day_low

-- ---- its day number

pub plain_month : (y : ℤ) (m : ℕ) (d : ℤ) → 1 ≤ m → m ≤ 12 →
    iso_date_to_epoch_days y (pos m -ℤ pos 1) d ≡ day_from_month y (m - 1) +ℤ d -ℤ pos 1
unfolding iso_date_to_epoch_days
plain_month y m d a b =
    let e : pos m -ℤ pos 1 ≡ pos (m - 1) = less_one m a in
    let f : fdiv (pos (m - 1)) 12 ≡ pos 0 = simp whole (omega arith) in
    let g : fmod (pos (m - 1)) 12 ≡ m - 1 = simp whole (omega arith) in
    let h : y +ℤ pos 0 ≡ y = omega (arith, ints, read_add y (pos 0)) in
    rw (e, f, g, h)

-- day i of year y, counted from 0
pub day_in_year : (y : ℤ) (m d : ℕ) → 1 ≤ m → m ≤ 12 → 1 ≤ d →
    epoch_days (date y m d) ≡ day_from_year y +ℤ pos (days_before_month (leap_year y) (m - 1) + (d - 1))
unfolding day_from_month
day_in_year y m d a b c =
    plain_month y m (pos d) a b ∙ go (day_from_year y) (days_before_month (leap_year y) (m - 1))
  where
    go : (z : ℤ) (k : ℕ) → z +ℤ pos k +ℤ pos d -ℤ pos 1 ≡ z +ℤ pos (k + (d - 1))
    go z k = rw (parts z) (simp whole (omega arith))

month_index : (m : ℕ) → 1 ≤ m → m ≤ 12 → m - 1 < 12
month_index m a b = omega arith

-- the day of the year of a valid date is one of the year's
pub in_year : (y : ℤ) (m d : ℕ) → Valid y m d → days_before_month (leap_year y) (m - 1) + (d - 1) < cond (leap_year y) 366 365
unfolding iso_days_in_month
in_year y m d v =
    omega (arith, v.day_low, v.day_high, month_within (leap_year y) (m - 1) (month_index m v.month_low v.month_high))

-- day i of year y lies in year y
pub holds_day : (y : ℤ) (i : ℕ) → i < cond (leap_year y) 366 365 → Holds y (day_from_year y +ℤ pos i)
holds_day y i h =
    record {
      begun = omega (arith, ints, read_add (day_from_year y) (pos i));
      not_over = rw (year_length y) (omega (arith, ints, read_add (day_from_year y) (pos i), read_add (day_from_year y) (pos (cond (leap_year y) 366 365))));
    }

-- and its date is the one that the year and the day of the year give
pub date_of_day : (y : ℤ) (i : ℕ) → i < cond (leap_year y) 366 365 → epoch_days_to_iso_date (day_from_year y +ℤ pos i) ≡ date_in y i
unfolding epoch_days_to_iso_date
date_of_day y i h =
    let n : ℤ = day_from_year y +ℤ pos i in
    let e : year_from_day n ≡ y = year_unique (year_from_day n) y n (year_holds n) (holds_day y i h) in
    rw e (ap (date_in y) (take_back (day_from_year y) i))
  where
    take_back : (z : ℤ) (i : ℕ) → nat_abs (z +ℤ pos i -ℤ z) ≡ i
    take_back z i = rw (parts z) (simp whole (omega arith))

-- ---- the two conversions are inverse, both ways

pub there_and_back : (y : ℤ) (m d : ℕ) → Valid y m d → epoch_days_to_iso_date (epoch_days (date y m d)) ≡ date y m d
unfolding iso_days_in_month days_before_month
there_and_back y m d v =
    let back = found_back (month_lengths (leap_year y)) (m - 1) d (rw (twelve (leap_year y)) (month_index m v.month_low v.month_high)) v.day_low
    v.day_high in
    let e : suc (m - 1) ≡ m = omega (arith, v.month_low) in
    ap epoch_days_to_iso_date (day_in_year y m d v.month_low v.month_high v.day_low) ∙
    date_of_day y _ (in_year y m d v) ∙
    ap₂ (date y) (back.0 ∙ e) back.1

-- a day number has one valid date
pub one_date : (y z : ℤ) (m n d e : ℕ) → Valid y m d → Valid z n e →
    epoch_days (date y m d) ≡ epoch_days (date z n e) → date y m d ≡ date z n e
one_date y z m n d e v w same =
    sym (there_and_back y m d v) ∙ ap epoch_days_to_iso_date same ∙ there_and_back z n e w

-- every day is a day of its year
pub distance : (n z : ℤ) → z ≤ℤ n → (n ≡ z +ℤ pos (nat_abs (n -ℤ z))) × ((k : ℕ) → n <ℤ (z +ℤ pos k) → nat_abs (n -ℤ z) < k)
distance n z h =
    let low : pos 0 ≤ℤ (n -ℤ z) = omega (arith, ints, read_add n (neg_ℤ z), read_neg z) in (
      omega (arith, ints, read_add n (neg_ℤ z), read_neg z, nat_of (n -ℤ z) low, range_of (n -ℤ z), read_add z (pos (nat_abs (n -ℤ z)))),
      (λ k l. omega (arith, ints, read_add n (neg_ℤ z), read_neg z, nat_of (n -ℤ z) low, range_of (n -ℤ z), read_add z (pos k))),
    )

module _ (n : ℤ) where
  abbrev year : ℤ
  year = year_from_day n

  abbrev day_of_year : ℕ
  day_of_year = nat_abs (n -ℤ day_from_year year)

  day_of_year_lem : n ≡ day_from_year year +ℤ pos day_of_year
  day_of_year_lem = (distance n (day_from_year year) (year_holds n).begun).0

  within_year : day_of_year < cond (leap_year year) 366 365
  within_year = (distance n (day_from_year year) (year_holds n).begun).1 _ (rw (year_length year) at (year_holds n).not_over)

  month_and_day : Found (month_lengths (leap_year year)) day_of_year (month_of (month_lengths (leap_year year)) day_of_year)
      (day_of (month_lengths (leap_year year)) day_of_year)
  month_and_day = found (month_lengths (leap_year year)) day_of_year (rw (year_sum (leap_year year)) within_year)

  found_valid : Valid year (month_of (month_lengths (leap_year year)) day_of_year) (day_of (month_lengths (leap_year year)) day_of_year)
  unfolding iso_days_in_month
  found_valid =
      let f = month_and_day in
      record {
        month_low = f.month_low;
        month_high = rw (twelve (leap_year year)) at f.month_high;
        day_low = f.day_low;
        day_high = f.day_high;
      }

  pub back_valid : is_valid_iso_date (epoch_days_to_iso_date n) ≡ true
  unfolding epoch_days_to_iso_date
  back_valid = show_valid year _ _ found_valid

  pub back_and_there : epoch_days (epoch_days_to_iso_date n) ≡ n
  unfolding epoch_days_to_iso_date days_before_month
  back_and_there =
      let f = month_and_day in
      let v = found_valid in
      let m : ℕ = month_of (month_lengths (leap_year year)) day_of_year in
      let d : ℕ = day_of (month_lengths (leap_year year)) day_of_year in
      let e : days_before_month (leap_year year) (m - 1) + (d - 1) ≡ day_of_year = omega (arith, f.adds_up, f.day_low) in
      day_in_year year m d v.month_low v.month_high v.day_low ∙
      ap (λ (i : ℕ). day_from_year year +ℤ pos i) e ∙ sym day_of_year_lem

-- ---- the date of a day, as the code puts it together at its bias

pub civil_is : (n u i : ℕ) (y : ℤ) → YearHolds n u → y ≡ u ⊖ year_bias → MonthHolds (leap_year (u ⊖ year_bias)) (n - year_start u) i →
    date y (i + 1) (n - year_start u - days_before_month (leap_year (u ⊖ year_bias)) i + 1) ≡ epoch_days_to_iso_date (n ⊖ day_bias)
civil_is n u i y h e f =
    let k : ℕ = n - year_start u in
    let s : year_start u + k ≡ n = omega (arith, h.begun) in
    let same : n ⊖ day_bias ≡ day_from_year (u ⊖ year_bias) +ℤ pos k = day_biased u k n s in
    let g = month_found (leap_year (u ⊖ year_bias)) k i f in
    rw (e, same)
    (sym (date_of_day (u ⊖ year_bias) k (in_biased_year n u h) ∙ ap₂ (date (u ⊖ year_bias)) g.0 g.1))
