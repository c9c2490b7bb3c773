-- Months of a year: the month and the day that `month_of` and `day_of` find, for any list of lengths, and that they are the only ones.
use Prim.Native.Nat.{ℕ, zero, suc, ◌+◌, ◌-◌, ◌/◌, ◌≤◌, ◌<◌}
use native.Mathlib.Omega.{arith}
use native.Mathlib.Numerals.{add-one}
use mathlib.Core.Path.{◌≡◌, refl, sym, ap}
use mathlib.Core.Bool.{Bool, true, false, cond}
use mathlib.Core.List.{List, [], ◌∷◌}
use borrow.Author.Tests.{lt-ltb, le-ltb, ltb-true, ltb-false}
use lib.Dec.{ltb}
use lib.ListN.{length, get_or, take}
use Rattle.iso_date.specs.Proposal.{month_lengths, sum, days_before_month, month_of, day_of}
use Rattle.iso_date.specs.Inner.{MonthHolds}
use Rattle.iso_date.proofs.Tables.{begins, ends, length_is, length_below}

-- what is found for day n: a month within the list, a day within the month, and together they make n
pub record Found (lengths : List ℕ) (n m d : ℕ) : Type 0 where
  pub month_low : 1 ≤ m
  pub month_high : m ≤ length lengths
  pub day_low : 1 ≤ d
  pub day_high : d ≤ get_or lengths (m - 1) 0
  pub adds_up : sum (take (m - 1) lengths) + d ≡ suc n

later : (l : ℕ) (ls : List ℕ) (n m d : ℕ) → l ≤ n → Found ls (n - l) m d → Found (l ∷ ls) n (suc m) d
later l ls n zero d h f = let z : ⊥ = omega (arith, f.month_low) in absurd z
later l ls n (suc m) d h f =
    let e : suc m - 1 ≡ m = omega arith in
    let g : suc (suc m) - 1 ≡ suc m = omega arith in
    record {
      month_low = omega arith;
      month_high = omega (arith, f.month_high);
      day_low = f.day_low;
      day_high = rw g (rw e at f.day_high);
      adds_up = rw g (omega (arith, rw e at f.adds_up));
    }

pub found : (ls : List ℕ) (n : ℕ) → n < sum ls → Found ls n (month_of ls n) (day_of ls n)
unfolding month_of day_of
found [] n h = let z : ⊥ = omega arith in absurd z
found (l ∷ ls) n h = go (ltb n l) refl (found ls (n - l))
  where
    go : (t : Bool) → ltb n l ≡ t → (n - l < sum ls → Found ls (n - l) (month_of ls (n - l)) (day_of ls (n - l))) →
        Found (l ∷ ls) n (month_of (l ∷ ls) n) (day_of (l ∷ ls) n)
    go true e ih =
        rw e
        (record {
          month_low = omega arith;
          month_high = omega arith;
          day_low = omega arith;
          day_high = omega (arith, ltb-true);
          adds_up = omega arith;
        })
    go false e ih = rw e (later l ls n _ _ (ltb-false n l e) (ih (omega (arith, ltb-false))))

-- month i, counted from 0, and a day within it are found again
pub found_back : (ls : List ℕ) (i d : ℕ) → i < length ls → 1 ≤ d → d ≤ get_or ls i 0 →
    (month_of ls (sum (take i ls) + (d - 1)) ≡ suc i) × (day_of ls (sum (take i ls) + (d - 1)) ≡ d)
unfolding month_of day_of
found_back [] i d h a b = let z : ⊥ = omega arith in absurd z
found_back (l ∷ ls) zero d h a b =
    let t : ltb (0 + (d - 1)) l ≡ true = lt-ltb (0 + (d - 1)) l (omega arith) in rw t (refl, omega arith)
found_back (l ∷ ls) (suc i) d h a b =
    let n : ℕ = sum (take i ls) + (d - 1) in
    let t : ltb (l + sum (take i ls) + (d - 1)) l ≡ false = le-ltb (l + sum (take i ls) + (d - 1)) l (omega arith) in
    let e : l + sum (take i ls) + (d - 1) - l ≡ n = omega arith in
    let ih = found_back ls i d (omega arith) a b in
    rw (t, e) (ap suc ih.0, ih.1)

-- ---- the twelve months

pub year_sum : (leap : Bool) → sum (month_lengths leap) ≡ cond leap 366 365
unfolding month_lengths
year_sum true = refl
year_sum false = refl

pub twelve : (leap : Bool) → length (month_lengths leap) ≡ 12
unfolding month_lengths
twelve leap = refl

-- the days before a month and those of the month stay within the year
within_sum : (ls : List ℕ) (i : ℕ) → i < length ls → sum (take i ls) + get_or ls i 0 ≤ sum ls
within_sum [] i h = let z : ⊥ = omega arith in absurd z
within_sum (l ∷ ls) zero h = omega arith
within_sum (l ∷ ls) (suc i) h = omega (arith, within_sum ls i (omega arith))

pub month_within : (leap : Bool) (i : ℕ) → i < 12 →
    days_before_month leap i + get_or (month_lengths leap) i 0 ≤ cond leap 366 365
unfolding days_before_month
month_within leap i h =
    rw (sym (year_sum leap)) (within_sum (month_lengths leap) i (omega (arith, twelve leap)))

-- ---- the month that the code picks: n / 31, or the one after it

sum_step : (ls : List ℕ) (i : ℕ) → i < length ls → sum (take (suc i) ls) ≡ sum (take i ls) + get_or ls i 0
sum_step [] i h = let z : ⊥ = omega arith in absurd z
sum_step (l ∷ ls) zero h = omega arith
sum_step (l ∷ ls) (suc i) h = omega (arith, sum_step ls i (omega arith))

pub before_step : (leap : Bool) (i : ℕ) → i < 12 → days_before_month leap (i + 1) ≡ days_before_month leap i + get_or (month_lengths leap) i 0
unfolding days_before_month
before_step leap i h = rw (add-one i) (sum_step (month_lengths leap) i (omega (arith, twelve leap)))

pub last_month : (leap : Bool) → days_before_month leap 11 + get_or (month_lengths leap) 11 0 ≡ cond leap 366 365
unfolding days_before_month month_lengths
last_month true = refl
last_month false = refl

year_most : (leap : Bool) → cond leap 366 365 ≤ 366
year_most true = omega arith
year_most false = omega arith

module _ (leap : Bool) (n : ℕ) (h : n < cond leap 366 365) where
  pub picked_next : n / 31 < 11 → days_before_month leap (n / 31 + 1) ≤ n → MonthHolds leap n (n / 31 + 1)
  picked_next a b =
      record { begun = b; not_over = omega (arith, ends leap (n / 31 + 1) (omega arith)); small = omega arith }

  pub picked : n / 31 < 11 → n < days_before_month leap (n / 31 + 1) → MonthHolds leap n (n / 31)
  picked a b =
      record {
        begun = omega (arith, begins leap (n / 31) (omega arith));
        not_over = omega (arith, before_step leap (n / 31) (omega arith));
        small = omega arith;
      }

  pub picked_last : 11 ≤ n / 31 → MonthHolds leap n (n / 31)
  picked_last a =
      let e : n / 31 ≡ 11 = omega (arith, year_most leap) in
      rw e
      (record {
        begun = omega (arith, begins leap 11 (omega arith));
        not_over = omega (arith, last_month leap);
        small = omega arith;
      })

-- the date that a month and the days before it give is the one of `month_of` and `day_of`
pub month_found : (leap : Bool) (n i : ℕ) → MonthHolds leap n i →
    (month_of (month_lengths leap) n ≡ i + 1) × (day_of (month_lengths leap) n ≡ n - days_before_month leap i + 1)
unfolding days_before_month
month_found leap n i h =
    let d : ℕ = n - days_before_month leap i + 1 in
    let e : days_before_month leap i + (d - 1) ≡ n = omega (arith, h.begun) in
    let back = found_back (month_lengths leap) i d (omega (arith, h.small, twelve leap)) (omega arith) (omega (arith, h.begun, h.not_over)) in
    (rw e at (rw (← add-one i) at back.0), rw e at back.1)

pub month_day_small : (leap : Bool) (n i : ℕ) → MonthHolds leap n i → n - days_before_month leap i + 1 ≤ 31
month_day_small leap n i h =
    omega (arith, h.begun, h.not_over, length_is leap i h.small, length_below leap i h.small)
