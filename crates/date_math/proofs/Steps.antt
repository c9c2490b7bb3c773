-- What the steps of the code do to naturals at their biases, over plain variables: the proofs of `inner` cite these.
use Prim.Native.Nat.{ℕ, min, max, ◌+◌, ◌-◌, ◌*◌, ◌/◌, ◌%◌, ◌^◌, ◌≤◌, ◌<◌}
use native.Mathlib.Omega.{arith}
use mathlib.Core.Path.{◌≡◌, refl, sym, ◌∙◌, ap}
use mathlib.Core.Bool.{Bool, true, false}
use lib.ListN.{get_or}
use lib.IntN.{ℤ, pos, neg_ℤ, nat_abs, ◌+ℤ◌, ◌-ℤ◌, ◌*ℤ◌}
use mir.Syntax.{w32, w64}
use mir.Val.{SFits, to_z, of_z}
use mir.Facts.{to_z-of_z, sfits_widen}
use Rattle.whole.specs.Whole.{◌⊖◌, clamp_z}
use Rattle.whole.proofs.Laws.{ints, whole, read_add, read_diff, read_times, size_of, range_of, fdiv_unique}
use Rattle.iso_date.specs.Proposal.{date, epoch_days, month_lengths, leap_year, day_from_month, constrain_iso_date}
use Rattle.iso_date.specs.Inner.{year_bias, month_bias, day_bias, Balances}
use Rattle.iso_date.proofs.Answers.{length_of_month, constrained_is, day_of_date}
use Rattle.iso_date.proofs.Dates.{read_valid}
use Rattle.date_math.specs.Proposal.{moved_by, directed, rest_start}
use Rattle.date_math.specs.Paper.{clamped_year}
use Rattle.date_math.specs.Inner.{place_of, place_bias}
use Rattle.date_math.proofs.Places.{directed_none}

-- ---- a count with its sign

pub reached_on : (forward : Bool) (from months : ℕ) → forward ≡ true → (from + months) ⊖ 0 ≡ (from ⊖ 0) +ℤ directed forward months
reached_on forward from months e = rw e (simp whole (omega arith))

pub reached_back : (forward : Bool) (from months : ℕ) → forward ≡ false → months ≤ from →
    (from - months) ⊖ 0 ≡ (from ⊖ 0) +ℤ directed forward months
reached_back forward from months e h = rw e (simp whole (omega arith))

-- ---- places

pub place_is : (y : ℤ) (u m d : ℕ) → y ≡ u ⊖ year_bias → place_of (date y m d) ≡ (384 * u + 32 * m + d) ⊖ place_bias
unfolding place_of
place_is y u m d e =
    omega (arith, ints, read_times 384 y, read_diff u year_bias, read_add (pos 384 *ℤ y) (pos (32 * m + d)), read_diff (384 * u + 32 * m + d) place_bias)

-- ---- a date moved by years and months

pub year_small : (y years : ℤ) → SFits w32 y → nat_abs years < 2 ^ 32 → nat_abs (y +ℤ years) < 7000000000
year_small y years f h =
    omega (arith, ints, read_add y years, size_of years, size_of (y +ℤ years), range_of (y +ℤ years), f.sfits, range_of y)

pub month_small : (m : ℕ) (months : ℤ) → m < 256 → nat_abs months < 2 ^ 32 → nat_abs (pos m +ℤ months) < 4300000000
month_small m months l h = omega (arith, ints, read_add (pos m) months, size_of months, size_of (pos m +ℤ months), range_of (pos m +ℤ months))

pub small_fits : (z : ℤ) → nat_abs z < 2 ^ 62 → SFits w64 z
small_fits z h = omega (arith, ints, size_of z, range_of z)

-- their sums, as the machine gives them back
sum_back : (x y n : ℤ) → x ≡ y → SFits w64 y → SFits w64 n → nat_abs (y +ℤ n) < 2 ^ 62 →
    to_z w64 (of_z w64 (to_z w64 (of_z w64 x) +ℤ to_z w64 (of_z w64 n))) ≡ y +ℤ n
sum_back x y n e f g h = rw (e, to_z-of_z f, to_z-of_z g) (to_z-of_z (small_fits (y +ℤ n) h))

pub year_back : (x y years : ℤ) → x ≡ y → SFits w32 y → SFits w64 years → nat_abs years < 2 ^ 32 →
    to_z w64 (of_z w64 (to_z w64 (of_z w64 x) +ℤ to_z w64 (of_z w64 years))) ≡ y +ℤ years
year_back x y years e f g h = sum_back x y years e (sfits_widen tt f) g (omega (arith, year_small y years f h))

pub month_back : (x : ℤ) (m : ℕ) (months : ℤ) → x ≡ pos m → m < 256 → SFits w64 months → nat_abs months < 2 ^ 32 →
    to_z w64 (of_z w64 (to_z w64 (of_z w64 x) +ℤ to_z w64 (of_z w64 months))) ≡ pos m +ℤ months
month_back x m months e l g h =
    sum_back x (pos m) months e (small_fits (pos m) (omega (arith, ints, size_of (pos m)))) g (omega (arith, month_small m months l h))

pub moved_is : (y years months z : ℤ) (m d u t year index : ℕ) → y +ℤ years ≡ u ⊖ year_bias → pos m +ℤ months ≡ t ⊖ month_bias →
    Balances u t year index → z ≡ clamp_z (year ⊖ year_bias) (neg_ℤ (pos (2 ^ 31))) (pos (2 ^ 31 - 1)) →
    date z (index + 1) d ≡ clamped_year (moved_by (date y m d) years months)
unfolding moved_by
moved_is y years months z m d u t year index e f b i = rw (i, b.year_is, b.month_is, e, f)

-- ---- the start of the rest

-- k counts the months from month 0 of year 0 at the bias, so that year and month are its quotient and remainder by 12
moved_months : (y s t : ℤ) (m i d u k : ℕ) → i + 1 ≡ m → y ≡ u ⊖ year_bias → s ≡ pos 0 → k ⊖ 0 ≡ ((12 * u + i) ⊖ 0) +ℤ t →
    moved_by (date y m d) s t ≡ date ((k / 12) ⊖ year_bias) (k % 12 + 1) d
unfolding moved_by
moved_months y s t m i d u k h e f g =
    let x : ℤ = pos m +ℤ t -ℤ pos 1 in
    let q : ℤ = (k / 12) ⊖ u in
    let n = fdiv_unique x q 12 (k % 12) (omega arith)
    (omega (
      arith,
      ints,
      read_diff k 0,
      read_diff (12 * u + i) 0,
      read_add ((12 * u + i) ⊖ 0) t,
      read_add (pos m) t,
      read_add (pos m +ℤ t) (neg_ℤ (pos 1)),
      read_diff (k / 12) u,
      read_times 12 q,
      read_add (pos 12 *ℤ q) (pos (k % 12)),
    )) in
    let z : y +ℤ s +ℤ q ≡ (k / 12) ⊖ year_bias =
    omega (arith, ints, read_diff u year_bias, read_add y s, read_diff (k / 12) u, read_add (y +ℤ s) q, read_diff (k / 12) year_bias) in
    rw (n.0, n.1, z)

pub rest_start_is : (forward : Bool) (y : ℤ) (m i d u k months n most s : ℕ) → i + 1 ≡ m → y ≡ u ⊖ year_bias →
    k ⊖ 0 ≡ ((12 * u + i) ⊖ 0) +ℤ directed forward months → most ≡ get_or (month_lengths (leap_year ((k / 12) ⊖ year_bias))) (k % 12) 0 →
    n ⊖ day_bias ≡ day_from_month ((k / 12) ⊖ year_bias) (k % 12) → s ≡ max 1 (min d most) →
    epoch_days (rest_start forward (date y m d) 0 months) ≡ (n + s - 1) ⊖ day_bias
unfolding rest_start
rest_start_is forward y m i d u k months n most s h e f g j l =
    let z : ℤ = (k / 12) ⊖ year_bias in
    let r : ℕ = k % 12 + 1 in
    let o = length_of_month z (k / 12) r (k % 12) most refl refl (omega arith) (omega arith) g in
    let c = constrained_is z r d r most s (omega arith) o.0 l in
    let b : r - 1 ≡ k % 12 = omega arith in
    ap epoch_days (ap constrain_iso_date (moved_months y (directed forward 0) (directed forward months) m i d u k h e (directed_none forward) f) ∙ sym c.0) ∙
    day_of_date z r s (k / 12) n (read_valid z r s c.1) refl (rw b j)

-- so many months lie before the months of an i32's years
pub many_before : (y : ℤ) (u : ℕ) → SFits w32 y → y ≡ u ⊖ year_bias → (5800000000 ≤ u) × (u < 11000000000)
many_before y u f e = omega (arith, ints, f.sfits, range_of y, read_diff u year_bias)
