-- Years as naturals: a year is u ⊖ 400 k, its first day is year_start u ⊖ (146097 k + 719528), and the year that holds a day is unique.
use Prim.Native.Nat.{ℕ, zero, suc, ◌+◌, ◌-◌, ◌*◌, ◌/◌, ◌%◌, ◌^◌, ◌≤◌, ◌<◌}
use native.Mathlib.Nat.{add-zero, div-add-mod, mod-lt}
use native.Mathlib.Omega.{arith}
use mathlib.Core.Path.{◌≡◌, refl, sym, ◌∙◌, ap}
use mathlib.Core.Bool.{Bool, true, false, cond, not, ◌&&◌, ◌||◌}
use mathlib.Core.Logic.{⊎_elim, ◌≢◌}
use lib.Dec.{eqb, leb}
use borrow.Author.Tests.{eqb-true, eqb-false, leb-true, leb-false, lt-leb, le-leb}
use lib.IntN.{ℤ, pos, ◌+ℤ◌, ◌-ℤ◌}
use lib.Signed.{le_z, ◌≤ℤ◌, ◌<ℤ◌}
use Rattle.whole.specs.Whole.{◌⊖◌}
use Rattle.whole.proofs.Laws.{up, dn, parts, split, whole, quotient, ⊖-same}
use Rattle.iso_date.specs.Proposal.{day_from_year, leap_year, mean_year, year_from_day, days_before_month, day_from_month}
use Rattle.iso_date.specs.Inner.{year_bias, day_bias, year_start, YearHolds}

-- ---- naturals

-- what is taken away in year_start is less than what stands before it
pub fewer : (u : ℕ) → (u + 99) / 100 ≤ 365 * u + (u + 3) / 4
fewer u = omega arith

-- a year of the mean length, 146,097 days in 400 years, from below and from above
pub start_low : (u : ℕ) → 146097 * u ≤ 400 * year_start u + 396
unfolding year_start
start_low u = omega (arith, fewer u)

pub start_high : (u : ℕ) → 400 * year_start u ≤ 146097 * u + 699
unfolding year_start
start_high u = omega (arith, fewer u)

abbrev pub leap_of : ℕ → Bool
leap_of u = eqb (u % 4) 0 && (not (eqb (u % 100) 0) || eqb (u % 400) 0)

-- ---- years

pub biased_year : (u k : ℕ) → day_from_year (u ⊖ (400 * k)) ≡ year_start u ⊖ (146097 * k + 719528)
unfolding day_from_year year_start
biased_year u k =
    let a : (400 * k + 1969) % 4 ≡ 1 = omega arith in
    let b : (400 * k + 1969) / 4 ≡ 100 * k + 492 = omega arith in
    let c : (400 * k + 1901) % 100 ≡ 1 = omega arith in
    let d : (400 * k + 1901) / 100 ≡ 4 * k + 19 = omega arith in
    let e : (400 * k + 1601) % 400 ≡ 1 = omega arith in
    let f : (400 * k + 1601) / 400 ≡ k + 4 = omega arith in
    simp (whole, a, b, c, d, e, f) (omega (arith, fewer u))

pub biased_leap : (u k : ℕ) → leap_year (u ⊖ (400 * k)) ≡ leap_of u
unfolding leap_year
biased_leap u k =
    let a : (u + (4 - (400 * k) % 4)) % 4 ≡ u % 4 = omega arith in
    let b : (u + (100 - (400 * k) % 100)) % 100 ≡ u % 100 = omega arith in
    let e : (u + (400 - (400 * k) % 400)) % 400 ≡ u % 400 = omega arith in
    simp (whole, a, b, e)

-- the same at the bias of the code, the test spelt as the code has it
pub leap_test : (u : ℕ) → leap_of u ≡ leap_year (u ⊖ year_bias)
leap_test u = sym (biased_leap u 20000000)

-- ---- the next year starts after the days of this one

-- ⌈u / d⌉ grows by one where d divides u
grow : (d u : ℕ) → 0 < d → (t : Bool) → eqb (u % d) 0 ≡ t → (u + 1 + (d - 1)) / d ≡ (u + (d - 1)) / d + cond t 1 0
grow d u p true e =
    let q : ℕ = u / d in
    let z : u % d ≡ 0 = eqb-true (u % d) 0 e in
    let f : (u + 1 + (d - 1)) / d ≡ q + 1 = (quotient d (u + 1 + (d - 1)) (q + 1) 0 p (omega (arith, div-add-mod u d))).0 in
    let g : (u + (d - 1)) / d ≡ q = (quotient d (u + (d - 1)) q (d - 1) (omega arith) (omega (arith, div-add-mod u d))).0 in
    omega arith
grow d u p false e =
    let q : ℕ = u / d in
    let z : u % d ≢ 0 = eqb-false (u % d) 0 e in
    let f : (u + 1 + (d - 1)) / d ≡ q + 1 = (quotient d (u + 1 + (d - 1)) (q + 1) (u % d) (mod-lt u p) (omega (arith, div-add-mod u d))).0 in
    let g : (u + (d - 1)) / d ≡ q + 1 =
    (quotient d (u + (d - 1)) (q + 1) (u % d - 1) (omega (arith, mod-lt u p)) (omega (arith, div-add-mod u d))).0 in
    omega arith

abbrev one_if : Bool → ℕ
one_if t = cond t 1 0

-- of the three tests, 400 implies 100 and 100 implies 4
leap_days : (u : ℕ) → cond (leap_of u) 366 365 + one_if (eqb (u % 100) 0) ≡ 365 + one_if (eqb (u % 4) 0) + one_if (eqb (u % 400) 0)
leap_days u = go (eqb (u % 4) 0) refl (eqb (u % 100) 0) refl (eqb (u % 400) 0) refl
  where
    go : (a : Bool) → eqb (u % 4) 0 ≡ a → (b : Bool) → eqb (u % 100) 0 ≡ b → (c : Bool) → eqb (u % 400) 0 ≡ c →
        cond (leap_of u) 366 365 + one_if (eqb (u % 100) 0) ≡ 365 + one_if (eqb (u % 4) 0) + one_if (eqb (u % 400) 0)
    go true e true f true g = simp (e, f, g)
    go true e true f false g = simp (e, f, g)
    go true e false f true g = let z : ⊥ = omega (arith, eqb-true (u % 400) 0 g, eqb-false (u % 100) 0 f) in absurd z
    go true e false f false g = simp (e, f, g)
    go false e true f c g = let z : ⊥ = omega (arith, eqb-true (u % 100) 0 f, eqb-false (u % 4) 0 e) in absurd z
    go false e false f true g = let z : ⊥ = omega (arith, eqb-true (u % 400) 0 g, eqb-false (u % 4) 0 e) in absurd z
    go false e false f false g = simp (e, f, g)

joined : (u a b c x y z days : ℕ) → b ≤ 365 * u + a → days + y ≡ 365 + x + z →
    b + y ≤ 365 * (u + 1) + (a + x) →
    365 * (u + 1) + (a + x) - (b + y) + (c + z) ≡ (365 * u + a - b + c) + days
joined u a b c x y z days h e k = omega arith

pub start_step : (u : ℕ) → year_start (u + 1) ≡ year_start u + cond (leap_of u) 366 365
unfolding year_start
start_step u =
    let a : (u + 1 + 3) / 4 ≡ (u + 3) / 4 + one_if (eqb (u % 4) 0) = grow 4 u (omega arith) (eqb (u % 4) 0) refl in
    let b : (u + 1 + 99) / 100 ≡ (u + 99) / 100 + one_if (eqb (u % 100) 0) = grow 100 u (omega arith) (eqb (u % 100) 0) refl in
    let c : (u + 1 + 399) / 400 ≡ (u + 399) / 400 + one_if (eqb (u % 400) 0) = grow 400 u (omega arith) (eqb (u % 400) 0) refl in
    rw (a, b, c)
    (joined u ((u + 3) / 4) ((u + 99) / 100) ((u + 399) / 400) _ _ _ (cond (leap_of u) 366 365) (fewer u) (leap_days u)
    (rw (a, b) at (fewer (u + 1))))

pub start_mono : (u k : ℕ) → year_start u ≤ year_start (u + k)
start_mono u zero = rw (add-zero u) (omega arith)
start_mono u (suc k) =
    let e : u + suc k ≡ u + k + 1 = omega arith in
    rw e (rw (start_step (u + k)) (omega (arith, start_mono u k)))

-- one year alone holds a day
pub one_year : (u v n : ℕ) → year_start u ≤ n → n < year_start (u + 1) → year_start v ≤ n → n < year_start (v + 1) → u ≡ v
one_year u v n a b c d =
    ⊎_elim
    (λ h. let z : ⊥ = go u v h b c in absurd z)
    (λ h. ⊎_elim (λ k. let z : ⊥ = go v u k d a in absurd z) (λ k. omega arith) (split v u))
    (split u v)
  where
    go : (u v : ℕ) → u < v → n < year_start (u + 1) → year_start v ≤ n → ⊥
    go u v h b c =
        let e : u + 1 + (v - (u + 1)) ≡ v = omega arith in
        let m : year_start (u + 1) ≤ year_start v = rw e at (start_mono (u + 1) (v - (u + 1))) in
        omega arith

-- ---- the year that holds a day, for every whole number

-- year y holds day n
pub record Holds (y n : ℤ) : Type 0 where
  pub begun : day_from_year y ≤ℤ n
  pub not_over : n <ℤ day_from_year (y +ℤ pos 1)

-- with a common bias: y is u ⊖ 400 k and n is t ⊖ (146097 k + 719528)
module _ (k u t : ℕ) where
  next_year : (u ⊖ (400 * k)) +ℤ pos 1 ≡ (u + 1) ⊖ (400 * k)
  next_year = simp whole (omega arith)

  pub holds_biased : year_start u ≤ t → t < year_start (u + 1) → Holds (u ⊖ (400 * k)) (t ⊖ (146097 * k + 719528))
  holds_biased a b =
      record {
        begun = rw (biased_year u k) (simp whole (omega arith));
        not_over = rw next_year (rw (biased_year (u + 1) k) (simp whole (omega arith)));
      }

  pub biased_holds : Holds (u ⊖ (400 * k)) (t ⊖ (146097 * k + 719528)) → (year_start u ≤ t) × (t < year_start (u + 1))
  biased_holds h = (
    omega (arith, simp whole at (rw (biased_year u k) at h.begun)),
    omega (arith, simp whole at (rw (biased_year (u + 1) k) at (rw next_year at h.not_over))),
  )

-- any number is written with any bias that is large enough
pub with_bias : (z : ℤ) (b : ℕ) → dn z ≤ b → z ≡ (up z + (b - dn z)) ⊖ b
with_bias z b h = parts z ∙ ⊖-same (up z) (dn z) (up z + (b - dn z)) b (omega arith)

pub year_unique : (y z n : ℤ) → Holds y n → Holds z n → y ≡ z
year_unique y z n h g =
    go (dn y + dn z + dn n) (up y + (400 * (dn y + dn z + dn n) - dn y)) (up z + (400 * (dn y + dn z + dn n) - dn z))
    (up n + (146097 * (dn y + dn z + dn n) + 719528 - dn n))
    (with_bias y (400 * (dn y + dn z + dn n)) (omega arith))
    (with_bias z (400 * (dn y + dn z + dn n)) (omega arith))
    (with_bias n (146097 * (dn y + dn z + dn n) + 719528) (omega arith))
  where
    go : (k u v t : ℕ) → y ≡ u ⊖ (400 * k) → z ≡ v ⊖ (400 * k) → n ≡ t ⊖ (146097 * k + 719528) → y ≡ z
    go k u v t e f d =
        let a = biased_holds k u t (rw (e, d) at h) in
        let b = biased_holds k v t (rw (f, d) at g) in
        e ∙ ap (λ (x : ℕ). x ⊖ (400 * k)) (one_year u v t a.0 a.1 b.0 b.1) ∙ sym f

same_test : (a t b : ℕ) → leb (a + b) (t + b) ≡ leb a t
same_test a t b =
    ⊎_elim
    (λ h. lt-leb (a + b) (t + b) (omega arith) ∙ sym (lt-leb a t h))
    (λ h. le-leb (a + b) (t + b) (omega arith) ∙ sym (le-leb a t h))
    (split t a)

-- the mean year of a day, e, is at most one year off
module _ (k t e : ℕ) (low : 146097 ≤ t) (is : e ≡ (400 * t - 110) / 146097) where
  mean_biased : mean_year (t ⊖ (146097 * k + 719528)) ≡ e ⊖ (400 * k)
  mean_biased = simp whole (omega (arith, is))

  -- the three candidates, as naturals
  near : (398 ≤ e) × ((146097 * e + 110 ≤ 400 * t) × (400 * t < 146097 * e + 146207))
  near = omega (arith, is)

  test : (c : ℕ) (z : ℤ) → z ≡ c ⊖ (400 * k) → le_z (day_from_year z) (t ⊖ (146097 * k + 719528)) ≡ leb (year_start c) t
  test c z f = rw f (rw (biased_year c k) (simp whole (same_test (year_start c) t (146097 * k + 719528))))

  up_one : mean_year (t ⊖ (146097 * k + 719528)) +ℤ pos 1 ≡ (e + 1) ⊖ (400 * k)
  up_one = rw mean_biased (simp whole (omega arith))

  down_one : mean_year (t ⊖ (146097 * k + 719528)) -ℤ pos 1 ≡ (e - 1) ⊖ (400 * k)
  down_one = rw mean_biased (simp whole (omega (arith, near)))

  mean_holds : Holds (year_from_day (t ⊖ (146097 * k + 719528))) (t ⊖ (146097 * k + 719528))
  unfolding year_from_day
  mean_holds = go (leb (year_start (e + 1)) t) refl (leb (year_start e) t) refl
    where
      go : (a : Bool) → leb (year_start (e + 1)) t ≡ a → (b : Bool) → leb (year_start e) t ≡ b →
          Holds (year_from_day (t ⊖ (146097 * k + 719528))) (t ⊖ (146097 * k + 719528))
      go true p b q =
          rw (test (e + 1) _ up_one ∙ p)
          (rw up_one
          (holds_biased k (e + 1) t (omega (arith, leb-true)) (omega (arith, near, start_low (e + 1 + 1)))))
      go false p true q =
          rw (test (e + 1) _ up_one ∙ p, test e _ mean_biased ∙ q)
          (rw mean_biased (holds_biased k e t (omega (arith, leb-true)) (omega (arith, leb-false))))
      go false p false q =
          let s : e - 1 + 1 ≡ e = omega (arith, near) in
          rw (test (e + 1) _ up_one ∙ p, test e _ mean_biased ∙ q)
          (rw down_one (holds_biased k (e - 1) t (omega (arith, near, start_high (e - 1))) (rw s (omega (arith, leb-false)))))

-- ECMA-262's YearFromTime: the year found holds the day, whatever the day
pub year_holds : (n : ℤ) → Holds (year_from_day n) n
year_holds n =
    let k : ℕ = dn n + 1 in
    let t : ℕ = up n + (146097 * k + 719528 - dn n) in
    rw (with_bias n (146097 * k + 719528) (omega arith))
    (mean_holds k t ((400 * t - 110) / 146097) (omega arith) refl)

-- the next year starts after the days of this one, for every whole number
pub year_length : (y : ℤ) → day_from_year (y +ℤ pos 1) ≡ day_from_year y +ℤ pos (cond (leap_year y) 366 365)
year_length y = go (up y + (400 * dn y - dn y)) (dn y) (with_bias y (400 * dn y) (omega arith))
  where
    go : (u k : ℕ) → y ≡ u ⊖ (400 * k) → day_from_year (y +ℤ pos 1) ≡ day_from_year y +ℤ pos (cond (leap_year y) 366 365)
    go u k e =
        rw e
        (rw (next_year k u 0, biased_year (u + 1) k, biased_year u k, biased_leap u k, start_step u)
        (simp whole (omega arith)))

-- ---- at the bias of the code

pub year_exact : (n : ℕ) → 146097 ≤ n → n < 2 ^ 48 → year_start ((400 * n + 400) / 146097) ≤ n → YearHolds n ((400 * n + 400) / 146097)
year_exact n h k b =
    let e : ℕ = (400 * n + 400) / 146097 in
    record { begun = b; not_over = omega (arith, start_low (e + 1)); small = omega arith }

pub year_late : (n : ℕ) → 146097 ≤ n → n < 2 ^ 48 → n < year_start ((400 * n + 400) / 146097) → YearHolds n ((400 * n + 400) / 146097 - 1)
year_late n h k b =
    let e : ℕ = (400 * n + 400) / 146097 in
    let s : e - 1 + 1 ≡ e = omega arith in
    record { begun = omega (arith, start_high (e - 1)); not_over = rw s b; small = omega arith }

pub month_biased : (u i : ℕ) →
    (year_start u + days_before_month (leap_year (u ⊖ year_bias)) i) ⊖ day_bias ≡ day_from_month (u ⊖ year_bias) i
unfolding day_from_month
month_biased u i = rw (biased_year u 20000000) (simp whole (omega arith))

pub day_biased : (u k n : ℕ) → year_start u + k ≡ n → n ⊖ day_bias ≡ day_from_year (u ⊖ year_bias) +ℤ pos k
day_biased u k n e = rw (biased_year u 20000000) (simp whole (omega arith))

pub in_biased_year : (n u : ℕ) → YearHolds n u → n - year_start u < cond (leap_year (u ⊖ year_bias)) 366 365
in_biased_year n u h = rw (biased_leap u 20000000) (omega (arith, h.begun, h.not_over, start_step u))

pub year_range : (n u : ℕ) → YearHolds n u → (day_bias - 100000001 ≤ n) × (n ≤ day_bias + 100000001) →
    (u < 2 ^ 31 + year_bias) × (year_bias ≤ u + 2 ^ 31)
year_range n u h b = omega (arith, h.begun, h.not_over, start_low u, start_high (u + 1))
