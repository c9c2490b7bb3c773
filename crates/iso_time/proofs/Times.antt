-- Times as one number: fields and nanoseconds, and the balance of six fields.
use Prim.Native.Nat.{ℕ, ◌+◌, ◌-◌, ◌*◌, ◌/◌, ◌%◌, ◌^◌, ◌≤◌, ◌<◌}
use native.Mathlib.Nat.{mod-lt, div-add-mod, div-le_of_le-mul}
use native.Mathlib.Omega.{arith}
use mathlib.Core.Path.{◌≡◌, refl, sym, ◌∙◌, ap, ap₂}
use mathlib.Core.Bool.{true, ◌&&◌}
use borrow.Author.Tests.{leb-true, le-leb}
use lib.Dec.{leb}
use lib.Signed.{◌≤ℤ◌, ◌<ℤ◌}
use lib.IntN.{ℤ, pos, negsuc, neg_ℤ, nat_abs, ◌+ℤ◌, ◌-ℤ◌, ◌*ℤ◌}
use mir.Facts.{to_z-of_z}
use mir.Syntax.{w64}
use mir.Val.{SFits, to_z, of_z}
use Rattle.options.specs.Units.{ns_per_day}
use Rattle.whole.specs.Whole.{◌⊖◌, fdiv, fmod}
use Rattle.whole.proofs.Laws.{size_of, range_of, parts, whole, ints, ⊖-sum, ⊖-same, fdiv_fmod, fdiv_unique, fmod_lt, quotient, of_pos, read_add, read_neg, read_diff}
use Rattle.whole.proofs.Tests.{both, and_assoc}
use Rattle.iso_time.specs.Proposal.{time, is_valid_time, balanced, balance_time, nanoseconds}
use Rattle.iso_time.specs.Inner.{Within, AllWithin, field_bias}
use Rattle.iso_time.specs.Claims.{exact, flat}
use Rattle.iso_time.specs.declared.IsoTime.{IsoTime}
use Rattle.iso_time.specs.declared.BalancedTime.{BalancedTime}

-- ---- a valid time

pub record Valid (t : IsoTime) : Type 0 where
  pub hours : t.hour ≤ 23
  pub minutes : t.minute ≤ 59
  pub seconds : t.second ≤ 59
  pub millis : t.millisecond ≤ 999
  pub micros : t.microsecond ≤ 999
  pub nanos : t.nanosecond ≤ 999

pub time_tests : (t : IsoTime) →
    (((((leb t.hour 23 && leb t.minute 59) && leb t.second 59) && leb t.millisecond 999) && leb t.microsecond 999) &&
    leb t.nanosecond 999) ≡ is_valid_time t
unfolding is_valid_time
time_tests t = simp and_assoc

pub read_valid : (t : IsoTime) → is_valid_time t ≡ true → Valid t
unfolding is_valid_time
read_valid t e =
    let a = both _ _ e in
    let b = both _ _ a.1 in
    let c = both _ _ b.1 in
    let d = both _ _ c.1 in
    let f = both _ _ d.1 in
    record {
      hours = leb-true _ _ a.0;
      minutes = leb-true _ _ b.0;
      seconds = leb-true _ _ c.0;
      millis = leb-true _ _ d.0;
      micros = leb-true _ _ f.0;
      nanos = leb-true _ _ f.1;
    }

pub show_valid : (t : IsoTime) → Valid t → is_valid_time t ≡ true
unfolding is_valid_time
show_valid t v =
    simp
    (le-leb _ _ v.hours, le-leb _ _ v.minutes, le-leb _ _ v.seconds, le-leb _ _ v.millis, le-leb _ _ v.micros, le-leb _ _ v.nanos)

pub below_day_lem : (t : IsoTime) → Valid t → nanoseconds t < ns_per_day
unfolding nanoseconds
below_day_lem t v = omega arith

-- for the code's sum, by name
pub ruleset day_laws = (read_valid, below_day_lem)

-- ---- the time at a nanosecond of the day

abbrev pub time_at : ℕ → IsoTime
time_at n =
    time (n / 1000 / 1000 / 1000 / 60 / 60) (n / 1000 / 1000 / 1000 / 60 % 60) (n / 1000 / 1000 / 1000 % 60)
    (n / 1000 / 1000 % 1000) (n / 1000 % 1000) (n % 1000)

pub time_at_is : (n : ℕ) → n < ns_per_day → (nanoseconds (time_at n) ≡ n) × (is_valid_time (time_at n) ≡ true)
unfolding nanoseconds
time_at_is n h = (
  omega arith,
  show_valid (time_at n)
      (record { hours = omega arith; minutes = omega arith; seconds = omega arith; millis = omega arith; micros = omega arith; nanos = omega arith }),
)

-- two times with equal fields
pub time_eq : (a b c d e f a' b' c' d' e' f' : ℕ) → a ≡ a' → b ≡ b' → c ≡ c' → d ≡ d' → e ≡ e' → f ≡ f' → time a b c d e f ≡ time a' b' c' d' e' f'
time_eq a b c d e f a' b' c' d' e' f' p q r s t u = rw (p, q, r, s, t, u)

-- a valid time is the one at its nanoseconds
pub time_back : (t : IsoTime) → Valid t → time_at (nanoseconds t) ≡ t
unfolding nanoseconds
time_back t v =
    let x3 : ℕ = t.hour * 3600 + (t.minute * 60 + t.second) in
    let x2 : ℕ = x3 * 1000 + t.millisecond in
    let x1 : ℕ = x2 * 1000 + t.microsecond in
    let q1 = quotient 1000 (nanoseconds t) x1 t.nanosecond (omega arith) (omega arith) in
    let q2 = quotient 1000 x1 x2 t.microsecond (omega arith) (omega arith) in
    let q3 = quotient 1000 x2 x3 t.millisecond (omega arith) (omega arith) in
    let q4 = quotient 60 x3 (t.hour * 60 + t.minute) t.second (omega arith) (omega arith) in
    let q5 = quotient 60 (t.hour * 60 + t.minute) t.hour t.minute (omega arith) (omega arith) in
    rw (q1.0, q1.1, q2.0, q2.1, q3.0, q3.1, q4.0, q4.1, q5.0, q5.1)

-- ---- the balance of six fields

-- a number raised by a multiple of d
stage : (z : ℤ) (n k d : ℕ) → 0 < d → z ≡ n ⊖ (d * k) → (fdiv z d ≡ (n / d) ⊖ k) × (fmod z d ≡ n % d)
stage z n k d p e =
    fdiv_unique z ((n / d) ⊖ k) d (n % d) (mod-lt n p)
    (e ∙ sym (rw (of_pos d, of_pos (n % d)) (simp whole (omega (arith, div-add-mod n d)))))

small_fits : (z : ℤ) → nat_abs z ≤ 2 ^ 60 → SFits w64 z
small_fits z low = omega (arith, low, size_of z, range_of z)

-- a quotient is again small enough to be carried
quotient_low : (z : ℤ) (d : ℕ) → 24 ≤ d → nat_abs z ≤ 2 ^ 54 → nat_abs (fdiv z d) ≤ 2 ^ 50
unfolding fdiv
quotient_low (pos n) d few low = div-le_of_le-mul d (omega arith)
quotient_low (negsuc n) d few low =
    let below : n / d ≤ 2 ^ 50 - 1 = div-le_of_le-mul d (omega arith) in
    omega arith

-- a number as a local hands it back
abbrev held : ℤ → ℤ
held z = to_z w64 (of_z w64 z)

-- what a carry asks of its numbers
abbrev Asked : ℤ → ℤ → ℕ → Type 0
Asked x y d = (Within x × (nat_abs y ≤ 2 ^ 50)) × ((24 ≤ d) × ((d ≤ 1000) × (field_bias % d ≡ 0)))

pub raises : (x y : ℤ) (k d : ℕ) → Asked x y d → (x ≡ k ⊖ field_bias) × (k < 20000000000000000) →
    (k < 2 ^ 63) × (((0 ⊖ k) ≤ℤ held y) × (held y <ℤ ((2 ^ 63) ⊖ k)))
raises x y k d asked up =
    let g : held y ≡ y = to_z-of_z (small_fits y (omega (arith, asked))) in
    let least : 2 ^ 50 ≤ k = omega (arith, ints, asked, up, size_of x, range_of x, read_diff k field_bias) in
    rw g (
      omega (arith, up),
      (omega (arith, ints, asked, least, size_of y, range_of y, read_diff 0 k), omega (arith, ints, asked, up, size_of y, range_of y, read_diff (2 ^ 63) k)),
    )

-- what the code's carry hands back
pub record Carry (x y q : ℤ) (up d : ℕ) : Type 0 where
  pub carried : held q ≡ fdiv (x +ℤ y) d
  pub low : nat_abs (held q) ≤ 2 ^ 50
  pub left : up % d ≡ fmod (x +ℤ y) d
  pub few : up % d < d

pub carry_is : (x y q : ℤ) (k up d : ℕ) → Asked x y d → x ≡ k ⊖ field_bias → held y ≡ up ⊖ k → q ≡ (up / d) ⊖ (field_bias / d) →
    Carry x y q up d
carry_is x y q k up d asked e f p =
    let z : ℤ = x +ℤ y in
    let some : 0 < d = omega (arith, asked) in
    let small : nat_abs z ≤ 2 ^ 54 = omega (arith, asked, size_of x, size_of y, size_of z, range_of z, read_add x y) in
    let g : y ≡ up ⊖ k = sym (to_z-of_z (small_fits y (omega (arith, asked)))) ∙ f in
    let sum : z ≡ up ⊖ field_bias = ⊖-sum x y k field_bias up k e g ∙ ⊖-same _ _ _ _ (omega arith) in
    let whole_d : field_bias ≡ d * (field_bias / d) = omega (arith, div-add-mod field_bias d, asked) in
    let by = stage z up (field_bias / d) d some (sum ∙ ap (λ (n : ℕ). up ⊖ n) whole_d) in
    let l : nat_abs (fdiv z d) ≤ 2 ^ 50 = quotient_low z d (asked.1.0) small in
    let same : held q ≡ fdiv z d = rw (p ∙ sym by.0) (to_z-of_z (small_fits (fdiv z d) (omega (arith, l)))) in
    record { carried = same; low = rw same l; left = sym by.1; few = mod-lt up some }

-- what a carry's contract says of the locals
pub record Step (x y : ℤ) (d : ℕ) (q : ℤ) (r : ℕ) : Type 0 where
  pub carried : (q ≡ fdiv (held x +ℤ held y) d) × (nat_abs q ≤ 2 ^ 50)
  pub left : (r ≡ fmod (held x +ℤ held y) d) × (r < d)

-- and so of the field, and of what the step before carries into it
step : (x y over q : ℤ) (d r : ℕ) → Within x → nat_abs y ≤ 2 ^ 50 → y ≡ over → Step x y d q r →
    (q ≡ fdiv (x +ℤ over) d) × (r ≡ fmod (x +ℤ over) d)
step x y over q d r within low e s =
    let f : held x ≡ x = to_z-of_z (small_fits x (omega (arith, within))) in
    let g : held y ≡ over = to_z-of_z (small_fits y (omega (arith, low))) ∙ e in
    (s.carried.0 ∙ rw (f, g), s.left.0 ∙ rw (f, g))

nothing_over : (z : ℤ) → z +ℤ pos 0 ≡ z
nothing_over z = omega (arith, ints, read_add z (pos 0))

module _ (h m s ms us ns q0 q1 q2 q3 q4 q5 : ℤ) (r0 r1 r2 r3 r4 r5 : ℕ) (w : AllWithin h m s ms us ns)
    (c0 : Step ns (pos 0) 1000 q0 r0) (c1 : Step us q0 1000 q1 r1) (c2 : Step ms q1 1000 q2 r2)
    (c3 : Step s q2 60 q3 r3) (c4 : Step m q3 60 q4 r4) (c5 : Step h q4 24 q5 r5) where
  pub balance_is : balanced (held q5) (time r5 r4 r3 r2 r1 r0) ≡ balance_time h m s ms us ns
  unfolding balance_time
  balance_is =
      let us' : ℤ = us +ℤ fdiv ns 1000 in
      let ms' : ℤ = ms +ℤ fdiv us' 1000 in
      let s' : ℤ = s +ℤ fdiv ms' 1000 in
      let m' : ℤ = m +ℤ fdiv s' 60 in
      let h' : ℤ = h +ℤ fdiv m' 60 in
      let none = nothing_over ns in
      let s0 = step ns (pos 0) (pos 0) q0 1000 r0 w.1.1.1.1.1 (omega arith) refl c0 in
      let s1 = step us q0 (fdiv ns 1000) q1 1000 r1 w.1.1.1.1.0 c0.carried.1 (s0.0 ∙ rw none) c1 in
      let s2 = step ms q1 (fdiv us' 1000) q2 1000 r2 w.1.1.1.0 c1.carried.1 s1.0 c2 in
      let s3 = step s q2 (fdiv ms' 1000) q3 60 r3 w.1.1.0 c2.carried.1 s2.0 c3 in
      let s4 = step m q3 (fdiv s' 60) q4 60 r4 w.1.0 c3.carried.1 s3.0 c4 in
      let s5 = step h q4 (fdiv m' 60) q5 24 r5 w.0 c4.carried.1 s4.0 c5 in
      let days : held q5 ≡ fdiv h' 24 = to_z-of_z (small_fits q5 (omega (arith, c5.carried.1))) ∙ s5.0 in
      ap₂ balanced days (time_eq _ _ _ _ _ _ _ _ _ _ _ _ s5.1 s4.1 s3.1 s2.1 s1.1 (s0.1 ∙ rw none))

-- ---- balancing is inverse to flattening: the exact nanoseconds stay as they are, and no other carry and time have them

less : (x q w : ℤ) → x +ℤ q ≡ w → x ≡ w -ℤ q
less x q w e = omega (arith, ints, read_add x q, read_add w (neg_ℤ q), read_neg q)

-- each field is what its carry leaves: a sum of six equations
sum_up : (h m s ms us ns q0 q1 q2 q3 q4 q5 : ℤ) (r0 r1 r2 r3 r4 r5 : ℕ) →
    ns ≡ pos 1000 *ℤ q0 +ℤ pos r0 → us +ℤ q0 ≡ pos 1000 *ℤ q1 +ℤ pos r1 → ms +ℤ q1 ≡ pos 1000 *ℤ q2 +ℤ pos r2 →
    s +ℤ q2 ≡ pos 60 *ℤ q3 +ℤ pos r3 → m +ℤ q3 ≡ pos 60 *ℤ q4 +ℤ pos r4 → h +ℤ q4 ≡ pos 24 *ℤ q5 +ℤ pos r5 →
    pos ns_per_day *ℤ q5 +ℤ pos (nanoseconds (time r5 r4 r3 r2 r1 r0)) ≡ flat h m s ms us ns
unfolding nanoseconds
sum_up h m s ms us ns q0 q1 q2 q3 q4 q5 r0 r1 r2 r3 r4 r5 e0 e1 e2 e3 e4 e5 =
    rw (e0, less us q0 _ e1, less ms q1 _ e2, less s q2 _ e3, less m q3 _ e4, less h q4 _ e5)
    (rw (parts q0, parts q1, parts q2, parts q3, parts q4, parts q5) (simp whole (omega arith)))

pub balance_exact : (h m s ms us ns : ℤ) → exact (balance_time h m s ms us ns) ≡ flat h m s ms us ns
unfolding balance_time
balance_exact h m s ms us ns =
    let us' : ℤ = us +ℤ fdiv ns 1000 in
    let ms' : ℤ = ms +ℤ fdiv us' 1000 in
    let s' : ℤ = s +ℤ fdiv ms' 1000 in
    let m' : ℤ = m +ℤ fdiv s' 60 in
    let h' : ℤ = h +ℤ fdiv m' 60 in
    sum_up h m s ms us ns (fdiv ns 1000) (fdiv us' 1000) (fdiv ms' 1000) (fdiv s' 60) (fdiv m' 60) (fdiv h' 24)
    (fmod ns 1000) (fmod us' 1000) (fmod ms' 1000) (fmod s' 60) (fmod m' 60) (fmod h' 24)
    (fdiv_fmod ns 1000 (omega arith)) (fdiv_fmod us' 1000 (omega arith)) (fdiv_fmod ms' 1000 (omega arith)) (fdiv_fmod s' 60 (omega arith))
    (fdiv_fmod m' 60 (omega arith)) (fdiv_fmod h' 24 (omega arith))

pub balance_valid : (h m s ms us ns : ℤ) → Valid (balance_time h m s ms us ns).time
unfolding balance_time
balance_valid h m s ms us ns =
    let us' : ℤ = us +ℤ fdiv ns 1000 in
    let ms' : ℤ = ms +ℤ fdiv us' 1000 in
    let s' : ℤ = s +ℤ fdiv ms' 1000 in
    let m' : ℤ = m +ℤ fdiv s' 60 in
    let h' : ℤ = h +ℤ fdiv m' 60 in
    record {
      hours = omega (arith, fmod_lt h' 24 (omega arith));
      minutes = omega (arith, fmod_lt m' 60 (omega arith));
      seconds = omega (arith, fmod_lt s' 60 (omega arith));
      millis = omega (arith, fmod_lt ms' 1000 (omega arith));
      micros = omega (arith, fmod_lt us' 1000 (omega arith));
      nanos = omega (arith, fmod_lt ns 1000 (omega arith));
    }

-- days and a valid time are told by their exact nanoseconds
pub one_balanced : (a b : BalancedTime) → Valid a.time → Valid b.time → exact a ≡ exact b → a ≡ b
one_balanced a b v w e =
    let f = fdiv_unique (exact a) a.days ns_per_day (nanoseconds a.time) (below_day_lem a.time v) refl in
    let g = fdiv_unique (exact a) b.days ns_per_day (nanoseconds b.time) (below_day_lem b.time w) e in
    ap₂ balanced (sym f.0 ∙ g.0) (sym (time_back a.time v) ∙ ap time_at (sym f.1 ∙ g.1) ∙ time_back b.time w)
