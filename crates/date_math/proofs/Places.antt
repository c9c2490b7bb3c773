-- A triple of year, month and day as one number, its place: the order of triples is that of their places, and moving by years and
-- months, the day not shortened, moves the place by 384 and 32.
use Prim.Native.Nat.{ℕ, ◌+◌, ◌-◌, ◌*◌, ◌≤◌}
use native.Mathlib.Omega.{arith}
use mathlib.Core.Path.{◌≡◌, refl, sym, ◌∙◌, ap, ap₂}
use mathlib.Core.Bool.{Bool, true, false, ◌&&◌, ◌||◌}
use borrow.Author.Tests.{ltb-true, ltb-false, leb-true, leb-false}
use lib.Dec.{ltb, leb}
use lib.IntN.{ℤ, pos, neg_ℤ, ◌+ℤ◌, ◌-ℤ◌, ◌*ℤ◌, +ℤ_assoc}
use lib.Signed.{lt_z, le_z}
use Rattle.whole.specs.Whole.{fdiv, fmod}
use Rattle.whole.proofs.Laws.{ints, whole, parts, read_add, read_neg, read_times, fdiv_fmod, fmod_lt}
use Rattle.whole.proofs.Tests.{alike}
use Rattle.iso_date.specs.declared.IsoDate.{IsoDate}
use Rattle.date_math.specs.Proposal.{is_later, iso_date_surpasses, directed, moved_by, in_years}
use Rattle.date_math.specs.Inner.{place_of}

-- a triple whose month is one and whose day some month has
pub record Proper (t : IsoDate) : Type 0 where
  pub month_low : 1 ≤ t.month
  pub month_high : t.month ≤ 12
  pub day_high : t.day ≤ 31

-- ---- the order

module _ (y z : ℤ) (m d n e : ℕ) where
  abbrev here : ℤ
  here = pos 384 *ℤ y +ℤ pos (32 * m + d)

  abbrev there : ℤ
  there = pos 384 *ℤ z +ℤ pos (32 * n + e)

  later_is : 1 ≤ m → m ≤ 12 → d ≤ 31 → 1 ≤ n → n ≤ 12 → e ≤ 31 →
      (lt_z z y || (le_z z y && (ltb n m || (leb n m && ltb e d)))) ≡ lt_z there here
  later_is a b c f g h = go (lt_z z y) refl (le_z z y) refl (ltb n m) refl (leb n m) refl (ltb e d) refl
    where
      go : (p : Bool) → lt_z z y ≡ p → (q : Bool) → le_z z y ≡ q → (r : Bool) → ltb n m ≡ r → (s : Bool) → leb n m ≡ s →
          (t : Bool) → ltb e d ≡ t → (lt_z z y || (le_z z y && (ltb n m || (leb n m && ltb e d)))) ≡ lt_z there here
      go true p q _ r _ s _ t _ =
          rw p (sym (omega (
            arith,
            ints,
            read_times 384 y,
            read_times 384 z,
            read_add (pos 384 *ℤ y) (pos (32 * m + d)),
            read_add (pos 384 *ℤ z) (pos (32 * n + e)),
          )))
      go false p false q r _ s _ t _ =
          rw (p, q) (sym (omega (
            arith,
            ints,
            read_times 384 y,
            read_times 384 z,
            read_add (pos 384 *ℤ y) (pos (32 * m + d)),
            read_add (pos 384 *ℤ z) (pos (32 * n + e)),
          )))
      go false p true q true r s _ t _ =
          rw (p, q, r) (sym (omega (
            arith,
            ints,
            ltb-true n m r,
            read_times 384 y,
            read_times 384 z,
            read_add (pos 384 *ℤ y) (pos (32 * m + d)),
            read_add (pos 384 *ℤ z) (pos (32 * n + e)),
          )))
      go false p true q false r false s t _ =
          rw (p, q, r, s) (sym (omega (
            arith,
            ints,
            leb-false n m s,
            read_times 384 y,
            read_times 384 z,
            read_add (pos 384 *ℤ y) (pos (32 * m + d)),
            read_add (pos 384 *ℤ z) (pos (32 * n + e)),
          )))
      go false p true q false r true s true t =
          rw (p, q, r, s, t) (sym (omega (
            arith,
            ints,
            ltb-false n m r,
            leb-true n m s,
            ltb-true e d t,
            read_times 384 y,
            read_times 384 z,
            read_add (pos 384 *ℤ y) (pos (32 * m + d)),
            read_add (pos 384 *ℤ z) (pos (32 * n + e)),
          )))
      go false p true q false r true s false t =
          rw (p, q, r, s, t) (sym (omega (
            arith,
            ints,
            ltb-false n m r,
            leb-true n m s,
            ltb-false e d t,
            read_times 384 y,
            read_times 384 z,
            read_add (pos 384 *ℤ y) (pos (32 * m + d)),
            read_add (pos 384 *ℤ z) (pos (32 * n + e)),
          )))

pub later_place : (a b : IsoDate) → Proper a → Proper b → is_later a b ≡ lt_z (place_of b) (place_of a)
unfolding is_later place_of
later_place a b p q =
    later_is a.year b.year a.month a.day b.month b.day p.month_low p.month_high p.day_high q.month_low q.month_high
    q.day_high

-- ---- moving

pub place_years : (d : IsoDate) (c : ℤ) → place_of (in_years d c) ≡ place_of d +ℤ pos 384 *ℤ c
unfolding place_of
place_years d c = go d.year c (32 * d.month + d.day)
  where
    go : (y c : ℤ) (k : ℕ) → pos 384 *ℤ (y +ℤ c) +ℤ pos k ≡ pos 384 *ℤ y +ℤ pos k +ℤ pos 384 *ℤ c
    go y c k = rw (parts y, parts c) (simp whole (omega arith))

pub place_moved : (d : IsoDate) (y m : ℤ) → place_of (moved_by d y m) ≡ place_of d +ℤ (pos 384 *ℤ y +ℤ pos 32 *ℤ m)
unfolding place_of moved_by
place_moved d y m =
    let x : ℤ = pos d.month +ℤ m -ℤ pos 1 in
    go d.year y m (fdiv x 12) (fmod x 12) d.month d.day (fdiv_fmod x 12 (omega arith))
  where
    go : (y c m q : ℤ) (r n d : ℕ) → pos n +ℤ m -ℤ pos 1 ≡ pos 12 *ℤ q +ℤ pos r →
        pos 384 *ℤ (y +ℤ c +ℤ q) +ℤ pos (32 * (r + 1) + d) ≡ pos 384 *ℤ y +ℤ pos (32 * n + d) +ℤ (pos 384 *ℤ c +ℤ pos 32 *ℤ m)
    go y c m q r n d e =
        omega (
          arith,
          ints,
          read_add (pos n) m,
          read_add (pos n +ℤ m) (neg_ℤ (pos 1)),
          read_times 12 q,
          read_add (pos 12 *ℤ q) (pos r),
          read_add y c,
          read_add (y +ℤ c) q,
          read_times 384 (y +ℤ c +ℤ q),
          read_add (pos 384 *ℤ (y +ℤ c +ℤ q)) (pos (32 * (r + 1) + d)),
          read_times 384 y,
          read_times 384 c,
          read_times 32 m,
          read_add (pos 384 *ℤ y) (pos (32 * n + d)),
          read_add (pos 384 *ℤ c) (pos 32 *ℤ m),
          read_add (pos 384 *ℤ y +ℤ pos (32 * n + d)) (pos 384 *ℤ c +ℤ pos 32 *ℤ m),
        )

pub moved_proper : (d : IsoDate) (y m : ℤ) → d.day ≤ 31 → Proper (moved_by d y m)
unfolding moved_by
moved_proper d y m h =
    let x : ℤ = pos d.month +ℤ m -ℤ pos 1 in
    record { month_low = omega arith; month_high = omega (arith, fmod_lt x 12 (omega arith)); day_high = h }

pub years_proper : (d : IsoDate) (c : ℤ) → Proper d → Proper (in_years d c)
years_proper d c p = record { month_low = p.month_low; month_high = p.month_high; day_high = p.day_high }

-- ---- counts with a direction

pub directed_times : (forward : Bool) (a k : ℕ) → pos a *ℤ directed forward k ≡ directed forward (a * k)
directed_times true a k = refl
directed_times false a k = simp whole (omega arith)

pub directed_add : (forward : Bool) (a b : ℕ) → directed forward a +ℤ directed forward b ≡ directed forward (a + b)
directed_add true a b = refl
directed_add false a b = simp whole (omega arith)

pub directed_none : (forward : Bool) → directed forward 0 ≡ pos 0
directed_none true = refl
directed_none false = refl

pub split_at : (forward : Bool) (a : ℤ) (k n : ℕ) → k ≤ n → a +ℤ directed forward n ≡ a +ℤ directed forward k +ℤ directed forward (n - k)
split_at forward a k n h =
    let e : k + (n - k) ≡ n = omega arith in
    sym (+ℤ_assoc a (directed forward k) (directed forward (n - k)) ∙ ap (λ (z : ℤ). a +ℤ z) (directed_add forward k (n - k) ∙ ap (directed forward) e))

pub place_moved_on : (forward : Bool) (d : IsoDate) (y m : ℕ) →
    place_of (moved_by d (directed forward y) (directed forward m)) ≡ place_of d +ℤ directed forward (384 * y + 32 * m)
place_moved_on forward d y m =
    place_moved d (directed forward y) (directed forward m) ∙
    ap (λ (z : ℤ). place_of d +ℤ z)
    (ap₂ (λ (a b : ℤ). a +ℤ b) (directed_times forward 384 y) (directed_times forward 32 m) ∙ directed_add forward (384 * y) (32 * m))

-- ---- passing, by any number that has the order of dates

-- s lies before t in the direction
abbrev pub beyond : Bool → ℤ → ℤ → Bool
beyond true s t = lt_z s t
beyond false s t = lt_z t s

pub surpasses_by : (forward : Bool) (number : IsoDate → ℤ) (t two : IsoDate) → is_later t two ≡ lt_z (number two) (number t) →
    is_later two t ≡ lt_z (number t) (number two) → iso_date_surpasses forward t two ≡ beyond forward (number two) (number t)
surpasses_by true number t two e f = e
surpasses_by false number t two e f = f

-- s stands so far from p, and t so far in the same direction
pub beyond_is : (forward : Bool) (p s t : ℤ) (gap n : ℕ) → s ≡ p +ℤ directed forward gap → t ≡ p +ℤ directed forward n →
    beyond forward s t ≡ ltb gap n
beyond_is true p s t gap n e f =
    let a = read_add p (pos gap) in
    let b = read_add p (pos n) in
    sym (alike (ltb gap n) (lt_z s t) (λ h. omega (arith, ints, ltb-true gap n h)) (λ h. omega (arith, ints, ltb-false gap n h)))
beyond_is false p s t gap n e f =
    let a = read_add p (neg_ℤ (pos gap)) in
    let b = read_add p (neg_ℤ (pos n)) in
    let c = read_neg (pos gap) in
    let d = read_neg (pos n) in
    sym (alike (ltb gap n) (lt_z t s) (λ h. omega (arith, ints, ltb-true gap n h)) (λ h. omega (arith, ints, ltb-false gap n h)))

pub surpasses_is : (forward : Bool) (one two t : IsoDate) (gap n : ℕ) → Proper two → Proper t →
    place_of two ≡ place_of one +ℤ directed forward gap → place_of t ≡ place_of one +ℤ directed forward n →
    iso_date_surpasses forward t two ≡ ltb gap n
surpasses_is forward one two t gap n p q e f =
    surpasses_by forward place_of t two (later_place t two q p) (later_place two t p q) ∙
    beyond_is forward (place_of one) (place_of two) (place_of t) gap n e f
