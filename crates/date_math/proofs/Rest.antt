-- Where the rest starts: the date that years and months lead to, its day constrained, lies between the two dates. Shortening the day
-- matters only where the month reached is the second date's own, and there the second date's day is one that the month has.
use Prim.Native.Nat.{ℕ, ◌+◌, ◌*◌, ◌≤◌, ◌<◌, min, max}
use native.Mathlib.Omega.{arith}
use mathlib.Core.Path.{◌≡◌, refl, sym, ◌∙◌, ap}
use mathlib.Core.Logic.{⊎_elim}
use mathlib.Core.Bool.{Bool, true, false}
use lib.IntN.{ℤ, pos, neg_ℤ, nat_abs, ◌+ℤ◌, ◌-ℤ◌, ◌*ℤ◌, +ℤ_idr}
use lib.Signed.{◌≤ℤ◌}
use Rattle.whole.specs.Whole.{fdiv}
use Rattle.whole.proofs.Laws.{ints, size_of, up, dn, split, read_add, read_neg, read_times, range_of, parts, whole, fdiv_moved, regroup, le_by_test}
use Rattle.iso_date.specs.Proposal.{date, epoch_days, is_valid_iso_date, iso_days_in_month, constrain_iso_date, clamp_to}
use Rattle.iso_date.specs.declared.IsoDate.{IsoDate}
use Rattle.iso_date.proofs.Dates.{read_valid, distance}
use Rattle.iso_date.proofs.Answers.{constrain_valid}
use Rattle.date_math.specs.Proposal.{directed, moved_by, rest_start}
use Rattle.date_math.specs.Claims.{Ahead}
use Rattle.date_math.specs.Inner.{place_of}
use Rattle.date_math.proofs.Places.{Proper, later_place, moved_proper, place_moved_on, directed_times, directed_add}
use Rattle.date_math.proofs.Order.{valid_proper, later_day}

-- ---- the order of places is that of days

pub days_by_places : (a b : IsoDate) → is_valid_iso_date a ≡ true → is_valid_iso_date b ≡ true → place_of a ≤ℤ place_of b → epoch_days a ≤ℤ epoch_days b
days_by_places a b v w h =
    le_by_test (place_of a) (place_of b) (epoch_days a) (epoch_days b)
    (sym (later_day a b v w) ∙ later_place a b (valid_proper a v) (valid_proper b w)) h

pub ahead_by_places : (forward : Bool) (a b : IsoDate) → is_valid_iso_date a ≡ true → is_valid_iso_date b ≡ true →
    Ahead forward (place_of a) (place_of b) → Ahead forward (epoch_days a) (epoch_days b)
ahead_by_places true a b v w h = days_by_places a b v w h
ahead_by_places false a b v w h = days_by_places b a w v h

-- ---- constraining a triple whose month is one

pub constrained_is : (y : ℤ) (m d : ℕ) → 1 ≤ m → m ≤ 12 → 1 ≤ d → constrain_iso_date (date y m d) ≡ date y m (min (iso_days_in_month y m) d)
unfolding constrain_iso_date
constrained_is y m d a b c =
    let e : clamp_to 12 m ≡ m = omega arith in
    let f : max 1 d ≡ d = omega arith in
    rw (e, f)

-- ---- months, 32 places each

not_more : (a b e d : ℕ) → 32 * a + e ≤ 32 * b + d → d ≤ 31 → 1 ≤ e → a ≤ b
not_more a b e d h k l = omega arith

further : (a b : ℕ) → a < b → 32 * a + 32 ≤ 32 * b
further a b h = omega arith

same_months : (a b n m : ℕ) → 12 * a + n ≡ 12 * b + m → (1 ≤ n) × (n ≤ 12) → (1 ≤ m) × (m ≤ 12) → (a ≡ b) × (n ≡ m)
same_months a b n m e h k = omega arith

-- ---- the place of the start, in numbers: Y, M is the month reached, D the day, L the length of the month

module _ (Y : ℤ) (M D L : ℕ) where
  abbrev reached : ℤ
  reached = pos 384 *ℤ Y +ℤ pos (32 * M + D)

  abbrev shortened : ℤ
  shortened = pos 384 *ℤ Y +ℤ pos (32 * M + min L D)

  not_above : shortened ≤ℤ reached
  not_above = omega (arith, ints, read_add (pos 384 *ℤ Y) (pos (32 * M + D)), read_add (pos 384 *ℤ Y) (pos (32 * M + min L D)))

  -- z, n, e is a date whose day its month has
  module _ (z : ℤ) (n e : ℕ) (mm : (1 ≤ M) × (M ≤ 12)) (nn : (1 ≤ n) × (n ≤ 12)) (dd : (1 ≤ D) × (D ≤ 31)) (ee : (1 ≤ e) × (e ≤ 31))
      (has : z ≡ Y → n ≡ M → e ≤ L) where
    abbrev given : ℤ
    given = pos 384 *ℤ z +ℤ pos (32 * n + e)

    -- not beyond the triple means not beyond the shortened one
    not_below : given ≤ℤ reached → given ≤ℤ shortened
    not_below h =
        let t = read_times 384 Y in
        let u = read_times 384 z in
        let g = read_add (pos 384 *ℤ z) (pos (32 * n + e)) in
        let r = read_add (pos 384 *ℤ Y) (pos (32 * M + D)) in
        let s = read_add (pos 384 *ℤ Y) (pos (32 * M + min L D)) in
        let a : ℕ = 12 * (up z + dn Y) + n in
        let b : ℕ = 12 * (up Y + dn z) + M in
        let c : a ≤ b = not_more a b e D (omega (arith, ints)) dd.1 ee.0 in
        ⊎_elim
        (λ l. omega (arith, ints, further a b l))
        (λ l.
        let m = same_months (up z + dn Y) (up Y + dn z) n M (omega arith) nn mm in
        let q : z ≡ Y = omega (arith, ints, m.0) in
        let k : e ≤ L = has q m.1 in
        omega (arith, ints, k))
        (split a b)

-- ---- the start of the rest lies between the two dates

has_day : (d : IsoDate) (Y : ℤ) (M : ℕ) → is_valid_iso_date d ≡ true → d.year ≡ Y → d.month ≡ M → d.day ≤ iso_days_in_month Y M
has_day d Y M v e f = rw (← e, ← f) (read_valid d.year d.month d.day v).day_high

module _ (one t : IsoDate) (v : is_valid_iso_date one ≡ true) (p : Proper t) (day_is : t.day ≡ one.day) where
  abbrev length : ℕ
  length = iso_days_in_month t.year t.month

  day_low : 1 ≤ t.day
  day_low = rw day_is (read_valid one.year one.month one.day v).day_low

  place_short : place_of (constrain_iso_date t) ≡ shortened t.year t.month t.day length
  unfolding place_of
  place_short = ap place_of (constrained_is t.year t.month t.day p.month_low p.month_high day_low)

  short_not_above : place_of (constrain_iso_date t) ≤ℤ place_of t
  unfolding place_of
  short_not_above = rw place_short (not_above t.year t.month t.day length)

  short_not_below : (d : IsoDate) → is_valid_iso_date d ≡ true → place_of d ≤ℤ place_of t → place_of d ≤ℤ place_of (constrain_iso_date t)
  unfolding place_of
  short_not_below d w h =
      let q = valid_proper d w in
      let r = read_valid d.year d.month d.day w in
      rw place_short
      (not_below t.year t.month t.day length d.year d.month d.day (p.month_low, p.month_high) (q.month_low, q.month_high)
      (day_low, p.day_high) (r.day_low, q.day_high) (has_day d t.year t.month w) h)

  abbrev start : IsoDate
  start = constrain_iso_date t

  pub start_between : (forward : Bool) (two : IsoDate) → is_valid_iso_date two ≡ true →
      Ahead forward (place_of one) (place_of t) → Ahead forward (place_of t) (place_of two) →
      Ahead forward (epoch_days one) (epoch_days start) × Ahead forward (epoch_days start) (epoch_days two)
  start_between true two w a b = (
    days_by_places one start v (constrain_valid t) (short_not_below one v a),
    days_by_places start two (constrain_valid t) w (omega (arith, ints, short_not_above)),
  )
  start_between false two w a b = (
    days_by_places start one (constrain_valid t) v (omega (arith, ints, short_not_above)),
    days_by_places two start w (constrain_valid t) (short_not_below two w b),
  )

moved_day : (d : IsoDate) (y m : ℤ) → (moved_by d y m).day ≡ d.day
unfolding moved_by
moved_day d y m = refl

ahead_of : (forward : Bool) (p q : ℤ) (n : ℕ) → q ≡ p +ℤ directed forward n → Ahead forward p q
ahead_of true p q n e = omega (arith, ints, read_add p (pos n))
ahead_of false p q n e = omega (arith, ints, read_neg (pos n), read_add p (neg_ℤ (pos n)))

ahead_further : (forward : Bool) (p q s : ℤ) (n k : ℕ) → q ≡ p +ℤ directed forward n → s ≡ p +ℤ directed forward k → k ≤ n → Ahead forward s q
ahead_further true p q s n k e f h = omega (arith, ints, read_add p (pos n), read_add p (pos k))
ahead_further false p q s n k e f h = omega (arith, ints, read_neg (pos n), read_add p (neg_ℤ (pos n)), read_neg (pos k), read_add p (neg_ℤ (pos k)))

module _ (forward : Bool) (one two : IsoDate) (v : is_valid_iso_date one ≡ true) (w : is_valid_iso_date two ≡ true) (gap y m : ℕ)
    (far : place_of two ≡ place_of one +ℤ directed forward gap) (within : 384 * y + 32 * m ≤ gap) where
  pub rest_between : Ahead forward (epoch_days one) (epoch_days (rest_start forward one y m)) ×
      Ahead forward (epoch_days (rest_start forward one y m)) (epoch_days two)
  unfolding rest_start
  rest_between =
      let t : IsoDate = moved_by one (directed forward y) (directed forward m) in
      let e = place_moved_on forward one y m in
      start_between one t v (moved_proper one (directed forward y) (directed forward m) (valid_proper one v).day_high)
      (moved_day one (directed forward y) (directed forward m)) forward two w
      (ahead_of forward (place_of one) (place_of t) (384 * y + 32 * m) e)
      (ahead_further forward (place_of one) (place_of two) (place_of t) gap (384 * y + 32 * m) far e within)

-- ---- a distance in a direction

-- how far b lies from a, where it is not behind
pub distance_of : (forward : Bool) (a b : ℤ) → Ahead forward a b → b ≡ a +ℤ directed forward (nat_abs (b -ℤ a))
distance_of true a b h = (distance b a h).0
distance_of false a b h =
    omega (
      arith,
      ints,
      size_of (b -ℤ a),
      read_add b (neg_ℤ a),
      read_neg a,
      range_of (b -ℤ a),
      read_neg (pos (nat_abs (b -ℤ a))),
      read_add a (neg_ℤ (pos (nat_abs (b -ℤ a)))),
    )

pub distance_is : (forward : Bool) (a b : ℤ) (n : ℕ) → b ≡ a +ℤ directed forward n → nat_abs (b -ℤ a) ≡ n
distance_is true a b n e =
    omega (arith, ints, size_of (b -ℤ a), read_add b (neg_ℤ a), read_neg a, range_of (b -ℤ a), read_add a (pos n))
distance_is false a b n e =
    omega (arith, ints, size_of (b -ℤ a), read_add b (neg_ℤ a), read_neg a, range_of (b -ℤ a), read_neg (pos n), read_add a (neg_ℤ (pos n)))

-- ---- years joined to months

moved_months : (d : IsoDate) (c m k : ℤ) → k ≡ m +ℤ pos 12 *ℤ c → moved_by d (pos 0) k ≡ moved_by d c m
unfolding moved_by
moved_months d c m k e =
    let x : ℤ = pos d.month +ℤ m -ℤ pos 1 in
    let f = fdiv_moved x c 12 (omega arith) in
    rw (on d.month, f.0, f.1, +ℤ_idr d.year, regroup d.year (fdiv x 12) c)
  where
    on : (n : ℕ) → pos n +ℤ k -ℤ pos 1 ≡ pos n +ℤ m -ℤ pos 1 +ℤ pos 12 *ℤ c
    on n = rw (e, parts m, parts c) (simp whole (omega arith))

joined : (forward : Bool) (y m : ℕ) → directed forward (12 * y + m) ≡ directed forward m +ℤ pos 12 *ℤ directed forward y
joined forward y m =
    let e : m + 12 * y ≡ 12 * y + m = omega arith in
    sym (ap (λ (z : ℤ). directed forward m +ℤ z) (directed_times forward 12 y) ∙ directed_add forward m (12 * y) ∙ ap (directed forward) e)

pub fold_years : (forward : Bool) (one : IsoDate) (y m : ℕ) → rest_start forward one 0 (12 * y + m) ≡ rest_start forward one y m
unfolding rest_start
fold_years true one y m = ap constrain_iso_date (moved_months one (pos y) (pos m) (pos (12 * y + m)) (joined true y m))
fold_years false one y m =
    ap constrain_iso_date (moved_months one (neg_ℤ (pos y)) (neg_ℤ (pos m)) (neg_ℤ (pos (12 * y + m))) (joined false y m))
