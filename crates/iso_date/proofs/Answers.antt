-- How the answers of the rules come out of their checks, one law for each way through the code.
use Prim.Native.Nat.{ℕ, min, max, ◌+◌, ◌-◌, ◌/◌, ◌%◌, ◌^◌, ◌≤◌, ◌<◌}
use native.Mathlib.Omega.{arith}
use mathlib.Core.Path.{◌≡◌, refl, sym, ◌∙◌, ap}
use mathlib.Core.Bool.{Bool, true, false, ◌&&◌, ◌||◌}
use mathlib.Core.Logic.{⊎_elim}
use borrow.Author.Tests.{ltb-false}
use lib.Dec.{ltb}
use lib.ListN.{get_or}
use lib.IntN.{ℤ, pos, negsuc, neg_ℤ, nat_abs, ◌+ℤ◌, ◌-ℤ◌, ◌*ℤ◌}
use lib.Signed.{lt_z, le_z, ◌≤ℤ◌, ◌<ℤ◌}
use mir.Syntax.{w64}
use mir.Val.{SFits}
use Rattle.options.specs.Units.{ns_per_day}
use Rattle.refusal.specs.Answer.{number_of, given, refused, check}
use Rattle.refusal.proofs.Answers.{given_inj, never}
use Rattle.whole.specs.Whole.{◌⊖◌, fmod, clamp_z}
use Rattle.whole.proofs.Edges.{clamp_low, clamp_high, clamp_same}
use Rattle.whole.proofs.Laws.{split, whole, ints, ⊖-same, size_of, range_of, read_add, read_diff, read_times}
use Rattle.whole.proofs.Tests.{alike, both, neither, and_false}
use Rattle.iso_date.specs.Proposal.{date, leap_year, month_lengths, iso_days_in_month, day_from_month, iso_date_to_epoch_days, epoch_days}
use Rattle.iso_date.specs.Proposal.{epoch_days_to_iso_date, is_valid_iso_date, balanced_year, balanced_month, constrain_iso_date, clamp_to, ns_within_limits}
use Rattle.iso_date.specs.Proposal.{moment_within_limits, iso_date_within_limits, noon, ns_limit}
use Rattle.iso_date.specs.Paper.{balanced, year_month, balance_year_month, date_to_day, day_to_date, regulate_date, make_date}
use Rattle.iso_date.specs.Paper.{date_limits, balance_date}
use Rattle.iso_date.specs.Inner.{year_bias, month_bias, day_bias, Balances}
use Rattle.iso_date.specs.declared.IsoDate.{IsoDate}
use Rattle.options.specs.declared.Overflow.{Overflow}
use Rattle.options.specs.declared.Overflow.TheVariants.{Constrain, Reject}
use Rattle.iso_date.proofs.Dates.{Valid, read_valid, show_valid, plain_month}
use Rattle.iso_date.proofs.Tables.{length_least}

-- ---- the year-month balance

pub balances : (u m : ℕ) → 400000000 ≤ u → u < 2 ^ 39 → 1 ≤ m → m < 2 ^ 39 →
    Balances u m (u + (m - 1) / 12 - 400000000) ((m - 1) % 12)
balances u m a b c d =
    record {
      year_is = simp whole (omega arith);
      month_is = simp whole (omega arith);
      year_small = omega arith;
      index_small = omega arith;
    }

-- the balance of a year and a month of 32 bits
pub balance_is : (y m : ℤ) (u t year index : ℕ) → y ≡ u ⊖ year_bias → m ≡ t ⊖ month_bias → Balances u t year index →
    (year ⊖ year_bias ≡ balanced_year y m) × (index + 1 ≡ balanced_month m)
balance_is y m u t year index e f b = rw (e, f) (b.year_is, b.month_is)

-- the way back to 32 bits is a clamp
pub year_clamped : (u v : ℕ) (z : ℤ) → v ≡ max 5852516352 (min u 10147483647) → z ≡ v ⊖ year_bias →
    z ≡ clamp_z (u ⊖ year_bias) (neg_ℤ (pos (2 ^ 31))) (pos (2 ^ 31 - 1))
year_clamped u v z e f =
    let d = read_diff u year_bias in
    let g = read_diff v year_bias in
    ⊎_elim (λ h. let k : z ≡ neg_ℤ (pos (2 ^ 31)) = omega (arith, ints) in k ∙ clamp_low _ _ _ (omega (arith, ints)))
    (λ h. ⊎_elim (λ l. let k : z ≡ pos (2 ^ 31 - 1) = omega (arith, ints) in k ∙ clamp_high _ _ _ (omega (arith, ints)) (omega (arith, ints)))
    (λ l. let k : z ≡ u ⊖ year_bias = omega (arith, ints) in k ∙ clamp_same _ _ _ (omega (arith, ints)) (omega (arith, ints)))
    (split 10147483647 u))
    (split u 5852516352)

-- ---- the balanced range

pub too_low : (n : ℤ) → n <ℤ neg_ℤ (pos 100000001) → balanced n ≡ false
unfolding balanced
too_low n h = let t : le_z (neg_ℤ (pos 100000001)) n ≡ false = omega (arith, ints) in rw t

pub too_high : (n : ℤ) → pos 100000001 <ℤ n → balanced n ≡ false
unfolding balanced
too_high n h = let t : le_z n (pos 100000001) ≡ false = omega (arith, ints) in rw t (and_false (le_z (neg_ℤ (pos 100000001)) n))

pub in_range : (n : ℤ) → neg_ℤ (pos 100000001) ≤ℤ n → n ≤ℤ pos 100000001 → balanced n ≡ true
unfolding balanced
in_range n a b =
    let t : le_z (neg_ℤ (pos 100000001)) n ≡ true = omega (arith, ints) in
    let s : le_z n (pos 100000001) ≡ true = omega (arith, ints) in
    rw (t, s)

pub read_balanced : (n : ℤ) → balanced n ≡ true → (neg_ℤ (pos 100000001) ≤ℤ n) × (n ≤ℤ pos 100000001)
unfolding balanced
read_balanced n e =
    let b = both (le_z (neg_ℤ (pos 100000001)) n) (le_z n (pos 100000001)) e in
    (omega (arith, ints, b.0), omega (arith, ints, b.1))

-- ---- the limits of a moment, by its day and its nanosecond of the day

module _ (n : ℤ) (ns : ℕ) where
  abbrev moment : ℤ
  moment = pos ns_per_day *ℤ n +ℤ pos ns

  pub limits_in : neg_ℤ (pos ns_limit) <ℤ moment → moment <ℤ pos ns_limit → moment_within_limits n ns ≡ true
  unfolding ns_within_limits
  limits_in a b =
      let t : lt_z (neg_ℤ (pos ns_limit)) moment ≡ true = omega (arith, ints) in
      let s : lt_z moment (pos ns_limit) ≡ true = omega (arith, ints) in
      rw (t, s)

  module _ (small : ns < ns_per_day) where
    pub limits_low : n <ℤ neg_ℤ (pos 100000001) → moment_within_limits n ns ≡ false
    unfolding ns_within_limits
    limits_low h =
        let t : lt_z (neg_ℤ (pos ns_limit)) moment ≡ false = omega (arith, ints, read_times ns_per_day n, read_add (pos ns_per_day *ℤ n) (pos ns)) in
        rw t

    pub limits_high : pos 100000000 <ℤ n → moment_within_limits n ns ≡ false
    unfolding ns_within_limits
    limits_high h =
        let t : lt_z moment (pos ns_limit) ≡ false = omega (arith, ints, read_times ns_per_day n, read_add (pos ns_per_day *ℤ n) (pos ns)) in
        rw t (and_false (lt_z (neg_ℤ (pos ns_limit)) moment))

    pub limits_days : moment_within_limits n ns ≡ true → (neg_ℤ (pos 100000001) ≤ℤ n) × (n ≤ℤ pos 100000000)
    unfolding ns_within_limits
    limits_days e =
        let b = both (lt_z (neg_ℤ (pos ns_limit)) moment) (lt_z moment (pos ns_limit)) e in
        let t = read_times ns_per_day n in
        let s = read_add (pos ns_per_day *ℤ n) (pos ns) in
        (omega (arith, ints, b.0), omega (arith, ints, b.1))

-- the date limits are days -100,000,001 to 100,000,000, though noon is what the definition tests
pub noon_in : (n : ℤ) → neg_ℤ (pos 100000001) ≤ℤ n → n ≤ℤ pos 100000000 → moment_within_limits n noon ≡ true
noon_in n a b =
    let t = read_times ns_per_day n in
    let s = read_add (pos ns_per_day *ℤ n) (pos noon) in
    limits_in n noon (omega (arith, ints)) (omega (arith, ints))

-- ---- valid fields

a_month : (m : ℕ) → (ltb m 1 || ltb 12 m) ≡ false → (1 ≤ m) × (m ≤ 12)
a_month m e = let g = neither (ltb m 1) (ltb 12 m) e in (ltb-false m 1 g.0, ltb-false 12 m g.1)

module _ (y : ℤ) (m d : ℕ) where
  pub in_year : ((ltb m 1 || ltb 12 m) || ltb d 1) ≡ false → (1 ≤ m) × (m ≤ 12)
  in_year e = a_month m (neither (ltb m 1 || ltb 12 m) (ltb d 1) e).0

-- ---- date to day, and day to date

module _ (d : IsoDate) where
  pub day_bad : is_valid_iso_date d ≡ false → refused 1 ≡ date_to_day d
  unfolding date_to_day
  day_bad e = rw e

  pub day_far : is_valid_iso_date d ≡ true → balanced (epoch_days d) ≡ false → refused 4 ≡ date_to_day d
  unfolding date_to_day
  day_far e f = rw (e, f)

  pub day_given : is_valid_iso_date d ≡ true → balanced (epoch_days d) ≡ true → given (epoch_days d) ≡ date_to_day d
  unfolding date_to_day
  day_given e f = rw (e, f)

module _ (n : ℤ) where
  pub date_far : balanced n ≡ false → refused 4 ≡ day_to_date n
  unfolding day_to_date
  date_far e = rw e

  pub date_given : (d : IsoDate) → balanced n ≡ true → d ≡ epoch_days_to_iso_date n → given d ≡ day_to_date n
  unfolding day_to_date
  date_given d e f = rw (e, f)

-- a month has a day
pub length_positive : (y : ℤ) (m : ℕ) → 1 ≤ m → m ≤ 12 → 1 ≤ iso_days_in_month y m
unfolding iso_days_in_month
length_positive y m a b = length_least (leap_year y) (m - 1) (omega arith)

-- ---- regulating, the limits, making

pub constrained_valid : (y : ℤ) (m d r s : ℕ) → r ≡ clamp_to 12 m → 1 ≤ r → r ≤ 12 → s ≡ clamp_to (iso_days_in_month y r) d → 1 ≤ s → s ≤ iso_days_in_month y r →
    (date y r s ≡ constrain_iso_date (date y m d)) × (is_valid_iso_date (date y r s) ≡ true)
unfolding constrain_iso_date
constrained_valid y m d r s e a b f g h =
    (rw (f, e), show_valid y r s (record { month_low = a; month_high = b; day_low = g; day_high = h }))

-- the same where the code clamps
pub constrained_is : (y : ℤ) (m d r l s : ℕ) → r ≡ max 1 (min m 12) → l ≡ iso_days_in_month y r → s ≡ max 1 (min d l) →
    (date y r s ≡ constrain_iso_date (date y m d)) × (is_valid_iso_date (date y r s) ≡ true)
constrained_is y m d r l s e f g =
    let some : 1 ≤ l = rw f (length_positive y r (omega arith) (omega arith)) in
    let b : s ≡ clamp_to l d = omega arith in
    constrained_valid y m d r s (omega arith) (omega arith) (omega arith) (rw f at b) (omega arith) (rw (← f) (omega arith))

module _ (d : IsoDate) where
  pub limits_bad : is_valid_iso_date d ≡ false → refused 1 ≡ date_limits d
  unfolding date_limits
  limits_bad e = rw e

  pub limits_out : is_valid_iso_date d ≡ true → iso_date_within_limits d ≡ false → refused 2 ≡ date_limits d
  unfolding date_limits
  limits_out e f = rw (e, f)

  pub limits_within : is_valid_iso_date d ≡ true → iso_date_within_limits d ≡ true → given tt ≡ date_limits d
  unfolding date_limits
  limits_within e f = rw (e, f)

-- ---- what the code's naturals say of the definitions

pub length_of_year : (y : ℤ) (u m r : ℕ) (leap : Bool) → y ≡ u ⊖ year_bias → leap ≡ leap_year (u ⊖ year_bias) →
    r ≡ get_or (month_lengths leap) (m - 1) 0 → r ≡ iso_days_in_month y m
unfolding iso_days_in_month
length_of_year y u m r leap e f g = rw (e, ← f, g)

pub length_of_month : (y : ℤ) (u m i r : ℕ) → y ≡ u ⊖ year_bias → i + 1 ≡ m → 1 ≤ m → m ≤ 12 →
    r ≡ get_or (month_lengths (leap_year (u ⊖ year_bias))) i 0 → (r ≡ iso_days_in_month y m) × (1 ≤ r)
unfolding iso_days_in_month
length_of_month y u m i r e f a b g =
    let k : m - 1 ≡ i = omega arith in
    let h : i < 12 = omega arith in
    (rw (e, k) g, rw g (length_least (leap_year (u ⊖ year_bias)) i h))

-- the day number of a valid date, from the natural of the first day of its month
pub day_of_date : (y : ℤ) (m d u n : ℕ) → Valid y m d → y ≡ u ⊖ year_bias → n ⊖ day_bias ≡ day_from_month (u ⊖ year_bias) (m - 1) →
    epoch_days (date y m d) ≡ (n + d - 1) ⊖ day_bias
day_of_date y m d u n v e f =
    plain_month y m (pos d) v.month_low v.month_high ∙ go ∙
    ⊖-same (n + d + 0) (day_bias + 0 + 1) (n + d - 1) day_bias (omega (arith, v.day_low))
  where
    go : day_from_month y (m - 1) +ℤ pos d -ℤ pos 1 ≡ (n + d + 0) ⊖ (day_bias + 0 + 1)
    go = rw (e, ← f) (simp whole (omega arith))

-- the same where the code puts a valid date's fields together
pub day_of_valid : (d : IsoDate) (u n : ℕ) → is_valid_iso_date d ≡ true → d.year ≡ u ⊖ year_bias →
    n ⊖ day_bias ≡ day_from_month (u ⊖ year_bias) (d.month - 1) → epoch_days d ≡ (n + d.day - 1) ⊖ day_bias
day_of_valid d u n v e f = day_of_date d.year d.month d.day u n (read_valid d.year d.month d.day v) e f

pub lowered_small : (z : ℤ) (n k : ℕ) → z ≡ n ⊖ day_bias → n < k → day_bias < k → nat_abs z < k
lowered_small z n k e h l = omega (arith, ints, size_of z, range_of z, read_diff n day_bias)

pub lowered_day : (d : IsoDate) (z : ℤ) (n : ℕ) → epoch_days d ≡ n ⊖ day_bias → n < 2 ^ 51 → z ≡ n ⊖ day_bias →
    (z ≡ epoch_days d) × (nat_abs z < 2 ^ 51)
lowered_day d z n e h f = (f ∙ sym e, lowered_small z n (2 ^ 51) f h (omega arith))

-- a day number below 2^51 has room for weeks and days
module _ (weeks days : ℤ) (few : (nat_abs weeks < 2 ^ 32) × (nat_abs days < 2 ^ 38)) where
  pub weeks_fit : SFits w64 (pos 7 *ℤ weeks)
  weeks_fit = omega (arith, ints, read_times 7 weeks, size_of weeks, range_of (pos 7 *ℤ weeks))

  pub days_fit : SFits w64 (days +ℤ pos 7 *ℤ weeks)
  days_fit =
      omega (arith, ints, read_times 7 weeks, size_of weeks, size_of days, read_add days (pos 7 *ℤ weeks), range_of (days +ℤ pos 7 *ℤ weeks))

  pub moved_fits : (n : ℤ) → nat_abs n < 2 ^ 51 → SFits w64 (n +ℤ (days +ℤ pos 7 *ℤ weeks))
  moved_fits n small =
      let more : ℤ = days +ℤ pos 7 *ℤ weeks in
      omega (
        arith,
        ints,
        read_times 7 weeks,
        size_of weeks,
        size_of days,
        size_of n,
        read_add days (pos 7 *ℤ weeks),
        read_add n more,
        range_of (n +ℤ more),
      )

-- the first day of a month of any number, from the code's naturals
pub first_is : (y m first : ℤ) (year index n : ℕ) → year ⊖ year_bias ≡ balanced_year y m → index + 1 ≡ balanced_month m →
    n ⊖ day_bias ≡ day_from_month (year ⊖ year_bias) index → first ≡ n ⊖ day_bias →
    first ≡ day_from_month (balanced_year y m) (fmod (m -ℤ pos 1) 12)
first_is y m first year index n e f g h =
    let i : fmod (m -ℤ pos 1) 12 ≡ index = omega arith in
    rw (← e, i) (h ∙ g)

-- a number that has no room in 64 bits is past the balanced range
no_room : (z : ℤ) → (SFits w64 z → ⊥) → balanced z ≡ false
no_room (pos n) h =
    ⊎_elim (λ l. absurd (h (record { sfits = l }))) (λ l. too_high (pos n) (omega (arith, ints))) (split n (2 ^ 63))
no_room (negsuc n) h =
    ⊎_elim (λ l. absurd (h (record { sfits = l }))) (λ l. too_low (negsuc n) (omega (arith, ints))) (split n (2 ^ 63))

-- the exact count that balancing goes by: the day, and what lies before it, the first day of the month and the carry less 1
module _ (y m first day carry : ℤ) (is : first ≡ day_from_month (balanced_year y m) (fmod (m -ℤ pos 1) 12)) where
  abbrev count : ℤ
  count = day +ℤ (first +ℤ (carry -ℤ pos 1))

  count_is : iso_date_to_epoch_days y (m -ℤ pos 1) (day +ℤ carry) ≡ count
  unfolding iso_date_to_epoch_days
  count_is =
      let a = read_add day carry in
      let b = read_add first (day +ℤ carry) in
      let c = read_add (first +ℤ (day +ℤ carry)) (neg_ℤ (pos 1)) in
      let d = read_add carry (neg_ℤ (pos 1)) in
      let e = read_add first (carry -ℤ pos 1) in
      let f = read_add day (first +ℤ (carry -ℤ pos 1)) in
      rw (← is) (omega (arith, ints))

  pub count_given : day_to_date count ≡ balance_date y m (day +ℤ carry)
  unfolding balance_date
  count_given = ap day_to_date (sym count_is)

  pub count_far : (SFits w64 count → ⊥) → refused 4 ≡ balance_date y m (day +ℤ carry)
  unfolding balance_date
  count_far h = rw count_is (date_far count (no_room count h))

-- what lies before the day has room in 64 bits
pub before_fits : (first carry : ℤ) (n : ℕ) → first ≡ n ⊖ day_bias → n < 2 ^ 50 → nat_abs carry < 2 ^ 52 →
    SFits w64 (carry -ℤ pos 1) × SFits w64 (first +ℤ (carry -ℤ pos 1))
before_fits first carry n e h few =
    let less : ℤ = carry -ℤ pos 1 in
    let a = read_add carry (neg_ℤ (pos 1)) in
    let b = read_add first less in
    let d = read_diff n day_bias in (
      record { sfits = omega (arith, ints, size_of carry, range_of less) },
      record { sfits = omega (arith, ints, size_of carry, range_of (first +ℤ less)) },
    )

-- ---- what the last test of the code decides

pub limits_decide : (n : ℤ) → (le_z (neg_ℤ (pos 100000001)) n && le_z n (pos 100000000)) ≡ moment_within_limits n noon
limits_decide n =
    alike _ (moment_within_limits n noon)
    (λ e. let b = both (le_z (neg_ℤ (pos 100000001)) n) (le_z n (pos 100000000)) e in noon_in n (omega (arith, ints, b.0)) (omega (arith, ints, b.1)))
    (λ e. go (le_z (neg_ℤ (pos 100000001)) n) refl e)
  where
    go : (t : Bool) → le_z (neg_ℤ (pos 100000001)) n ≡ t → (le_z (neg_ℤ (pos 100000001)) n && le_z n (pos 100000000)) ≡ false → moment_within_limits n noon ≡ false
    go true e f = let g : le_z n (pos 100000000) ≡ false = rw e at f in limits_high n noon (omega arith) (omega (arith, ints))
    go false e f = limits_low n noon (omega arith) (omega (arith, ints))

-- ---- a regulated date is valid, so that its limits alone decide whether it is made

pub constrain_valid : (d : IsoDate) → is_valid_iso_date (constrain_iso_date d) ≡ true
unfolding constrain_iso_date
constrain_valid d =
    let m : ℕ = clamp_to 12 d.month in
    let low : 1 ≤ m = omega arith in
    let high : m ≤ 12 = omega arith in
    let some = length_positive d.year m low high in
    show_valid d.year m (clamp_to (iso_days_in_month d.year m) d.day)
    (record { month_low = low; month_high = high; day_low = omega arith; day_high = omega arith })

pub regulated_valid : (d e : IsoDate) (o : Overflow) → given e ≡ regulate_date d o → is_valid_iso_date e ≡ true
unfolding regulate_date
regulated_valid d e Constrain h = rw (given_inj e (constrain_iso_date d) h) (constrain_valid d)
regulated_valid d e Reject h = go (is_valid_iso_date d) refl h
  where
    go : (t : Bool) → is_valid_iso_date d ≡ t → given e ≡ check (is_valid_iso_date d) 1 (given d) → is_valid_iso_date e ≡ true
    go true v h = rw (given_inj e d (rw v at h)) v
    go false v h = never e 1 (sym (rw v at h))

-- the limits of a valid date, as the limit call answers them
limits_said : (e : IsoDate) → is_valid_iso_date e ≡ true → date_limits e ≡ check (iso_date_within_limits e) 2 (given tt)
unfolding date_limits
limits_said e v = rw v

pub make_refused : (d : IsoDate) (o : Overflow) (n : ℕ) → refused n ≡ regulate_date d o → refused n ≡ make_date d o
unfolding make_date
make_refused d o n h = rw (← h)

module _ (d e : IsoDate) (o : Overflow) where
  made : given e ≡ regulate_date d o → make_date d o ≡ check (iso_date_within_limits e) 2 (given e)
  unfolding make_date
  made h = rw (← h)

  pub make_given : given e ≡ regulate_date d o → iso_date_within_limits e ≡ true → given e ≡ make_date d o
  make_given h w = rw (made h, w)

  pub make_past : given e ≡ regulate_date d o → iso_date_within_limits e ≡ false → refused 2 ≡ make_date d o
  make_past h w = rw (made h, w)

  pub make_out : (n : ℕ) → given e ≡ regulate_date d o → refused n ≡ date_limits e → refused 2 ≡ make_date d o
  make_out n h k = go (iso_date_within_limits e) refl (k ∙ limits_said e (regulated_valid d e o h)) ∙ sym (made h)
    where
      go : (t : Bool) → iso_date_within_limits e ≡ t → refused n ≡ check (iso_date_within_limits e) 2 (given (tt {0})) →
          refused 2 ≡ check (iso_date_within_limits e) 2 (given e)
      go true w l = never {A = Unit {0}} tt n (rw w at l)
      go false w l = rw w

  -- a regulated date is valid, so what the limit test refuses it by is 2
  pub make_limited : (n : ℕ) → given e ≡ regulate_date d o → refused n ≡ date_limits e → refused n ≡ make_date d o
  make_limited n h k = go (iso_date_within_limits e) refl (k ∙ limits_said e (regulated_valid d e o h)) ∙ sym (made h)
    where
      go : (t : Bool) → iso_date_within_limits e ≡ t → refused n ≡ check (iso_date_within_limits e) 2 (given (tt {0})) →
          refused n ≡ check (iso_date_within_limits e) 2 (given e)
      go true w l = never {A = Unit {0}} tt n (rw w at l)
      go false w l = rw w (ap refused (ap number_of (rw w at l)))

  pub make_within : given e ≡ regulate_date d o → given tt ≡ date_limits e → given e ≡ make_date d o
  make_within h k = go (iso_date_within_limits e) refl (k ∙ limits_said e (regulated_valid d e o h)) ∙ sym (made h)
    where
      go : (t : Bool) → iso_date_within_limits e ≡ t → given (tt {0}) ≡ check (iso_date_within_limits e) 2 (given (tt {0})) →
          given e ≡ check (iso_date_within_limits e) 2 (given e)
      go true w l = rw w
      go false w l = never {A = Unit {0}} tt 2 (sym (rw w at l))

pub year_month_is : (y m z : ℤ) (year index : ℕ) → year ⊖ year_bias ≡ balanced_year y m → index + 1 ≡ balanced_month m →
    z ≡ clamp_z (year ⊖ year_bias) (neg_ℤ (pos (2 ^ 31))) (pos (2 ^ 31 - 1)) → year_month z (index + 1) ≡ balance_year_month y m
unfolding balance_year_month
year_month_is y m z year index e f g = rw (g, e, f)
