-- Instants and offsets: what their tests say, the record of an instant at an offset, and that it always lies within the limits.
use Prim.Native.Nat.{ℕ, ◌+◌, ◌-◌, ◌/◌, ◌%◌, ◌^◌, ◌≤◌, ◌<◌}
use native.Mathlib.Omega.{arith}
use mathlib.Core.Path.{◌≡◌, refl, sym, ◌∙◌, ap}
use mathlib.Core.Bool.{Bool, true, false, ◌&&◌, ◌||◌}
use borrow.Author.Tests.{ltb-true}
use lib.IntN.{ℤ, pos, neg_ℤ, nat_abs, ◌+ℤ◌, ◌-ℤ◌, ◌*ℤ◌}
use lib.Signed.{lt_z, le_z, ◌≤ℤ◌, ◌<ℤ◌}
use Rattle.options.specs.Units.{ns_per_day}
use Rattle.whole.specs.Whole.{◌⊖◌}
use Rattle.whole.proofs.Laws.{parts, whole, ints, size_of, range_of, read_add, read_diff, read_times}
use Rattle.whole.proofs.Edges.{nat_of, raise_room}
use Rattle.whole.proofs.Tests.{both, one_of, together}
use Rattle.refusal.specs.Answer.{given, refused}
use Rattle.iso_date.specs.Proposal.{epoch_days, epoch_days_to_iso_date, iso_date_to_epoch_days, day_from_month, is_valid_iso_date, ns_limit}
use Rattle.iso_date.specs.Inner.{day_bias}
use Rattle.iso_date.specs.declared.IsoDate.{IsoDate}
use Rattle.iso_date.proofs.Answers.{limits_in}
use Rattle.iso_date.proofs.Dates.{back_valid, back_and_there}
use Rattle.iso_time.specs.Proposal.{balanced, balance_time, nanoseconds, is_valid_time}
use Rattle.iso_time.specs.declared.IsoTime.{IsoTime}
use Rattle.iso_time.specs.declared.BalancedTime.{BalancedTime}
use Rattle.iso_time.specs.Claims.{exact, flat}
use Rattle.iso_time.proofs.Times.{time_at, time_at_is}
use Rattle.iso_time.proofs.Theorems.{balance_keeps, balance_is_valid, balance_is_one}
use Rattle.iso_date_time.specs.Proposal.{date_time, epoch_nanoseconds, iso_date_time_within_limits, balance_iso_date_time, get_iso_parts_from_epoch, with_offset}
use Rattle.iso_date_time.specs.Paper.{date_time_limits, is_instant, is_offset, from_instant}
use Rattle.iso_date_time.specs.declared.IsoDateTime.{IsoDateTime}

-- ---- an offset

offset_small : (z : ℤ) → is_offset z ≡ true → nat_abs z < ns_per_day
unfolding is_offset
offset_small z e = ltb-true (nat_abs z) ns_per_day e

pub offset_room : (z : ℤ) → is_offset z ≡ true → (ns_per_day < 2 ^ 63) × (((0 ⊖ ns_per_day) ≤ℤ z) × (z <ℤ ((2 ^ 63) ⊖ ns_per_day)))
offset_room z e = raise_room z ns_per_day (offset_small z e) (omega arith)

-- ---- an instant

pub record Instant (day ns : ℤ) : Type 0 where
  pub ns_low : pos 0 ≤ℤ ns
  pub ns_high : ns <ℤ pos ns_per_day
  pub day_low : neg_ℤ (pos 100000000) ≤ℤ day
  pub day_high : day ≤ℤ pos 100000000
  pub not_past : (pos ns_per_day *ℤ day +ℤ ns) ≤ℤ (pos ns_per_day *ℤ pos 100000000)

pub read_instant : (day ns : ℤ) → is_instant day ns ≡ true → Instant day ns
unfolding is_instant
read_instant day ns e =
    let f = both _ _ e in
    let a = both _ _ f.0 in
    let b = both _ _ f.1 in
    let low : le_z (pos 0) ns ≡ true = a.0 in
    let high : lt_z ns (pos ns_per_day) ≡ true = a.1 in
    let early : le_z (neg_ℤ (pos 100000000)) day ≡ true = b.0 in
    let late : le_z (pos ns_per_day *ℤ day +ℤ ns) (pos ns_per_day *ℤ pos 100000000) ≡ true = b.1 in
    record {
      ns_low = omega (arith, ints);
      ns_high = omega (arith, ints);
      day_low = omega (arith, ints);
      day_high = omega (arith, ints, read_times ns_per_day day, read_add (pos ns_per_day *ℤ day) ns);
      not_past = omega (arith, ints);
    }

-- its nanosecond is the size of itself
pub ns_natural : (day ns : ℤ) → is_instant day ns ≡ true → (n : ℕ) → n ≡ nat_abs ns → ns ≡ pos n
ns_natural day ns e n f =
    let t = read_instant day ns e in
    omega (arith, ints, t.ns_low, nat_of ns t.ns_low, range_of ns)

-- before day 10^8 every nanosecond is an instant, on it midnight alone, after it none
pub instant_decides : (day ns : ℤ) →
    (((le_z (pos 0) ns && lt_z ns (pos ns_per_day)) && le_z (neg_ℤ (pos 100000000)) day) &&
    (lt_z day (pos 100000000) || (le_z day (pos 100000000) && le_z ns (pos 0)))) ≡ is_instant day ns
unfolding is_instant
instant_decides day ns = together _ (is_instant day ns) there back
  where
    not_late : Bool
    not_late = lt_z day (pos 100000000) || (le_z day (pos 100000000) && le_z ns (pos 0))

    there : (((le_z (pos 0) ns && lt_z ns (pos ns_per_day)) && le_z (neg_ℤ (pos 100000000)) day) && not_late) ≡ true → is_instant day ns ≡ true
    there e =
        let f = both ((le_z (pos 0) ns && lt_z ns (pos ns_per_day)) && le_z (neg_ℤ (pos 100000000)) day) not_late e in
        let g = both (le_z (pos 0) ns && lt_z ns (pos ns_per_day)) (le_z (neg_ℤ (pos 100000000)) day) f.0 in
        let h = both (le_z (pos 0) ns) (lt_z ns (pos ns_per_day)) g.0 in
        let t = read_times ns_per_day day in
        let s = read_add (pos ns_per_day *ℤ day) ns in
        let last : le_z (pos ns_per_day *ℤ day +ℤ ns) (pos ns_per_day *ℤ pos 100000000) ≡ true =
        one_of (lt_z day (pos 100000000)) (le_z day (pos 100000000) && le_z ns (pos 0)) f.1 (λ l. omega (arith, ints, h.1))
        (λ l. let m = both (le_z day (pos 100000000)) (le_z ns (pos 0)) l in omega (arith, ints, m.0, m.1)) in
        rw (h.0, h.1, g.1, last)

    back : is_instant day ns ≡ true → (((le_z (pos 0) ns && lt_z ns (pos ns_per_day)) && le_z (neg_ℤ (pos 100000000)) day) && not_late) ≡ true
    back e =
        let i = read_instant day ns e in
        let a : le_z (pos 0) ns ≡ true = omega (arith, ints, i.ns_low) in
        let b : lt_z ns (pos ns_per_day) ≡ true = omega (arith, ints, i.ns_high) in
        let c : le_z (neg_ℤ (pos 100000000)) day ≡ true = omega (arith, ints, i.day_low) in
        rw (a, b, c) (go i (lt_z day (pos 100000000)) refl)
      where
        go : Instant day ns → (t : Bool) → lt_z day (pos 100000000) ≡ t → not_late ≡ true
        go i true e = rw e
        go i false e =
            let t = read_times ns_per_day day in
            let s = read_add (pos ns_per_day *ℤ day) ns in
            let a : le_z day (pos 100000000) ≡ true = omega (arith, ints, i.day_high) in
            let b : le_z ns (pos 0) ≡ true = omega (arith, ints, i.not_past) in
            rw (e, a, b)

pub day_room : (day ns : ℤ) → Instant day ns → (day_bias < 2 ^ 63) × (((0 ⊖ day_bias) ≤ℤ day) × (day <ℤ ((2 ^ 63) ⊖ day_bias)))
day_room day ns i = omega (arith, ints, i.day_low, i.day_high, read_diff 0 day_bias, read_diff (2 ^ 63) day_bias)

-- ---- as the code adds them up: day r and nanosecond a, and the offset raised by a day

pub sum_bounds : (day ns offset : ℤ) (r a b : ℕ) → is_instant day ns ≡ true → is_offset offset ≡ true →
    day ≡ r ⊖ day_bias → ns ≡ pos a → offset ≡ b ⊖ ns_per_day →
    (1 ≤ r + (a + b) / ns_per_day) × ((day_bias - 100000001 ≤ r + (a + b) / ns_per_day - 1) × (r + (a + b) / ns_per_day - 1 ≤ day_bias + 100000001))
sum_bounds day ns offset r a b i o e f g =
    let t = read_instant day ns i in
    let h = offset_small offset o in
    let raised : (day_bias ≤ r + 100000000) × (r ≤ day_bias + 100000000) = omega (arith, ints, t.day_low, t.day_high, read_diff r day_bias) in
    let small : a < ns_per_day = omega (arith, ints, t.ns_high) in
    let near : (0 < b) × (b < ns_per_day + ns_per_day) = omega (arith, ints, size_of offset, range_of offset, read_diff b ns_per_day) in
    omega (arith, raised, small, near)

-- ---- the record of an instant

-- a day count is linear in its day
days_on : (y m x q : ℤ) → iso_date_to_epoch_days y m (x +ℤ q) ≡ iso_date_to_epoch_days y m x +ℤ q
unfolding iso_date_to_epoch_days
days_on y m x q = go (day_from_month _ _)
  where
    go : (k : ℤ) → k +ℤ (x +ℤ q) -ℤ pos 1 ≡ k +ℤ x -ℤ pos 1 +ℤ q
    go k = rw (parts k, parts x, parts q) (simp whole (omega arith))

-- a time with an offset in its nanosecond, balanced
abbrev moved : IsoTime → ℤ → BalancedTime
moved t z =
    balance_time (pos t.hour) (pos t.minute) (pos t.second) (pos t.millisecond) (pos t.microsecond) (pos t.nanosecond +ℤ z)

flat_moved : (t : IsoTime) (z : ℤ) →
    flat (pos t.hour) (pos t.minute) (pos t.second) (pos t.millisecond) (pos t.microsecond) (pos t.nanosecond +ℤ z) ≡
    pos (nanoseconds t) +ℤ z
unfolding nanoseconds
flat_moved t z = rw (parts z) (simp whole (omega arith))

with_offset_is : (d : IsoDate) (t : IsoTime) (z : ℤ) →
    with_offset (date_time d t) z ≡ date_time (epoch_days_to_iso_date (epoch_days d +ℤ (moved t z).days)) (moved t z).time
unfolding balance_iso_date_time
with_offset_is d t z =
    ap (λ (n : ℤ). date_time (epoch_days_to_iso_date n) (moved t z).time) (days_on d.year (pos d.month -ℤ pos 1) (pos d.day) (moved t z).days)

parts_are : (day : ℤ) (a : ℕ) → a < ns_per_day → get_iso_parts_from_epoch day a ≡ date_time (epoch_days_to_iso_date day) (time_at a)
unfolding get_iso_parts_from_epoch
parts_are day a h =
    let t = time_at_is a h in
    let same : exact (balanced (pos 0) (time_at a)) ≡ flat (pos 0) (pos 0) (pos 0) (pos 0) (pos 0) (pos a) = rw t.0 in
    ap (λ (b : BalancedTime). date_time (epoch_days_to_iso_date day) b.time)
    (sym (balance_is_one (pos 0) (pos 0) (pos 0) (pos 0) (pos 0) (pos a) (balanced (pos 0) (time_at a)) t.1 same))

module _ (day : ℤ) (a : ℕ) (z : ℤ) (h : a < ns_per_day) where
  record_is : with_offset (get_iso_parts_from_epoch day a) z ≡
      date_time (epoch_days_to_iso_date (day +ℤ (moved (time_at a) z).days)) (moved (time_at a) z).time
  record_is =
      ap (λ (r : IsoDateTime). with_offset r z) (parts_are day a h) ∙ with_offset_is (epoch_days_to_iso_date day) (time_at a) z ∙
      ap (λ (n : ℤ). date_time (epoch_days_to_iso_date (n +ℤ (moved (time_at a) z).days)) (moved (time_at a) z).time) (back_and_there day)

  flat_is : flat (pos (time_at a).hour) (pos (time_at a).minute) (pos (time_at a).second) (pos (time_at a).millisecond) (pos (time_at a).microsecond)
      (pos (time_at a).nanosecond +ℤ z) ≡ pos a +ℤ z
  flat_is = flat_moved (time_at a) z ∙ ap (λ (n : ℕ). pos n +ℤ z) (time_at_is a h).0

  -- the fields of the record are valid
  pub fields_valid : (is_valid_iso_date (with_offset (get_iso_parts_from_epoch day a) z).date ≡ true) ×
      (is_valid_time (with_offset (get_iso_parts_from_epoch day a) z).time ≡ true)
  fields_valid = rw record_is (back_valid (day +ℤ (moved (time_at a) z).days), balance_is_valid _ _ _ _ _ _)

  -- and its exact nanoseconds are those of the instant with the offset added
  pub offset_exact : epoch_nanoseconds (with_offset (get_iso_parts_from_epoch day a) z) ≡ pos ns_per_day *ℤ day +ℤ (pos a +ℤ z)
  unfolding epoch_nanoseconds
  offset_exact =
      let b : BalancedTime = moved (time_at a) z in
      rw record_is
      (rw (back_and_there (day +ℤ b.days))
      (go b.days (nanoseconds b.time) ∙ ap (λ (n : ℤ). pos ns_per_day *ℤ day +ℤ n) (balance_keeps _ _ _ _ _ _ ∙ flat_is)))
    where
      go : (q : ℤ) (k : ℕ) → pos ns_per_day *ℤ (day +ℤ q) +ℤ pos k ≡ pos ns_per_day *ℤ day +ℤ (pos ns_per_day *ℤ q +ℤ pos k)
      go q k = rw (parts day, parts q) (simp whole (omega arith))

-- the code's naturals give it: the carry is that of the sum, and the time is that at what is left of it
pub instant_is : (day ns offset : ℤ) (r a b : ℕ) (d : IsoDate) (t : IsoTime) → is_instant day ns ≡ true → is_offset offset ≡ true →
    day ≡ r ⊖ day_bias → ns ≡ pos a → offset ≡ b ⊖ ns_per_day →
    d ≡ epoch_days_to_iso_date ((r + (a + b) / ns_per_day - 1) ⊖ day_bias) → nanoseconds t ≡ (a + b) % ns_per_day → is_valid_time t ≡ true →
    date_time d t ≡ with_offset (get_iso_parts_from_epoch day (nat_abs ns)) offset
instant_is day ns offset r a b d t i o e f g x y v =
    let small : a < ns_per_day = omega (arith, ints, (read_instant day ns i).ns_high) in
    let some = (sum_bounds day ns offset r a b i o e f g).0 in
    let q : ℤ = ((a + b) / ns_per_day) ⊖ 1 in
    let count : (r + (a + b) / ns_per_day - 1) ⊖ day_bias ≡ day +ℤ q =
    omega (arith, ints, some, read_diff r day_bias, read_diff ((a + b) / ns_per_day) 1, read_add day q, read_diff (r + (a + b) / ns_per_day - 1) day_bias) in
    let sum : exact (balanced q t) ≡ pos a +ℤ offset = rw (y, g) (simp whole (omega arith)) in
    let same : balanced q t ≡ moved (time_at a) offset =
    balance_is_one _ _ _ _ _ _ (balanced q t) v (sum ∙ sym (flat_is day a offset small)) in
    rw f
    (ap (λ (c : IsoDate). date_time c t) (x ∙ ap epoch_days_to_iso_date count) ∙
    ap (λ (c : BalancedTime). date_time (epoch_days_to_iso_date (day +ℤ c.days)) c.time) same ∙ sym (record_is day a offset small))

-- ---- the call's answers

module _ (day ns offset : ℤ) where
  pub no_instant : is_instant day ns ≡ false → refused 7 ≡ from_instant day ns offset
  unfolding from_instant
  no_instant i = rw i

  pub no_offset : is_instant day ns ≡ true → is_offset offset ≡ false → refused 7 ≡ from_instant day ns offset
  unfolding from_instant
  no_offset i o = rw (i, o)

  pub instant_given : (r : IsoDateTime) → is_instant day ns ≡ true → is_offset offset ≡ true →
      r ≡ with_offset (get_iso_parts_from_epoch day (nat_abs ns)) offset → given r ≡ from_instant day ns offset
  unfolding from_instant
  instant_given r i o e = rw (i, o, e)

-- ---- from an instant the record is always within the limits

exact_within : (r : IsoDateTime) → neg_ℤ (pos ns_limit) <ℤ epoch_nanoseconds r → epoch_nanoseconds r <ℤ pos ns_limit → iso_date_time_within_limits r ≡ true
unfolding epoch_nanoseconds
exact_within r a b = limits_in (epoch_days r.date) (nanoseconds r.time) a b

module _ (day ns offset : ℤ) (i : is_instant day ns ≡ true) (o : is_offset offset ≡ true) where
  abbrev the_record : IsoDateTime
  the_record = with_offset (get_iso_parts_from_epoch day (nat_abs ns)) offset

  small : nat_abs ns < ns_per_day
  small =
      let t = read_instant day ns i in
      omega (arith, ints, t.ns_low, t.ns_high, nat_of ns t.ns_low, range_of ns)

  pub instant_valid : (is_valid_iso_date the_record.date ≡ true) × (is_valid_time the_record.time ≡ true)
  instant_valid = fields_valid day (nat_abs ns) offset small

  pub instant_exact : epoch_nanoseconds the_record ≡ pos ns_per_day *ℤ day +ℤ (ns +ℤ offset)
  instant_exact =
      let t = read_instant day ns i in
      let e : pos (nat_abs ns) ≡ ns = omega (arith, ints, t.ns_low, nat_of ns t.ns_low, range_of ns) in
      offset_exact day (nat_abs ns) offset small ∙ ap (λ (z : ℤ). pos ns_per_day *ℤ day +ℤ (z +ℤ offset)) e

  between : (z : ℤ) → z ≡ pos ns_per_day *ℤ day +ℤ (ns +ℤ offset) → (neg_ℤ (pos ns_limit) <ℤ z) × (z <ℤ pos ns_limit)
  between z e =
      let t = read_instant day ns i in
      let h = offset_small offset o in
      omega (
        arith,
        ints,
        t.ns_low,
        t.day_low,
        t.not_past,
        size_of offset,
        range_of offset,
        read_times ns_per_day day,
        read_add ns offset,
        read_add (pos ns_per_day *ℤ day) ns,
        read_add (pos ns_per_day *ℤ day) (ns +ℤ offset),
      )

  pub instant_within : iso_date_time_within_limits the_record ≡ true
  instant_within = let b = between (epoch_nanoseconds the_record) instant_exact in exact_within the_record b.0 b.1

  -- so the call that checks a record accepts it
  pub instant_stands : date_time_limits the_record ≡ given tt
  unfolding date_time_limits
  instant_stands = rw (instant_valid.0, instant_valid.1, instant_within)
