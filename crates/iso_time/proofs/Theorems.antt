-- What holds of times beyond the contracts.
use Prim.Native.Nat.{ℕ, suc, ◌+◌, ◌-◌, ◌*◌, ◌/◌, ◌%◌, ◌<◌}
use native.Mathlib.Nat.{mod-lt, div-add-mod}
use native.Mathlib.Omega.{arith}
use mathlib.Core.Path.{◌≡◌, sym, ◌∙◌, ap}
use mathlib.Core.Bool.{true, false}
use lib.IntN.{ℤ, pos, negsuc, neg_ℤ, ◌+ℤ◌, ◌*ℤ◌, +ℤ_comm, -ℤ-+ℤ_cancel}
use lib.Signed.{quot_z, rem_z, ◌≤ℤ◌}
use Rattle.options.specs.Units.{ns_per_day}
use Rattle.whole.proofs.Laws.{whole, ints, size_of, range_of, read_add, read_neg, read_times}
use Rattle.options.specs.declared.Unit.{Unit as TemporalUnit}
use Rattle.rounding.specs.Proposal.{get_unsigned_rounding_mode}
use Rattle.rounding.specs.Inner.{rounded_size}
use Rattle.rounding.specs.declared.RoundingMode.{RoundingMode}
use Rattle.rounding.proofs.Rounds.{rounded_multiple, rounded_near}
use Rattle.iso_time.specs.Proposal.{is_valid_time, balance_time, nanoseconds, nanoseconds_until, in_seconds, difference_time}
use Rattle.iso_time.specs.Proposal.{quantity, unit_length, round_time, valid_increment}
use Rattle.iso_time.specs.Paper.{is_rounding_unit}
use Rattle.iso_time.specs.Claims.{exact, flat, nanoseconds_of, Parts, Near}
use Rattle.iso_time.specs.declared.IsoTime.{IsoTime}
use Rattle.iso_time.specs.declared.BalancedTime.{BalancedTime}
use Rattle.iso_time.proofs.Times.{read_valid, show_valid, below_day_lem, balance_exact, balance_valid, one_balanced}
use Rattle.iso_time.proofs.Checks.{duration, length_some}
use Rattle.iso_time.proofs.Rounding.{quantity_le, step_some, step_most, round_exact, round_valid}

-- ---- balancing is inverse to flattening

-- the exact nanoseconds of carry and time are the sum of the fields
pub balance_keeps : (h m s ms us ns : ℤ) → exact (balance_time h m s ms us ns) ≡ flat h m s ms us ns
balance_keeps = balance_exact

pub balance_is_valid : (h m s ms us ns : ℤ) → is_valid_time (balance_time h m s ms us ns).time ≡ true
balance_is_valid h m s ms us ns = show_valid (balance_time h m s ms us ns).time (balance_valid h m s ms us ns)

-- and no other carry with a valid time has them
pub balance_is_one : (h m s ms us ns : ℤ) (b : BalancedTime) → is_valid_time b.time ≡ true → exact b ≡ flat h m s ms us ns → b ≡ balance_time h m s ms us ns
balance_is_one h m s ms us ns b v e =
    one_balanced b (balance_time h m s ms us ns) (read_valid b.time v) (balance_valid h m s ms us ns) (e ∙ sym (balance_exact h m s ms us ns))

-- ---- the difference of two times added to the first gives the second

pub cut_back : (z : ℤ) → pos 1000000000 *ℤ quot_z z (pos 1000000000) +ℤ rem_z z (pos 1000000000) ≡ z
cut_back (pos n) = ap pos (omega (arith, div-add-mod n 1000000000))
cut_back (negsuc n) = simp whole (omega (arith, div-add-mod (suc n) 1000000000))

pub difference_adds_back : (one two : IsoTime) → pos (nanoseconds one) +ℤ nanoseconds_of (difference_time one two) ≡ pos (nanoseconds two)
unfolding difference_time
difference_adds_back one two =
    ap (λ (z : ℤ). pos (nanoseconds one) +ℤ z) (cut_back (nanoseconds_until one two)) ∙
    +ℤ_comm (pos (nanoseconds one)) (nanoseconds_until one two) ∙
    -ℤ-+ℤ_cancel (pos (nanoseconds two)) (pos (nanoseconds one))

-- ---- its nanoseconds are below a second in size, and its parts have no opposed signs

parts_forward : (q r : ℕ) → r < 1000000000 → Parts (duration (pos q) (pos r))
parts_forward q r h =
    record { forward = true; seconds_along = omega (arith, ints); nanoseconds_along = omega (arith, ints); below_a_second = h }

parts_back : (q r : ℕ) → r < 1000000000 → Parts (duration (neg_ℤ (pos q)) (neg_ℤ (pos r)))
parts_back q r h =
    record {
      forward = false;
      seconds_along = omega (arith, ints, read_neg (pos q));
      nanoseconds_along = omega (arith, ints, read_neg (pos r));
      below_a_second = omega (arith, read_neg (pos r), size_of (neg_ℤ (pos r)), range_of (neg_ℤ (pos r)));
    }

pub parts_in_seconds : (z : ℤ) → Parts (in_seconds z)
parts_in_seconds (pos n) = parts_forward (n / 1000000000) (n % 1000000000) (mod-lt n (omega arith))
parts_in_seconds (negsuc n) = parts_back (suc n / 1000000000) (suc n % 1000000000) (mod-lt (suc n) (omega arith))

pub difference_parts : (one two : IsoTime) → Parts (difference_time one two)
unfolding difference_time
difference_parts one two = parts_in_seconds (nanoseconds_until one two)

-- ---- a rounded time is a multiple of the step within the field, and nearer than one step

pub rounded_time_is_near : (t : IsoTime) (unit : TemporalUnit) (inc : ℕ) (mode : RoundingMode) → is_valid_time t ≡ true → is_rounding_unit unit ≡ true →
    valid_increment unit inc ≡ true → Near t unit (inc * unit_length unit) (round_time t inc unit mode)
rounded_time_is_near t unit inc mode v usable ok =
    let some = length_some unit usable in
    let q : ℕ = quantity unit t in
    let step : ℕ = inc * unit_length unit in
    let p : 0 < step = step_some unit inc some ok in
    let m = rounded_multiple q step (get_unsigned_rounding_mode mode false) p in
    let n = rounded_near q step (get_unsigned_rounding_mode mode false) p in
    record {
      rounded = rounded_size q step (get_unsigned_rounding_mode mode false);
      larger_kept = round_exact t unit inc mode some ok;
      times = m.0;
      multiple = m.1;
      not_far_above = n.0;
      not_far_below = n.1;
    }

-- ---- a rounded time is a time of the day or of the next

pub rounded_time_is_a_time : (t : IsoTime) (unit : TemporalUnit) (inc : ℕ) (mode : RoundingMode) → is_valid_time t ≡ true → is_rounding_unit unit ≡ true →
    valid_increment unit inc ≡ true → (is_valid_time (round_time t inc unit mode).time ≡ true) ×
    ((pos 0 ≤ℤ (round_time t inc unit mode).days) × ((round_time t inc unit mode).days ≤ℤ pos 1))
rounded_time_is_a_time t unit inc mode v usable ok =
    let some = length_some unit usable in
    let n = rounded_time_is_near t unit inc mode v usable ok in
    let w = round_valid t unit inc mode some ok in
    let b : BalancedTime = round_time t inc unit mode in
    let few : nanoseconds t - quantity unit t + n.rounded < ns_per_day + ns_per_day =
    omega (arith, quantity_le unit t (read_valid t v) some, below_day_lem t (read_valid t v), step_most unit inc some ok, n.not_far_above) in
    (show_valid b.time w, days b.days (nanoseconds b.time) _ (below_day_lem b.time w) few n.larger_kept)
  where
    days : (d : ℤ) (k n : ℕ) → k < ns_per_day → n < ns_per_day + ns_per_day → pos ns_per_day *ℤ d +ℤ pos k ≡ pos n → (pos 0 ≤ℤ d) × (d ≤ℤ pos 1)
    days d k n h l e =
        let m = read_times ns_per_day d in
        let a = read_add (pos ns_per_day *ℤ d) (pos k) in
        (omega (arith, ints), omega (arith, ints))
