-- Rounding within a field, once over unit and step.
use Prim.Native.Nat.{ℕ, ◌+◌, ◌-◌, ◌*◌, ◌/◌, ◌%◌, ◌≤◌, ◌<◌}
use native.Mathlib.Nat.{lt_of_lt_of_le, mod-le, mul-div_cancel, mul_assoc, mul-pos, mul-le-mul_right, le_of_lt, le_trans}
use native.Mathlib.Omega.{arith}
use mathlib.Core.Path.{◌≡◌, refl, sym, ◌∙◌, ap}
use mathlib.Core.Bool.{Bool, true, false}
use lib.Dec.{eqb}
use borrow.Author.Tests.{eqb-true, leb-true, ltb-true}
use lib.IntN.{pos}
use Rattle.options.specs.Units.{ns_per_day}
use Rattle.whole.specs.Whole.{fdiv}
use Rattle.whole.proofs.Tests.{both}
use Rattle.options.specs.declared.Unit.{Unit as TemporalUnit}
use Rattle.options.specs.declared.Unit.TheVariants as U
use Rattle.rounding.specs.Proposal.{get_unsigned_rounding_mode}
use Rattle.rounding.specs.Inner.{rounded_size}
use Rattle.rounding.specs.declared.RoundingMode.{RoundingMode}
use Rattle.rounding.specs.declared.UnsignedRoundingMode.{UnsignedRoundingMode}
use Rattle.rounding.proofs.Rounds.{number_above, rounded_multiple}
use Rattle.iso_time.specs.Proposal.{time, is_valid_time, nanoseconds, quantity, unit_length, rounded_units, with_units, round_time, valid_increment}
use Rattle.iso_time.specs.Inner.{Carried, dividend, allowed}
use Rattle.iso_time.specs.Claims.{exact}
use Rattle.iso_time.specs.declared.inner.Scale.{Scale}
use Rattle.iso_time.specs.declared.IsoTime.{IsoTime}
use Rattle.iso_time.specs.declared.BalancedTime.{BalancedTime}
use Rattle.iso_time.proofs.Times.{Valid, read_valid, balance_exact, balance_valid, one_balanced}
use Rattle.iso_time.proofs.Checks.{row, increment_by_dividend, Scaled, allowed_is}

-- the larger fields kept and k units put in the field: so many nanoseconds, and a valid time
with_units_lem : (unit : TemporalUnit) (t : IsoTime) (k : ℕ) → 0 < unit_length unit →
    (exact (with_units unit t (pos k)) ≡ pos (nanoseconds t - quantity unit t + k * unit_length unit)) × Valid (with_units unit t (pos k)).time
unfolding unit_length quantity nanoseconds is_valid_time
with_units_lem U.Year t k h = let f : ⊥ = omega arith in absurd f
with_units_lem U.Month t k h = let f : ⊥ = omega arith in absurd f
with_units_lem U.Week t k h = let f : ⊥ = omega arith in absurd f
with_units_lem U.Day t k h = (ap pos (omega arith), read_valid (time 0 0 0 0 0 0) refl)
with_units_lem U.Hour t k h = (balance_exact _ _ _ _ _ _ ∙ ap pos (omega arith), balance_valid _ _ _ _ _ _)
with_units_lem U.Minute t k h = (balance_exact _ _ _ _ _ _ ∙ ap pos (omega arith), balance_valid _ _ _ _ _ _)
with_units_lem U.Second t k h = (balance_exact _ _ _ _ _ _ ∙ ap pos (omega arith), balance_valid _ _ _ _ _ _)
with_units_lem U.Millisecond t k h = (balance_exact _ _ _ _ _ _ ∙ ap pos (omega arith), balance_valid _ _ _ _ _ _)
with_units_lem U.Microsecond t k h = (balance_exact _ _ _ _ _ _ ∙ ap pos (omega arith), balance_valid _ _ _ _ _ _)
with_units_lem U.Nanosecond t k h = (balance_exact _ _ _ _ _ _ ∙ ap pos (omega arith), balance_valid _ _ _ _ _ _)

-- the quantity is what the next larger unit leaves
pub quantity_is : (unit : TemporalUnit) (t : IsoTime) → Valid t → 0 < unit_length unit → nanoseconds t % (dividend unit * unit_length unit) ≡ quantity unit t
unfolding unit_length dividend quantity nanoseconds
quantity_is U.Year t v h = let f : ⊥ = omega arith in absurd f
quantity_is U.Month t v h = let f : ⊥ = omega arith in absurd f
quantity_is U.Week t v h = let f : ⊥ = omega arith in absurd f
quantity_is U.Day t v h = omega arith
quantity_is U.Hour t v h = omega arith
quantity_is U.Minute t v h = omega arith
quantity_is U.Second t v h = omega arith
quantity_is U.Millisecond t v h = omega arith
quantity_is U.Microsecond t v h = omega arith
quantity_is U.Nanosecond t v h = omega arith

pub quantity_le : (unit : TemporalUnit) (t : IsoTime) → Valid t → 0 < unit_length unit → quantity unit t ≤ nanoseconds t
quantity_le unit t v h = rw (← quantity_is unit t v h) (mod-le (nanoseconds t) (dividend unit * unit_length unit))

-- an increment that is allowed makes a step of at most a day
module _ (unit : TemporalUnit) (inc : ℕ) (some : 0 < unit_length unit) (ok : valid_increment unit inc ≡ true) where
  by_dividend : (t : Bool) → eqb (dividend unit) 1 ≡ t → (0 < inc) × (inc ≤ dividend unit)
  by_dividend true e =
      let i : inc ≡ 1 = eqb-true inc 1 (rw e at (sym (increment_by_dividend unit inc) ∙ ok)) in
      (omega arith, omega (arith, eqb-true (dividend unit) 1 e))
  by_dividend false e =
      let a = both _ _ (rw e at (sym (increment_by_dividend unit inc) ∙ ok)) in
      (leb-true 1 inc a.0, le_of_lt (ltb-true inc (dividend unit) (both _ _ a.1).0))

  pub step_some : 0 < inc * unit_length unit
  step_some = mul-pos (by_dividend (eqb (dividend unit) 1) refl).0 some

  pub step_most : inc * unit_length unit ≤ ns_per_day
  step_most = le_trans (mul-le-mul_right (unit_length unit) (by_dividend (eqb (dividend unit) 1) refl).1) (row unit).most

-- ---- the rounded time

multiple_of : (q inc len r : ℕ) → 0 < len → q * (inc * len) ≡ r → (r / len ≡ q * inc) × (q * inc * len ≡ r)
multiple_of q inc len r p e =
    let f : q * inc * len ≡ r = mul_assoc q inc len ∙ e in
    (rw (← f) (mul-div_cancel (q * inc) p), f)

module _ (t : IsoTime) (unit : TemporalUnit) (inc : ℕ) (mode : RoundingMode) (some : 0 < unit_length unit)
    (ok : valid_increment unit inc ≡ true) where
  abbrev step : ℕ
  step = inc * unit_length unit

  abbrev result : ℕ
  result = rounded_size (quantity unit t) step (get_unsigned_rounding_mode mode false)

  -- the rounded units are whole ones, and as nanoseconds the rounder's result
  pub units_are : (rounded_units t inc unit mode ≡ pos (result / unit_length unit)) × (result / unit_length unit * unit_length unit ≡ result)
  unfolding rounded_units fdiv
  units_are =
      let p : 0 < step = step_some unit inc some ok in
      let m = rounded_multiple (quantity unit t) step (get_unsigned_rounding_mode mode false) p in
      let w = multiple_of m.0 inc (unit_length unit) result some m.1 in
      (rw (number_above (quantity unit t) step mode p) refl, rw w.0 w.1)

  -- one law for every unit: the larger fields are kept, and the quantity rounded by the number rounder stands in place of the quantity
  pub round_exact : exact (round_time t inc unit mode) ≡ pos (nanoseconds t - quantity unit t + result)
  unfolding round_time
  round_exact =
      let u = units_are in
      rw u.0 ((with_units_lem unit t (result / unit_length unit) some).0 ∙ ap pos (rw u.1 refl))

  pub round_valid : Valid (round_time t inc unit mode).time
  unfolding round_time
  round_valid = let u = units_are in rw u.0 (with_units_lem unit t (result / unit_length unit) some).1

  pub round_is : (b : BalancedTime) (n q len r : ℕ) (rule : UnsignedRoundingMode) → n ≡ nanoseconds t → q ≡ quantity unit t → len ≡ unit_length unit →
      rule ≡ get_unsigned_rounding_mode mode false → r ≡ rounded_size q (inc * len) rule → Carried (n - q + r) b → b ≡ round_time t inc unit mode
  round_is b n q len r rule e f g h i c =
      let k : n - q + r ≡ nanoseconds t - quantity unit t + result = rw (i, e, f, g, h) refl in
      one_balanced b (round_time t inc unit mode) (read_valid b.time c.valid) round_valid (c.exactly ∙ ap pos k ∙ sym round_exact)

-- the code's way at a unit of such a scale
module _ (x : IsoTime) (unit : TemporalUnit) (s : Scale) (u : Scaled unit s) where
  pub next_some : 0 < s.dividend * s.length
  next_some = rw (u.length_is, u.dividend_is) (lt_of_lt_of_le u.some (row unit).least)

  pub next_most : s.dividend * s.length ≤ ns_per_day
  next_most = rw (u.length_is, u.dividend_is) (row unit).most

  module _ (inc : ℕ) (ok : allowed s inc ≡ true) where
    granted : valid_increment unit inc ≡ true
    granted = sym (allowed_is unit s inc u.dividend_is) ∙ ok

    pub small_step : (0 < inc * s.length) × (inc * s.length ≤ ns_per_day)
    small_step = rw u.length_is (step_some unit inc u.some granted, step_most unit inc u.some granted)

    pub scaled_round : (mode : RoundingMode) → is_valid_time x ≡ true → (b : BalancedTime) (n r : ℕ) (rule : UnsignedRoundingMode) → n ≡ nanoseconds x →
        rule ≡ get_unsigned_rounding_mode mode false → r ≡ rounded_size (n % (s.dividend * s.length)) (inc * s.length) rule →
        Carried (n - n % (s.dividend * s.length) + r) b → b ≡ round_time x inc unit mode
    scaled_round mode v b n r rule e f g c =
        let q : n % (s.dividend * s.length) ≡ quantity unit x = rw (e, u.dividend_is, u.length_is) (quantity_is unit x (read_valid x v) u.some) in
        round_is x unit inc mode u.some granted b n (n % (s.dividend * s.length)) s.length r rule e q u.length_is f g c
