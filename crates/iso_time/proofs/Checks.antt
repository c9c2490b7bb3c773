-- Checks one after another, the tables of units, and spans in seconds.
use Prim.Native.Nat.{ℕ, zero, suc, ◌*◌, ◌/◌, ◌%◌, ◌≤◌, ◌<◌}
use native.Mathlib.Omega.{arith}
use mathlib.Core.Path.{◌≡◌, refl, sym, ◌∙◌, ap}
use mathlib.Core.Bool.{Bool, true, false, cond, ◌&&◌}
use mathlib.Core.List.{[], ◌∷◌}
use borrow.Author.Tests.{leb-true, ltb-true, eqb-true, eqb-false, lt-ltb, le-ltb}
use lib.Dec.{leb, ltb, eqb, lit≤, leb-suc-zero}
use lib.IntN.{ℤ, pos, negsuc, neg_ℤ, ◌-ℤ◌}
use lib.Signed.{quot_z, rem_z, mag_rem}
use mir.Facts.{to_z_pos}
use mir.Syntax.{w64}
use mir.Val.{SFits, to_z}
use Rattle.whole.proofs.Laws.{range_of, read_add, read_neg}
use Rattle.whole.proofs.Tests.{both, and_false}
use Rattle.options.specs.declared.Unit.{Unit as TemporalUnit}
use Rattle.options.specs.declared.Unit.TheVariants as U
use Rattle.options.specs.Units.{ns_per_day}
use Rattle.std.specs.Prelude.{None, Some}
use Rattle.std.specs.List.{list_all}
use Rattle.refusal.specs.Answer.{Answer, number_of, given, refused, check}
use Rattle.refusal.proofs.Answers.{given_inj, never}
use Rattle.rounding.specs.declared.RoundingMode.{RoundingMode}
use Rattle.iso_time.specs.Proposal.{in_seconds, unit_length, validate_temporal_rounding_increment, valid_increment, is_valid_time}
use Rattle.iso_time.specs.Proposal.{balance_time, nanoseconds_until, difference_time, round_time}
use Rattle.iso_time.specs.Paper.{bounded, all_bounded, balance_time_fields, is_rounding_unit, time_difference, rounded_time}
use Rattle.iso_time.specs.Inner.{AllWithin, dividend, checked_time, row_of, scale_of, allowed}
use Rattle.iso_time.specs.declared.IsoTime.{IsoTime}
use Rattle.iso_time.specs.declared.inner.Scale.{Scale}
use Rattle.iso_time.specs.declared.TimeDuration.{TimeDuration}

-- ---- the bound of a field to be balanced

pub all_within : (h m s ms us ns : ℤ) → all_bounded h m s ms us ns ≡ true → AllWithin h m s ms us ns
unfolding all_bounded
all_within h m s ms us ns e =
    let a = both _ _ e in
    let b = both _ _ a.1 in
    let c = both _ _ b.1 in
    let d = both _ _ c.1 in
    let f = both _ _ d.1 in
    (leb-true _ _ a.0, (leb-true _ _ b.0, (leb-true _ _ c.0, (leb-true _ _ d.0, (leb-true _ _ f.0, leb-true _ _ f.1)))))

-- the code's test of all six
and_true : (a : Bool) → (a && true) ≡ a
and_true true = refl
and_true false = refl

module _ (h m s ms us ns : ℤ) where
  pub fields_are : list_all bounded (h ∷ m ∷ s ∷ ms ∷ us ∷ ns ∷ []) ≡ all_bounded h m s ms us ns
  unfolding all_bounded
  fields_are = simp and_true

  pub balance_refused : all_bounded h m s ms us ns ≡ false → refused 7 ≡ balance_time_fields h m s ms us ns
  unfolding balance_time_fields
  balance_refused e = rw e

  pub balance_given : all_bounded h m s ms us ns ≡ true → given (balance_time h m s ms us ns) ≡ balance_time_fields h m s ms us ns
  unfolding balance_time_fields
  balance_given e = rw e

-- ---- units

-- what is known of a unit that a time is rounded to
pub record Row (u : TemporalUnit) : Type 0 where
  -- those with a length are those that a time can be rounded to
  pub by_length : is_rounding_unit u ≡ ltb 0 (unit_length u)
  -- so many as make the next are one or more, and at most a day
  pub least : unit_length u ≤ dividend u * unit_length u
  pub most : dividend u * unit_length u ≤ ns_per_day

pub row : (u : TemporalUnit) → Row u
unfolding unit_length dividend
row U.Year = record { by_length = refl; least = lit≤ tt; most = lit≤ tt }
row U.Month = record { by_length = refl; least = lit≤ tt; most = lit≤ tt }
row U.Week = record { by_length = refl; least = lit≤ tt; most = lit≤ tt }
row U.Day = record { by_length = refl; least = lit≤ tt; most = lit≤ tt }
row U.Hour = record { by_length = refl; least = lit≤ tt; most = lit≤ tt }
row U.Minute = record { by_length = refl; least = lit≤ tt; most = lit≤ tt }
row U.Second = record { by_length = refl; least = lit≤ tt; most = lit≤ tt }
row U.Millisecond = record { by_length = refl; least = lit≤ tt; most = lit≤ tt }
row U.Microsecond = record { by_length = refl; least = lit≤ tt; most = lit≤ tt }
row U.Nanosecond = record { by_length = refl; least = lit≤ tt; most = lit≤ tt }

pub length_some : (unit : TemporalUnit) → is_rounding_unit unit ≡ true → 0 < unit_length unit
length_some unit e = ltb-true 0 (unit_length unit) (sym (row unit).by_length ∙ e)

-- what a unit with a scale is
pub record Scaled (u : TemporalUnit) (s : Scale) : Type 0 where
  pub usable : is_rounding_unit u ≡ true
  pub some : 0 < unit_length u
  pub length_is : s.length ≡ unit_length u
  pub dividend_is : s.dividend ≡ dividend u

pub row_scaled : (u : TemporalUnit) (s : Scale) → s ≡ row_of u → 0 < unit_length u → Scaled u s
row_scaled u s e some =
    record {
      usable = (row u).by_length ∙ lt-ltb 0 (unit_length u) some;
      some = some;
      length_is = ap (λ (x : Scale). x.length) e;
      dividend_is = ap (λ (x : Scale). x.dividend) e;
    }

no_scale_by : (u : TemporalUnit) (s : Scale) (t : Bool) → eqb (unit_length u) 0 ≡ t → cond t None (Some s) ≡ None → is_rounding_unit u ≡ false
no_scale_by u s true t e = (row u).by_length ∙ le-ltb 0 (unit_length u) (omega (arith, eqb-true (unit_length u) 0 t))
no_scale_by u s false t e = let f : ⊥ = cc in absurd f

pub no_scale : (u : TemporalUnit) → scale_of u ≡ None → is_rounding_unit u ≡ false
unfolding scale_of
no_scale u e = no_scale_by u _ (eqb (unit_length u) 0) refl e

scaled_by : (u : TemporalUnit) (s : Scale) (t : Bool) → eqb (unit_length u) 0 ≡ t → Some s ≡ cond t None (Some (row_of u)) → Scaled u s
scaled_by u s true t e = let f : ⊥ = cc in absurd f
scaled_by u s false t e =
    let g : s ≡ row_of u = cc in
    row_scaled u s g (omega (arith, eqb-false (unit_length u) 0 t))

pub scaled : (u : TemporalUnit) (s : Scale) → Some s ≡ scale_of u → Scaled u s
unfolding scale_of
scaled u s e = scaled_by u s (eqb (unit_length u) 0) refl e

-- ---- increments

-- no increment is below a dividend of 0
none : (inc : ℕ) → false ≡ validate_temporal_rounding_increment inc 0
none inc = rw (leb-suc-zero inc) (sym (and_false (leb 1 inc)))

-- at day, whose dividend is 1, only 1 is allowed
pub increment_by_dividend : (unit : TemporalUnit) (inc : ℕ) →
    valid_increment unit inc ≡ cond (eqb (dividend unit) 1) (eqb inc 1) (validate_temporal_rounding_increment inc (dividend unit))
unfolding valid_increment dividend
increment_by_dividend U.Year inc = none inc
increment_by_dividend U.Month inc = none inc
increment_by_dividend U.Week inc = none inc
increment_by_dividend U.Day inc = refl
increment_by_dividend U.Hour inc = refl
increment_by_dividend U.Minute inc = refl
increment_by_dividend U.Second inc = refl
increment_by_dividend U.Millisecond inc = refl
increment_by_dividend U.Microsecond inc = refl
increment_by_dividend U.Nanosecond inc = refl

pub allowed_is : (unit : TemporalUnit) (s : Scale) (inc : ℕ) → s.dividend ≡ dividend unit → allowed s inc ≡ valid_increment unit inc
unfolding allowed
allowed_is unit s inc e = rw (e, increment_by_dividend unit inc)

-- ---- a checked time, and what follows

refused_by : {A B : Type 0} (t : Bool) (n : ℕ) (a : A) (rest : Answer B) → refused n ≡ check t 1 (given a) → refused n ≡ check t 1 rest
refused_by true n a rest e = never a n e
refused_by false n a rest e = ap (λ x. refused (number_of x)) e

given_by : {A : Type 0} (t : Bool) (a x : A) → given x ≡ check t 1 (given a) → (t ≡ true) × (x ≡ a)
given_by true a x e = (refl, given_inj x a e)
given_by false a x e = never x 1 (sym e)

passed : (t x : IsoTime) → given x ≡ checked_time t → (is_valid_time t ≡ true) × (x ≡ t)
unfolding checked_time
passed t x e = given_by (is_valid_time t) t x e

module _ (t other : IsoTime) where
  pub diff_first : (n : ℕ) → refused n ≡ checked_time t → refused n ≡ time_difference t other
  unfolding checked_time time_difference
  diff_first n e = refused_by (is_valid_time t) n t _ e

  module _ (x : IsoTime) (e : given x ≡ checked_time t) where
    pub diff_second : (n : ℕ) → refused n ≡ checked_time other → refused n ≡ time_difference t other
    unfolding checked_time time_difference
    diff_second n f = rw (passed t x e).0 (refused_by (is_valid_time other) n other _ f)

    pub diff_given : (y : IsoTime) → given y ≡ checked_time other → given (in_seconds (nanoseconds_until x y)) ≡ time_difference t other
    unfolding time_difference difference_time
    diff_given y f = let p = passed t x e in let q = passed other y f in rw (p.0, p.1, q.0, q.1)

module _ (t : IsoTime) (unit : TemporalUnit) (inc : ℕ) (mode : RoundingMode) where
  pub round_first : (n : ℕ) → refused n ≡ checked_time t → refused n ≡ rounded_time t unit inc mode
  unfolding checked_time rounded_time
  round_first n e = refused_by (is_valid_time t) n t _ e

  module _ (x : IsoTime) (e : given x ≡ checked_time t) where
    pub round_unit : scale_of unit ≡ None → refused 5 ≡ rounded_time t unit inc mode
    unfolding rounded_time
    round_unit f = rw ((passed t x e).0, no_scale unit f)

    module _ (s : Scale) (f : Some s ≡ scale_of unit) where
      pub round_increment : allowed s inc ≡ false → refused 6 ≡ rounded_time t unit inc mode
      unfolding rounded_time
      round_increment g =
          let u = scaled unit s f in
          rw ((passed t x e).0, u.usable, sym (allowed_is unit s inc u.dividend_is) ∙ g)

      pub round_given : allowed s inc ≡ true → given (round_time x inc unit mode) ≡ rounded_time t unit inc mode
      unfolding rounded_time
      round_given g =
          let u = scaled unit s f in
          let p = passed t x e in
          rw (p.0, p.1, u.usable, sym (allowed_is unit s inc u.dividend_is) ∙ g)

-- for the calls, by name
pub ruleset diff_laws = (diff_first, diff_second, diff_given)

pub ruleset round_laws = (round_first, round_unit, round_increment)

-- ---- a span in seconds and nanoseconds

abbrev pub duration : ℤ → ℤ → TimeDuration
duration s n = record { seconds = s; nanoseconds = n }

-- whole seconds and nanoseconds are no larger than what was cut
pub seconds_fit : (z : ℤ) → SFits w64 z → SFits w64 (quot_z z (pos 1000000000))
seconds_fit (pos n) f = record { sfits = omega (arith, f.sfits) }
seconds_fit (negsuc n) f =
    let q : ℤ = neg_ℤ (pos (suc n / 1000000000)) in
    record { sfits = omega (arith, f.sfits, read_neg (pos (suc n / 1000000000)), range_of q) }

pub nanoseconds_fit : (z : ℤ) → SFits w64 z → SFits w64 (rem_z z (pos 1000000000))
nanoseconds_fit z f = record { sfits = omega (arith, f.sfits, mag_rem z (pos 1000000000)) }

-- two nanoseconds of the day as signed numbers
module _ (one two : ℕ) (h : one < ns_per_day) (k : two < ns_per_day) where
  pub until_is : to_z w64 two -ℤ to_z w64 one ≡ pos two -ℤ pos one
  until_is = rw (to_z_pos w64 {n = one} (omega arith), to_z_pos w64 {n = two} (omega arith))

  pub until_fits : SFits w64 (to_z w64 two -ℤ to_z w64 one)
  until_fits =
      let z : ℤ = pos two -ℤ pos one in
      rw until_is (omega (arith, h, k, read_add (pos two) (neg_ℤ (pos one)), read_neg (pos one), range_of z))

-- a number below zero, cut towards zero
pub cut_below : (n : ℕ) → in_seconds (neg_ℤ (pos n)) ≡ duration (neg_ℤ (pos (n / 1000000000))) (neg_ℤ (pos (n % 1000000000)))
cut_below zero = refl
cut_below (suc n) = refl
