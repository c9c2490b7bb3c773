-- Parts within their bounds, the sign part by part, and what a checked duration tells.
use Prim.Native.Nat.{ℕ, ◌*◌, ◌^◌, ◌≤◌, ◌<◌}
use native.Mathlib.Omega.{arith}
use mathlib.Core.Path.{◌≡◌, refl, sym, ◌∙◌, ap}
use mathlib.Core.Bool.{Bool, true, false, ◌&&◌, ◌||◌}
use borrow.Author.Tests.{leb-true, leb-false, lt-ltb, le-ltb, ltb-true}
use lib.Dec.{leb, ltb}
use lib.IntN.{ℤ, pos, negsuc, neg_ℤ, nat_abs, ◌-ℤ◌, +ℤ_idl}
use lib.Signed.{lt_z, mag}
use mir.Facts.{to_z-of_z}
use mir.Syntax.{w64}
use mir.Val.{SFits, to_z, of_z}
use Rattle.std.specs.declared.cmp.Ordering.{Ordering}
use Rattle.std.specs.declared.cmp.Ordering.TheVariants.{Less, Equal, Greater}
use Rattle.std.specs.Ordering.{ordering_then, int_cmp}
use Rattle.std.specs.List.{list_any, list_all}
use Rattle.std.specs.Prelude.{Option, List, [], ◌∷◌}
use Rattle.std.proofs.lemmas.Bool.Decides.{nat_tests}
use Rattle.whole.proofs.Laws.{size_of, range_of, read_neg}
use Rattle.whole.proofs.Tests.{alike, both, and_assoc}
use Rattle.refusal.specs.Answer.{Answer, number_of, given, refused, check}
use Rattle.refusal.proofs.Answers.{given_inj, never}
use Rattle.date_duration.specs.Proposal.{any_below, any_above, duration, absolute, negation, adjusted, small, small_days, all_small, is_valid_duration}
use Rattle.date_duration.specs.Proposal.{sign_of, or_else, date_duration_sign}
use Rattle.date_duration.specs.Paper.{sign_from, new_duration, duration_sign, duration_abs, duration_negated, duration_adjust}
use Rattle.date_duration.specs.declared.DateDuration.{DateDuration}

-- ---- parts

pub same_parts : (a b c d a' b' c' d' : ℤ) → a ≡ a' → b ≡ b' → c ≡ c' → d ≡ d' → duration a b c d ≡ duration a' b' c' d'
same_parts a b c d a' b' c' d' p q r s = rw (p, q, r, s)

-- ---- bounds

same_test : (n k a b : ℕ) → (n ≤ k → a < b) → (k < n → b ≤ a) → leb n k ≡ ltb a b
same_test n k a b f g = alike (leb n k) (ltb a b) (λ e. lt-ltb a b (f (leb-true n k e))) (λ e. le-ltb a b (g (leb-false n k e)))

-- the size that each part may have
abbrev pub most_part : ℕ
most_part = 4_294_967_295

abbrev pub most_days : ℕ
most_days = 104_249_991_374

pub small_is : (z : ℤ) → leb (nat_abs z) most_part ≡ small z
unfolding small
small_is z = same_test (nat_abs z) most_part (nat_abs z) (2 ^ 32) (λ l. omega arith) (λ l. omega arith)

pub small_days_is : (z : ℤ) → leb (nat_abs z) most_days ≡ small_days z
unfolding small_days
small_days_is z = same_test (nat_abs z) most_days (nat_abs z * 86400) (2 ^ 53) (λ l. omega arith) (λ l. omega arith)

-- the parts of a valid duration are small
pub record Bounded (d : DateDuration) : Type 0 where
  pub years_low : nat_abs d.years < 2 ^ 32
  pub months_low : nat_abs d.months < 2 ^ 32
  pub weeks_low : nat_abs d.weeks < 2 ^ 32
  pub days_low : nat_abs d.days < 2 ^ 38

pub bounded : (d : DateDuration) → is_valid_duration d ≡ true → Bounded d
unfolding is_valid_duration all_small small small_days
bounded d e =
    let a = both _ _ (both _ _ e).0 in
    let b = both _ _ a.1 in
    let c = both _ _ b.1 in
    record {
      years_low = ltb-true _ _ a.0;
      months_low = ltb-true _ _ b.0;
      weeks_low = ltb-true _ _ c.0;
      days_low = omega (arith, ltb-true (nat_abs d.days * 86400) (2 ^ 53) c.1);
    }

-- and so can be turned; each as a local hands it back
pub record Turnable (z : ℤ) : Type 0 where
  pub fits : SFits w64 z
  pub low : nat_abs z < 2 ^ 62

pub record AllTurnable (d : DateDuration) : Type 0 where
  pub of_years : Turnable d.years
  pub of_months : Turnable d.months
  pub of_weeks : Turnable d.weeks
  pub of_days : Turnable d.days

-- the parts of a record that was handed over: each fits 64 bits
module _ (d : DateDuration) (y : mag d.years < 2 ^ 63) (m : mag d.months < 2 ^ 63) (w : mag d.weeks < 2 ^ 63)
    (n : mag d.days < 2 ^ 63) where
  pub turnable : is_valid_duration d ≡ true → AllTurnable d
  turnable e =
      let b = bounded d e in
      record {
        of_years = record { fits = record { sfits = y }; low = omega arith };
        of_months = record { fits = record { sfits = m }; low = omega arith };
        of_weeks = record { fits = record { sfits = w }; low = omega arith };
        of_days = record { fits = record { sfits = n }; low = omega arith };
      }

module _ {z : ℤ} (p : Turnable z) where
  pub turn_fits : SFits w64 (pos 0 -ℤ to_z w64 (of_z w64 z))
  turn_fits = rw (to_z-of_z p.fits, +ℤ_idl (neg_ℤ z)) (omega (arith, p.low, read_neg z, size_of z, range_of z, range_of (neg_ℤ z)))

-- ---- tests of part after part

abbrev pub all_parts : DateDuration → List ℤ
all_parts d = d.years ∷ d.months ∷ d.weeks ∷ d.days ∷ []

or_false : (a : Bool) → (a || false) ≡ a
or_false true = refl
or_false false = refl

and_true : (a : Bool) → (a && true) ≡ a
and_true true = refl
and_true false = refl

and_three : (a b c d : Bool) → ((a && (b && c)) && d) ≡ (a && (b && (c && d)))
and_three true b c d = and_assoc b c d
and_three false b c d = refl

module _ (d : DateDuration) where
  pub below_is : list_any (λ z. lt_z z (pos 0)) (all_parts d) ≡ any_below d
  unfolding any_below
  below_is = simp or_false

  pub above_is : list_any (λ z. lt_z (pos 0) z) (all_parts d) ≡ any_above d
  unfolding any_above
  above_is = simp or_false

  pub smalls_are : (list_all (λ z. leb (nat_abs z) most_part) (d.years ∷ d.months ∷ d.weeks ∷ []) && leb (nat_abs d.days) most_days) ≡ all_small d
  unfolding all_small
  smalls_are = simp (small_is, small_days_is, and_true) (and_three (small d.years) (small d.months) (small d.weeks) (small_days d.days))

-- ---- the sign, part by part

abbrev pub order_of : DateDuration → Ordering
order_of d =
    ordering_then (ordering_then (ordering_then (int_cmp d.years (pos 0)) (int_cmp d.months (pos 0))) (int_cmp d.weeks (pos 0)))
    (int_cmp d.days (pos 0))

part_sign : (z : ℤ) → sign_from (int_cmp z (pos 0)) ≡ sign_of z
unfolding sign_of
part_sign (pos n) = grind (arith, nat_tests)
part_sign (negsuc n) = refl

then_sign : (a b : Ordering) → sign_from (ordering_then a b) ≡ or_else (sign_from a) (sign_from b)
then_sign Less b = refl
then_sign Equal b = refl
then_sign Greater b = refl

then_then : (a b c : Ordering) → ordering_then (ordering_then a b) c ≡ ordering_then a (ordering_then b c)
then_then Less b c = refl
then_then Equal b c = refl
then_then Greater b c = refl

pub sign_is : (d : DateDuration) → sign_from (order_of d) ≡ date_duration_sign d
unfolding date_duration_sign
sign_is d = simp (then_then, then_sign, part_sign)

-- ---- what a checked duration tells

refused_by : {A B : Type 0} (t : Bool) (n : ℕ) (a : A) (rest : Answer B) → refused n ≡ check t 8 (given a) → refused n ≡ check t 8 rest
refused_by true n a rest e = never a n e
refused_by false n a rest e = ap (λ x. refused (number_of x)) e

given_by : {A : Type 0} (t : Bool) (a x : A) → given x ≡ check t 8 (given a) → (t ≡ true) × (x ≡ a)
given_by true a x e = (refl, given_inj x a e)
given_by false a x e = never x 8 (sym e)

-- a refusal of the check is the answer, whatever would have followed
pub unchecked : {A : Type 0} (d : DateDuration) (n : ℕ) (rest : Answer A) → refused n ≡ new_duration d → refused n ≡ check (is_valid_duration d) 8 rest
unfolding new_duration
unchecked d n rest = refused_by (is_valid_duration d) n d rest

module _ (d x : DateDuration) (e : given x ≡ new_duration d) where
  same : (is_valid_duration d ≡ true) × (x ≡ d)
  unfolding new_duration
  same = given_by (is_valid_duration d) d x e

  pub checked_valid : is_valid_duration x ≡ true
  checked_valid = rw (ap is_valid_duration same.1) same.0

  pub sign_given : given (sign_from (order_of x)) ≡ duration_sign d
  unfolding duration_sign
  sign_given = rw (same.0, same.1) (ap given (sign_is d))

  pub abs_given : given (absolute x) ≡ duration_abs d
  unfolding duration_abs
  abs_given = rw (same.0, same.1)

  pub negated_given : given (negation x) ≡ duration_negated d
  unfolding duration_negated
  negated_given = rw (same.0, same.1)

  pub adjust_given : (days : ℤ) (weeks months : Option ℤ) → new_duration (adjusted x days weeks months) ≡ duration_adjust d days weeks months
  unfolding duration_adjust
  adjust_given days weeks months = rw (same.0, same.1)

-- ---- parts as locals hand them back

pub negated_fits : (z : ℤ) → nat_abs z < 2 ^ 38 → SFits w64 (neg_ℤ z)
negated_fits z h = omega (arith, read_neg z, size_of z, range_of z, range_of (neg_ℤ z))

module _ (z : ℤ) (f : SFits w64 z) where
  pub size_is : (r : ℤ) → SFits w64 r → r ≡ pos (nat_abs (to_z w64 (of_z w64 z))) → to_z w64 (of_z w64 r) ≡ pos (nat_abs z)
  size_is r g e = to_z-of_z g ∙ rw (to_z-of_z f) at e

  pub turned_fits : nat_abs z < 2 ^ 38 → SFits w64 (pos 0 -ℤ to_z w64 (of_z w64 z))
  turned_fits h = rw (to_z-of_z f, +ℤ_idl (neg_ℤ z)) (omega (arith, h, read_neg z, size_of z, range_of z, range_of (neg_ℤ z)))

  pub turned_is : nat_abs z < 2 ^ 38 → to_z w64 (of_z w64 (pos 0 -ℤ to_z w64 (of_z w64 z))) ≡ neg_ℤ z
  turned_is h = to_z-of_z (turned_fits h) ∙ rw (to_z-of_z f) (+ℤ_idl (neg_ℤ z))

-- for the calls, by name
pub ruleset sign_laws = (unchecked, sign_given)

pub ruleset abs_laws = (unchecked, checked_valid, bounded, negated_fits)
