-- The number of candidates that a difference tries is the one that the rule names, for every two valid dates and every unit; it is at
-- most 15, which is reached, and 0 for equal dates and units below month, and for no others.
use Prim.Native.Nat.{ℕ, ◌+◌, ◌-◌, ◌*◌, ◌/◌, ◌≤◌, ◌<◌}
use native.Mathlib.Omega.{arith}
use mathlib.Core.Path.{◌≡◌, refl, sym, ◌∙◌, ap}
use mathlib.Core.Bool.{Bool, true, false, not, cond, ◌&&◌, ◌||◌}
use mathlib.Core.Logic.{◌↔◌, ◌⊎◌, inl, inr, ⊎_elim}
use borrow.Author.Tests.{ltb-true, ltb-false, eqb-true, eqb-false}
use lib.Dec.{ltb, eqb}
use lib.IntN.{ℤ, pos, nat_abs, ◌+ℤ◌, ◌-ℤ◌}
use lib.Signed.{lt_z}
use Rattle.refusal.specs.Answer.{given}
use Rattle.refusal.proofs.Answers.{given_inj}
use Rattle.whole.specs.Whole.{fdiv, fmod}
use Rattle.whole.proofs.Laws.{ints, split}
use Rattle.iso_date.specs.Proposal.{date, epoch_days, epoch_days_to_iso_date, is_valid_iso_date, iso_date_within_limits}
use Rattle.iso_date.specs.declared.IsoDate.{IsoDate}
use Rattle.iso_date.proofs.Dates.{read_valid, there_and_back}
use Rattle.options.specs.declared.Unit.{Unit as TemporalUnit}
use Rattle.options.specs.declared.Unit.TheVariants as U
use Rattle.date_math.specs.Proposal.{is_later, directed, moved_by, kept, counts_months, years_until, rest_start, calendar_date_until}
use Rattle.date_math.specs.Tries.{tries, years_apart, year_tries, month_tries, tries_until, calendar_date_tries, tries_by_rule}
use Rattle.date_math.specs.Paper.{is_date_unit, difference_of_dates, date_difference}
use Rattle.date_math.specs.Rules.{MeetsTheRules}
use Rattle.date_math.specs.Claims.{duration_in}
use Rattle.date_math.specs.declared.DateDifference.{DateDifference}
use Rattle.date_math.specs.Inner.{place_of, years_in, months_in, year_tries_in, tries_in}
use Rattle.date_math.proofs.Order.{later_day}
use Rattle.date_math.proofs.Rest.{rest_between, distance_of}
use Rattle.date_math.proofs.Most.{size_directed}
use Rattle.date_math.proofs.Until.{years_near, sign_is, no_sign, months_within, difference_is}
use Rattle.date_math.proofs.Sums.{fine, fine_limits}
use Rattle.date_math.proofs.Tries.{tries_found, none_below, with_tries}
use Rattle.date_math.proofs.Theorems.{in_some_direction, no_other, demand_3}

-- ---- in numbers

-- the years tried, where the dates are so many years apart and so many of them were taken
years_by_rule : (gap years : ℕ) → (384 * years < gap + 384) × (gap < 384 * (years + 1)) →
    year_tries_in gap years ≡ cond (not (eqb years 0) && eqb (gap / 384) years) 3 2
years_by_rule gap years near = go (eqb years 0) refl (eqb (gap / 384) years) refl
  where
    go : (s : Bool) → eqb years 0 ≡ s → (t : Bool) → eqb (gap / 384) years ≡ t → gap / 384 + 2 - (years - 1) ≡ cond (not s && t) 3 2
    go true e t f = omega (arith, eqb-true years 0 e)
    go false e true f =
        let q = eqb-true (gap / 384) years f in
        ⊎_elim (λ l. omega arith) (λ l. absurd (eqb-false years 0 e (omega arith))) (split 0 years)
    go false e false f =
        ⊎_elim (λ l. omega arith) (λ l. absurd (eqb-false (gap / 384) years f (omega arith))) (split (gap / 384) years)

-- ---- between two dates

module _ (one two : IsoDate) (v : is_valid_iso_date one ≡ true) (w : is_valid_iso_date two ≡ true) where
  module _ (forward : Bool) (gap : ℕ) (far : place_of two ≡ place_of one +ℤ directed forward gap) where
    near : (384 * years_apart one two < gap + 384) × (gap < 384 * (years_apart one two + 1))
    near = years_near forward one two v w gap far

    -- the sizes of the years and months that are found
    found : (unit : TemporalUnit) → (nat_abs (calendar_date_until one two unit).years ≡ years_in unit gap) ×
        (nat_abs (calendar_date_until one two unit).months ≡ months_in unit gap)
    found unit =
        let start : IsoDate = rest_start forward one (years_in unit gap) (months_in unit gap) in
        let lies = rest_between forward one two v w gap (years_in unit gap) (months_in unit gap) far (months_within unit gap) in
        let d = difference_is forward one two unit v w gap (nat_abs (epoch_days two -ℤ epoch_days start)) far
        (distance_of forward (epoch_days start) (epoch_days two) lies.1) in
        (rw d (size_directed forward (years_in unit gap)), rw d (size_directed forward (months_in unit gap)))

    differ : (is_later two one || is_later one two) ≡ ltb 0 gap
    differ = go (ltb 0 gap) refl
      where
        either : (f : Bool) → (f || not f) ≡ true
        either true = refl
        either false = refl

        go : (t : Bool) → ltb 0 gap ≡ t → (is_later two one || is_later one two) ≡ t
        go true e = let s = sign_is forward one two v w gap far (ltb-true 0 gap e) in rw (s.0, s.1) (either forward)
        go false e = let s = no_sign forward one two v w gap far (omega (arith, ltb-false 0 gap e)) in rw (s.0, s.1)

    by_rule : (unit : TemporalUnit) → calendar_date_tries one two unit ≡ tries_by_rule one two unit
    unfolding tries_in tries_by_rule years_in months_in
    by_rule unit =
        let before = found U.Year in
        tries_found forward one two v w gap far unit ∙ (rw (differ, before.0, before.1, years_by_rule gap (years_apart one two) near))

    few : (unit : TemporalUnit) → calendar_date_tries one two unit ≤ 15
    unfolding tries_in
    few unit = rw (tries_found forward one two v w gap far unit) (go (counts_months unit && ltb 0 gap))
      where
        go : (t : Bool) → cond t (year_tries_in gap (years_apart one two) + ((gap - 384 * (gap / 384)) / 32 + 1)) 0 ≤ 15
        go true = omega (arith, near)
        go false = omega arith

    -- no gap, no difference
    same : gap ≡ 0 → one ≡ two
    same z =
        let s = no_sign forward one two v w gap far z in
        let e : epoch_days one ≡ epoch_days two =
        equal (epoch_days one) (epoch_days two) (sym (later_day two one w v) ∙ s.0) (sym (later_day one two v w) ∙ s.1) in
        sym (back one v) ∙ ap epoch_days_to_iso_date e ∙ back two w
      where
        equal : (a b : ℤ) → lt_z a b ≡ false → lt_z b a ≡ false → a ≡ b
        equal a b h k = omega (arith, ints)

        back : (d : IsoDate) → is_valid_iso_date d ≡ true → epoch_days_to_iso_date (epoch_days d) ≡ d
        back d e = there_and_back d.year d.month d.day (read_valid d.year d.month d.day e)

    none : (unit : TemporalUnit) → calendar_date_tries one two unit ≡ 0 → (one ≡ two) ⊎ (counts_months unit ≡ false)
    unfolding tries_in
    none unit e = go (counts_months unit) (ltb 0 gap) refl refl (sym (tries_found forward one two v w gap far unit) ∙ e)
      where
        go : (c t : Bool) → counts_months unit ≡ c → ltb 0 gap ≡ t →
            cond (c && t) (year_tries_in gap (years_apart one two) + ((gap - 384 * (gap / 384)) / 32 + 1)) 0 ≡ 0 → (one ≡ two) ⊎ (counts_months unit ≡ false)
        go false t h k f = inr h
        go true false h k f = inl (same (omega (arith, ltb-false 0 gap k)))
        go true true h k f = let z : ⊥ = omega arith in absurd z

  -- the search makes as many comparisons as the rule says
  pub tries_by_rule_lem : (unit : TemporalUnit) → calendar_date_tries one two unit ≡ tries_by_rule one two unit
  tries_by_rule_lem unit = in_some_direction one two (λ forward gap far. by_rule forward gap far unit)

  -- it is over within 15
  pub at_most_15 : (unit : TemporalUnit) → calendar_date_tries one two unit ≤ 15
  at_most_15 unit = in_some_direction one two (λ forward gap far. few forward gap far unit)

  -- none for equal dates and for units below month, and for no others
  pub none_exactly : (unit : TemporalUnit) → (calendar_date_tries one two unit ≡ 0) ↔ ((one ≡ two) ⊎ (counts_months unit ≡ false))
  unfolding calendar_date_tries tries_until
  none_exactly unit = ((λ e. in_some_direction one two (λ forward gap far. none forward gap far unit e)), ⊎_elim equal (none_below one two unit))
    where
      level : (a b : ℤ) → a ≡ b → lt_z a b ≡ false
      level a b e = omega (arith, ints)

      equal : one ≡ two → calendar_date_tries one two unit ≡ 0
      equal e =
          let days = ap epoch_days e in
          rw (later_day two one w v ∙ level (epoch_days one) (epoch_days two) days, later_day one two v w ∙ level (epoch_days two) (epoch_days one) (sym days))

-- ---- the whole answer, by the rules alone

module _ (one two : IsoDate) (unit : TemporalUnit) (one_valid : is_valid_iso_date one ≡ true) (one_within : iso_date_within_limits one ≡ true)
    (two_valid : is_valid_iso_date two ≡ true) (two_within : iso_date_within_limits two ≡ true) where
  -- the answer, whole
  pub all_given : is_date_unit unit ≡ true → date_difference one two unit ≡ given (difference_of_dates one two unit)
  unfolding date_difference
  all_given u = rw (fine_limits one (fine one one_valid one_within), fine_limits two (fine two two_valid two_within), u)

  -- a record is the answer just where its duration meets the rules and its count is the one that the rule names
  pub answer_by_rules : is_date_unit unit ≡ true → (d : DateDifference) →
      (date_difference one two unit ≡ given d) ↔ (MeetsTheRules one two unit d.duration × (d.tries ≡ tries_by_rule one two unit))
  answer_by_rules u d =
      let t = tries_by_rule_lem one two one_valid two_valid unit in (
        (λ e. (
          (demand_3 one two unit one_valid one_within two_valid two_within u d.duration).0 (ap duration_in e),
          sym (ap (λ (x : DateDifference). x.tries) (given_inj (difference_of_dates one two unit) d (sym (all_given u) ∙ e))) ∙ t,
        )),
        (λ m. all_given u ∙
            ap given (with_tries _ d.duration _ d.tries (sym (no_other one two unit one_valid one_within two_valid two_within d.duration m.0))
            (t ∙ sym m.1))),
      )

-- 15 are tried from the first of January to the last of December of the next year: 0, 1 and 2 years, then 1 to 12 months
pub fifteen : calendar_date_tries (date (pos 2019) 1 1) (date (pos 2020) 12 31) U.Year ≡ 15
unfolding calendar_date_tries tries_until year_tries month_tries tries years_until kept moved_by is_later fdiv fmod
fifteen = refl
