-- How many candidates are tried, in closed form: the gap tells which is the first that has passed.
use Prim.Native.Nat.{ℕ, ◌+◌, ◌-◌, ◌*◌, ◌/◌, ◌<◌}
use native.Mathlib.Omega.{arith}
use mathlib.Core.Path.{◌≡◌, refl, sym, ◌∙◌}
use mathlib.Core.Bool.{Bool, true, false, cond, ◌&&◌}
use lib.Dec.{ltb, leb}
use lib.IntN.{◌+ℤ◌}
use Rattle.whole.specs.Whole.{apart, ◌⊖◌}
use Rattle.iso_date.specs.Proposal.{is_valid_iso_date}
use Rattle.iso_date.specs.declared.IsoDate.{IsoDate}
use Rattle.date_duration.specs.declared.DateDuration.{DateDuration}
use Rattle.options.specs.declared.Unit.{Unit as TemporalUnit}
use Rattle.date_math.specs.Proposal.{is_later, iso_date_surpasses, directed, in_years, moved_by, counts_months}
use Rattle.date_math.specs.Tries.{years_apart, year_tries, month_tries, tries_until, calendar_date_tries}
use Rattle.date_math.specs.declared.DateDifference.{DateDifference}
use Rattle.date_math.specs.Inner.{place_of, place_bias, year_tries_in, tries_in}
use Rattle.date_math.proofs.Kept.{tries_are}
use Rattle.date_math.proofs.Until.{years_near, years_pass, months_pass, years_are, chosen, far_of}

module _ (forward : Bool) (one two : IsoDate) (v : is_valid_iso_date one ≡ true) (w : is_valid_iso_date two ≡ true) (gap : ℕ)
    (far : place_of two ≡ place_of one +ℤ directed forward gap) where
  year_tries_lem : year_tries forward one two ≡ year_tries_in gap (years_apart one two)
  unfolding year_tries
  year_tries_lem =
      let near = years_near forward one two v w gap far in
      tries_are (λ k. iso_date_surpasses forward (in_years one (directed forward k)) two) 384 gap (years_pass forward one two v w gap far) (omega arith)
      (years_apart one two + 2) (years_apart one two - 1) (omega arith) (omega arith)

  -- what the years leave is less than a year, so that the twelfth month has passed
  month_tries_lem : month_tries forward one two ≡ (gap - 384 * (gap / 384)) / 32 + 1
  unfolding month_tries
  month_tries_lem =
      rw (years_are forward one two v w gap far)
      (tries_are (λ k. iso_date_surpasses forward (moved_by one (directed forward (gap / 384)) (directed forward k)) two) 32 (gap - 384 * (gap / 384))
      (months_pass forward one two v w gap far (gap / 384) (omega arith)) (omega arith)
      (12 * (years_apart one two + 1)) 1 (omega arith) (omega arith) ∙ omega arith)

  pub tries_found : (unit : TemporalUnit) → calendar_date_tries one two unit ≡ tries_in unit gap (years_apart one two)
  unfolding calendar_date_tries tries_until tries_in
  tries_found unit = chosen forward one two v w gap far (λ f. tries_until f one two unit) 0 ∙ go (ltb 0 gap) (counts_months unit)
    where
      go : (t c : Bool) → cond t (cond c (year_tries forward one two + month_tries forward one two) 0) 0 ≡
          cond (c && t) (year_tries_in gap (years_apart one two) + ((gap - 384 * (gap / 384)) / 32 + 1)) 0
      go true true = rw (year_tries_lem, month_tries_lem)
      go true false = refl
      go false true = refl
      go false false = refl

-- below month nothing is tried
pub none_below : (one two : IsoDate) (unit : TemporalUnit) → counts_months unit ≡ false → calendar_date_tries one two unit ≡ 0
unfolding calendar_date_tries tries_until
none_below one two unit e = rw e (go (is_later two one) (is_later one two))
  where
    go : (s t : Bool) → cond {A = ℕ} s 0 (cond t 0 0) ≡ 0
    go true t = refl
    go false true = refl
    go false false = refl

-- ---- from the naturals of the code

abbrev both : DateDuration → ℕ → DateDifference
both d n = record { duration = d; tries = n }

pub with_tries : (d e : DateDuration) (n k : ℕ) → d ≡ e → n ≡ k → both d n ≡ both e k
with_tries d e n k p q = rw (p, q)

module _ (one two : IsoDate) (v : is_valid_iso_date one ≡ true) (w : is_valid_iso_date two ≡ true) (a b : ℕ)
    (from : place_of one ≡ a ⊖ place_bias) (to : place_of two ≡ b ⊖ place_bias) where
  far : place_of two ≡ place_of one +ℤ directed (leb a b) (apart a b)
  far = far_of a b place_bias (place_of one) (place_of two) from to

  pub gap_near : (384 * years_apart one two < apart a b + 384) × (apart a b < 384 * (years_apart one two + 1))
  gap_near = years_near (leb a b) one two v w (apart a b) far

  pub tries_put : (unit : TemporalUnit) → tries_in unit (apart a b) (years_apart one two) ≡ calendar_date_tries one two unit
  tries_put unit = sym (tries_found (leb a b) one two v w (apart a b) far unit)
