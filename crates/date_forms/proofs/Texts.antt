-- The texts of dates and times: which form a year takes, and how long they are.
use Prim.Native.Nat.{ℕ, ◌+◌}
use native.Mathlib.Omega.{arith}
use mathlib.Core.Path.{◌≡◌}
use mathlib.Core.Bool.{Bool, ◌&&◌, true, false, cond}
use mathlib.Core.List.{◌∷◌}
use lib.IntN.{ℤ, pos, nat_abs}
use lib.Signed.{le_z, lt_z}
use lib.ListN.{length, length-append}
use Rattle.whole.proofs.Laws.{ints}
use Rattle.forms.specs.Forms.{padded, pointed, fraction_text}
use Rattle.forms.specs.declared.Trimmed.{Trimmed}
use Rattle.forms.proofs.Padded.{padded_length}
use Rattle.forms.proofs.Fractions.{pointed_none, pointed_some}
use Rattle.date_forms.specs.Grammar.{plus, hyphen}
use Rattle.date_forms.specs.Texts.{year_text, date_text, time_text, billionths_of}
use Rattle.iso_date.specs.declared.IsoDate.{IsoDate}
use Rattle.iso_time.specs.declared.IsoTime.{IsoTime}

-- ---- years

pub minus_year : (y : ℤ) → lt_z y (pos 0) ≡ true → year_text y ≡ hyphen ∷ padded 6 (nat_abs y)
unfolding year_text
minus_year y low = let f : le_z (pos 0) y ≡ false = omega (arith, ints) in rw (f, low)

pub plus_year : (y : ℤ) → lt_z y (pos 0) ≡ false → lt_z (pos 9999) y ≡ true → year_text y ≡ plus ∷ padded 6 (nat_abs y)
unfolding year_text
plus_year y low high =
    let e : le_z (pos 0) y ≡ true = omega (arith, ints) in
    let f : le_z y (pos 9999) ≡ false = omega (arith, ints) in
    rw (e, f, low)

pub short_year : (y : ℤ) → lt_z y (pos 0) ≡ false → lt_z (pos 9999) y ≡ false → year_text y ≡ padded 4 (nat_abs y)
unfolding year_text
short_year y low high =
    let e : le_z (pos 0) y ≡ true = omega (arith, ints) in
    let f : le_z y (pos 9999) ≡ true = omega (arith, ints) in
    rw (e, f)

pub year_length : (y : ℤ) → length (year_text y) ≡ cond (le_z (pos 0) y && le_z y (pos 9999)) 4 7
unfolding year_text
year_length y = by_test (le_z (pos 0) y && le_z y (pos 9999)) (cond (lt_z y (pos 0)) hyphen plus)
  where
    by_test : (t : Bool) (sign : ℕ) → length (cond t (padded 4 (nat_abs y)) (sign ∷ padded 6 (nat_abs y))) ≡ cond t 4 7
    by_test true sign = padded_length 4 (nat_abs y)
    by_test false sign = omega (arith, padded_length 6 (nat_abs y))

-- ---- dates

pub date_length_is : (d : IsoDate) → length (date_text d) ≡ length (year_text d.year) + 6
unfolding date_text
date_length_is d = simp (length-append, padded_length) (omega arith)

-- ---- times

pub none_length : (f : Trimmed) → f.count ≡ 0 → 8 ≡ 8 + length (pointed (padded f.count f.value))
none_length f e = rw (pointed_none f.count f.value e)

pub some_length : (f : Trimmed) → (f.count ≡ 0 → ⊥) → f.count + 9 ≡ 8 + length (pointed (padded f.count f.value))
some_length f some =
    rw (pointed_some f.count f.value (omega (arith, some))) (omega (arith, padded_length f.count f.value))

pub time_length_is : (t : IsoTime) → length (time_text t) ≡ 8 + length (fraction_text (billionths_of t))
unfolding time_text
time_length_is t = simp (length-append, padded_length) (omega arith)
