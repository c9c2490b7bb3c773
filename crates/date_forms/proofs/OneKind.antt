-- Each text is of one kind: what begins with a time begins with no year, and so with no date; and a year has one of its three forms only.
use Prim.Native.Nat.{ℕ, suc}
use native.Mathlib.Omega.{arith}
use mathlib.Core.Path.{◌≡◌, refl, sym, ◌∙◌}
use mathlib.Core.Bool.{Bool, true, false}
use mathlib.Core.List.{List, [], ◌∷◌}
use borrow.Author.Tests.{eqb-true}
use lib.Dec.{eqb}
use lib.IntN.{ℤ}
use Rattle.lines.specs.Text.{is_digit}
use Rattle.forms.specs.Forms.{Parsed, took, nothing, marked, digit, digits}
use Rattle.forms.proofs.Digits.{fewer}
use Rattle.forms.proofs.Padded.{never_took}
use Rattle.forms.proofs.Shortest.{through, marked_only}
use Rattle.iso_date.specs.declared.IsoDate.{IsoDate}
use Rattle.iso_time.specs.declared.IsoTime.{IsoTime}
use Rattle.date_forms.specs.Grammar.{plus, hyphen, colon, four_digits, plus_six, minus_six, year_form, date_form, time_form}
use Rattle.date_forms.proofs.Years.{no_four}
use Rattle.date_forms.proofs.ReadBack.{other_mark}

-- ---- digits and marks

-- n digits and then none are not one more
stops : (n : ℕ) (text : List ℕ) (v b : ℕ) (tail : List ℕ) → digits n text ≡ took v (b ∷ tail) → is_digit b ≡ false → digits (suc n) text ≡ nothing
unfolding digits digit
stops n text v b tail e bad = rw (e, bad)

-- where the first byte is no digit there are none
no_digits : (n b : ℕ) (tail : List ℕ) → is_digit b ≡ false → digits (suc n) (b ∷ tail) ≡ nothing
unfolding digits digit
no_digits n b tail bad = let one : digits 1 (b ∷ tail) ≡ nothing = rw bad in fewer n 1 (b ∷ tail) one (suc n) (omega arith)

-- a text that begins with a digit begins with no mark
unmarked : (n mark : ℕ) (text : List ℕ) (v : ℕ) (rest : List ℕ) → digits (suc n) text ≡ took v rest → is_digit mark ≡ false →
    marked mark (digits 6) text ≡ nothing
unfolding marked
unmarked n mark [] v rest e bad = refl
unmarked n mark (b ∷ tail) v rest e bad = by_test (eqb b mark) refl
  where
    by_test : (q : Bool) → eqb b mark ≡ q → marked mark (digits 6) (b ∷ tail) ≡ nothing
    by_test false other = rw other
    by_test true same = never_took v rest (sym (no_digits n b tail (rw (eqb-true b mark same) bad)) ∙ e)

-- ---- the three forms of a year

-- at most one of the three takes a text, so their order does not matter: where the four digits do, no sign does
pub four_alone : (text : List ℕ) (y : ℤ) (rest : List ℕ) → four_digits text ≡ took y rest → (plus_six text ≡ nothing) × (minus_six text ≡ nothing)
four_alone text y rest e =
    through (digits 4 text) _ e (λ n after f g.
    (rw (unmarked 3 plus text n after f refl), rw (unmarked 3 hyphen text n after f refl)))

-- and where + and six digits do, neither the four digits nor the other sign does
pub plus_alone : (text : List ℕ) (y : ℤ) (rest : List ℕ) → plus_six text ≡ took y rest → (four_digits text ≡ nothing) × (minus_six text ≡ nothing)
plus_alone text y rest e =
    through (marked plus (digits 6) text) _ e (λ n after f g.
    let m = marked_only plus (digits 6) text n after f in
    (rw (m.1.0, no_four plus m.0 refl), rw (m.1.0, other_mark hyphen plus m.0 refl)))

-- ---- a time and a date

-- two digits and a colon begin no year: the third byte is no digit, and the first no sign
pub time_is_no_year : (text : List ℕ) (t : IsoTime) (rest : List ℕ) → time_form text ≡ took t rest → year_form text ≡ nothing
unfolding time_form year_form
time_is_no_year text t rest e =
    through (digits 2 text) _ e (λ h u f g.
    through (marked colon (digits 2) u) _ g (λ m v i j.
    let after = marked_only colon (digits 2) u m v i in
    let three = stops 2 text h colon after.0 (rw after.1.0 at f) refl in
    rw (fewer 1 3 text three 4 refl, unmarked 1 plus text h u f refl, unmarked 1 hyphen text h u f refl)))

-- so they begin no date
pub time_is_no_date : (text : List ℕ) (t : IsoTime) (rest : List ℕ) → time_form text ≡ took t rest → date_form text ≡ nothing
unfolding date_form
time_is_no_date text t rest e = rw (time_is_no_year text t rest e)

-- and what begins with a date begins with no time
pub date_is_no_time : (text : List ℕ) (d : IsoDate) (rest : List ℕ) → date_form text ≡ took d rest → time_form text ≡ nothing
date_is_no_time text d rest e = by_form (time_form text) refl
  where
    by_form : (p : Parsed IsoTime) → time_form text ≡ p → time_form text ≡ nothing
    by_form nothing f = f
    by_form (took t after) f = never_took d rest (sym (time_is_no_date text t after f) ∙ e)
