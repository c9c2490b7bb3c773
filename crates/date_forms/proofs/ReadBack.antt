-- What is written is read back: the text of a year, of a date and of a time says that year, that date and that time. A time's text says its
-- seconds; second 60 in place of 59 says the same.
use Prim.Native.Nat.{ℕ, suc, ◌/◌, ◌%◌, ◌^◌, ◌≤◌, ◌<◌}
use native.Mathlib.Omega.{arith}
use mathlib.Core.Path.{◌≡◌, refl, sym, ap}
use mathlib.Core.Bool.{true, false, cond}
use mathlib.Core.Logic.{⊎_elim}
use mathlib.Core.List.{List, [], ◌∷◌, ◌++◌, append_assoc}
use borrow.Author.Tests.{ne_eqb}
use lib.Dec.{eqb}
use lib.IntN.{ℤ, pos, negsuc, nat_abs}
use Rattle.whole.proofs.Laws.{ints, split}
use Rattle.forms.specs.Forms.{took, nothing, marked, digits, padded, fraction_text}
use Rattle.forms.proofs.Padded.{digits_back}
use Rattle.forms.proofs.Shortest.{through, marked_back, fraction_or_none}
use Rattle.iso_date.specs.declared.IsoDate.{IsoDate}
use Rattle.iso_time.specs.Proposal.{is_valid_time}
use Rattle.iso_time.specs.declared.IsoTime.{IsoTime}
use Rattle.iso_time.proofs.Times.{Valid, read_valid}
use Rattle.date_forms.specs.Grammar.{plus, hyphen, colon, year_form, date_form, Seconds, seconds, seconds_form, clock_time, time_form}
use Rattle.date_forms.specs.Texts.{year_text, date_text, billionths_of, time_text}
use Rattle.date_forms.specs.Claims.{time_with_seconds, leap_text}
use Rattle.date_forms.proofs.Years.{no_four}
use Rattle.date_forms.proofs.Texts.{minus_year, plus_year, short_year}

-- ---- years

-- which of its three texts a year has
pub year_four : (n : ℕ) → n < 10_000 → year_text (pos n) ≡ padded 4 n
year_four n h = short_year (pos n) (omega (arith, ints)) (omega (arith, ints))

pub year_plus : (n : ℕ) → 10_000 ≤ n → year_text (pos n) ≡ plus ∷ padded 6 n
year_plus n h = plus_year (pos n) (omega (arith, ints)) (omega (arith, ints))

pub year_minus : (n : ℕ) → year_text (negsuc n) ≡ hyphen ∷ padded 6 (suc n)
year_minus n = minus_year (negsuc n) refl

-- one sign is not the other
pub other_mark : (mark other : ℕ) (rest : List ℕ) → eqb other mark ≡ false → marked mark (digits 6) (other ∷ rest) ≡ nothing
unfolding marked
other_mark mark other rest e = rw e

pub year_back : (y : ℤ) (rest : List ℕ) → nat_abs y ≤ 999_999 → year_form (year_text y ++ rest) ≡ took y rest
unfolding year_form
year_back (pos n) rest h =
    ⊎_elim
    (λ few. rw (year_four n few, digits_back 4 n rest few))
    (λ many. rw (year_plus n many, no_four plus (padded 6 n ++ rest) refl, marked_back plus 6 n rest (omega arith)))
    (split n 10_000)
year_back (negsuc n) rest h =
    rw (
      year_minus n,
      no_four hyphen (padded 6 (suc n) ++ rest) refl,
      other_mark plus hyphen (padded 6 (suc n) ++ rest) refl,
      marked_back hyphen 6 (suc n) rest (omega arith),
      ne_eqb (suc n) 0 (λ e. omega (arith, e)),
    )

-- ---- dates

pub date_back : (d : IsoDate) (rest : List ℕ) → nat_abs d.year ≤ 999_999 → d.month < 100 → d.day < 100 → date_form (date_text d ++ rest) ≡ took d rest
unfolding date_form date_text
date_back d rest y m k =
    let month = hyphen ∷ padded 2 d.month in
    let day = hyphen ∷ padded 2 d.day in
    rw (
      append_assoc (year_text d.year) (month ++ day) rest,
      append_assoc month day rest,
      year_back d.year (month ++ (day ++ rest)) y,
      marked_back hyphen 2 d.month (day ++ rest) m,
      marked_back hyphen 2 d.day rest k,
    )

-- ---- times

-- the fields of a valid time out of the numbers of its text, in which second 60 may stand for 59
clock_back : (t : IsoTime) (s : ℕ) → Valid t → cond (eqb s 60) 59 s ≡ t.second → clock_time t.hour t.minute (seconds s (billionths_of t)) ≡ t
unfolding clock_time
clock_back t s v e =
    let f : ℕ = billionths_of t in
    let a : f / 1_000_000 ≡ t.millisecond = omega (arith, v.micros, v.nanos) in
    let b : f / 1_000 % 1_000 ≡ t.microsecond = omega (arith, v.micros, v.nanos) in
    let c : f % 1_000 ≡ t.nanosecond = omega (arith, v.nanos) in
    rw (e, a, b, c)

-- the text of the numbers of a clock
abbrev pub spoken : ℕ → ℕ → Seconds → List ℕ
spoken h m s = padded 2 h ++ ((colon ∷ padded 2 m) ++ ((colon ∷ padded 2 s.second) ++ fraction_text s.billionths))

spoken_back : (t : IsoTime) (s : ℕ) → is_valid_time t ≡ true → s < 100 → cond (eqb s 60) 59 s ≡ t.second →
    time_with_seconds (spoken t.hour t.minute (seconds s (billionths_of t))) ≡ took t []
unfolding time_with_seconds seconds_form
spoken_back t s e few same =
    let v = read_valid t e in
    let f : ℕ = billionths_of t in
    let second = (colon ∷ padded 2 s) ++ fraction_text f in
    let small : f < 10 ^ 9 = omega (arith, v.millis, v.micros, v.nanos) in
    rw (
      digits_back 2 t.hour ((colon ∷ padded 2 t.minute) ++ second) (omega (arith, v.hours)),
      marked_back colon 2 t.minute second (omega (arith, v.minutes)),
      marked_back colon 2 s (fraction_text f) (omega arith),
      fraction_or_none f small,
    ) (ap (λ (x : IsoTime). took x []) (clock_back t s v same))

-- the text of a valid time says its seconds, and is that time
pub seconds_back : (t : IsoTime) → is_valid_time t ≡ true → time_with_seconds (time_text t) ≡ took t []
unfolding time_text
seconds_back t e =
    let v = read_valid t e in
    spoken_back t t.second e (omega (arith, v.seconds)) (rw (ne_eqb t.second 60 (λ same. omega (arith, v.seconds))))

-- with second 60 in place of 59 it is the same time
pub leap_back : (t : IsoTime) → is_valid_time t ≡ true → t.second ≡ 59 → time_with_seconds (leap_text t) ≡ took t []
unfolding leap_text
leap_back t e last = spoken_back t 60 e (omega arith) (sym last)

-- a time with seconds is a time
pub seconds_said : (text : List ℕ) (t : IsoTime) (rest : List ℕ) → time_with_seconds text ≡ took t rest → time_form text ≡ took t rest
unfolding time_with_seconds time_form
seconds_said text t rest e =
    through (digits 2 text) _ e (λ h u f g.
    through (marked colon (digits 2) u) _ g (λ m v i j.
    through (seconds_form v) _ j (λ s after k l. rw (f, i, k) l)))

pub time_back : (t : IsoTime) → is_valid_time t ≡ true → time_form (time_text t) ≡ took t []
time_back t e = seconds_said (time_text t) t [] (seconds_back t e)
