-- Of the texts that say the same, of a time those that say its seconds, none is shorter than what is written, and none other is as short but
-- the one with second 60 for 59; and no text is longer than so much.
use Prim.Native.Nat.{ℕ, zero, suc, ◌+◌, ◌≤◌}
use native.Mathlib.Omega.{arith}
use mathlib.Core.Path.{◌≡◌, refl, sym, ap, ◌∙◌}
use mathlib.Core.Bool.{Bool, true, false, cond}
use mathlib.Core.Logic.{◌⊎◌, inl, inr, ⊎_elim}
use mathlib.Core.List.{List, [], ◌∷◌, ◌++◌, append-nil}
use borrow.Author.Tests.{ne_eqb, eqb-true}
use lib.Dec.{eqb}
use lib.IntN.{ℤ, pos, negsuc, neg_ℤ}
use lib.ListN.{length, length-append}
use Rattle.whole.proofs.Laws.{split}
use Rattle.forms.specs.Forms.{took, nothing, or_else, marked, digits, padded, fraction, fraction_text}
use Rattle.forms.proofs.Padded.{padded_length, digits_only, took_inj, never_took}
use Rattle.forms.proofs.Shortest.{Shortest, through, one_or_other, digits_marked, long, exactly, longer, one_after, if_any_shortest, if_any_longest}
use Rattle.iso_date.specs.Proposal.{date}
use Rattle.iso_date.specs.declared.IsoDate.{IsoDate}
use Rattle.iso_time.specs.declared.IsoTime.{IsoTime}
use Rattle.date_forms.specs.Grammar.{plus, hyphen, colon, four_digits, plus_six, minus_six, year_form, date_form, Seconds, seconds, seconds_form, clock_time}
use Rattle.date_forms.specs.Grammar.{time_form}
use Rattle.date_forms.specs.Texts.{year_text, date_text, billionths_of, time_text}
use Rattle.date_forms.specs.Claims.{time_with_seconds, leap_text}
use Rattle.date_forms.proofs.ReadBack.{year_four, year_plus, year_minus, spoken}

-- ---- years

module _ (text : List ℕ) (y : ℤ) (rest : List ℕ) where
  abbrev Year : Type 0
  Year = Shortest text (year_text y) rest × (length text ≤ 7 + length rest)

  four : four_digits text ≡ took y rest → Year
  four e =
      through (digits 4 text) _ e (λ n after f g.
      let same = took_inj (pos n) y after rest g in
      let d = digits_only 4 text n after f in
      let l = long text (padded 4 n) after 4 d.0 (padded_length 4 n) in
      rw (← same.0, ← same.1, year_four n d.1) (exactly text (padded 4 n) after d.0, omega (arith, l)))

  with_plus : plus_six text ≡ took y rest → Year
  with_plus e =
      through (marked plus (digits 6) text) _ e (λ n after f g.
      let same = took_inj (pos n) y after rest g in
      let d = (digits_marked plus 6 text n after f).0 in
      let l = long text (plus ∷ padded 6 n) after 7 d (ap suc (padded_length 6 n)) in
      rw (← same.0, ← same.1) (
        ⊎_elim
            (λ few. rw (year_four n few) (longer text (padded 4 n) after (omega (arith, l, padded_length 4 n))))
            (λ many. rw (year_plus n many) (exactly text (plus ∷ padded 6 n) after d))
            (split n 10_000),
        omega (arith, l),
      ))

  with_minus : minus_six text ≡ took y rest → Year
  with_minus e =
      through (marked hyphen (digits 6) text) _ e below
    where
      below : (n : ℕ) (after : List ℕ) → marked hyphen (digits 6) text ≡ took n after →
          cond (eqb n 0) nothing (took (neg_ℤ (pos n)) after) ≡ took y rest → Year
      below zero after f g = never_took y rest g
      below (suc n) after f g =
          let same = took_inj (negsuc n) y after rest (rw (ne_eqb (suc n) 0 (λ z. omega (arith, z))) at g) in
          let d = (digits_marked hyphen 6 text (suc n) after f).0 in
          let l = long text (hyphen ∷ padded 6 (suc n)) after 7 d (ap suc (padded_length 6 (suc n))) in
          rw (← same.0, ← same.1, year_minus n) (exactly text (hyphen ∷ padded 6 (suc n)) after d, omega (arith, l))

  year_shortest : year_form text ≡ took y rest → Year
  unfolding year_form
  year_shortest e =
      one_or_other (four_digits text) _ e four (λ f.
      one_or_other (plus_six text) (minus_six text) f with_plus with_minus)

-- ---- dates

module _ (text : List ℕ) (d : IsoDate) (rest : List ℕ) (e : date_form text ≡ took d rest) where
  date_read : Shortest text (date_text d) rest × (length text ≤ 13 + length rest)
  unfolding date_form date_text
  date_read =
      through (year_form text) _ e (λ y t f g.
      through (marked hyphen (digits 2) t) _ g (λ m u h i.
      through (marked hyphen (digits 2) u) _ i (λ k after j l.
      let same = took_inj (date y m k) d after rest l in
      let year = year_shortest text y t f in
      let month = hyphen ∷ padded 2 m in
      let day = hyphen ∷ padded 2 k in
      let p = (digits_marked hyphen 2 t m u h).0 in
      let q = (digits_marked hyphen 2 u k after j).0 in
      let a = long t month u 3 p (ap suc (padded_length 2 m)) in
      let b = long u day after 3 q (ap suc (padded_length 2 k)) in
      rw (← same.0, ← same.1) (
        one_after text (year_text y) t (month ++ day) after year.0 (one_after t month u day after (exactly t month u p) (exactly u day after q)),
        omega (arith, year.1, a, b),
      ))))

  pub date_shortest : Shortest text (date_text d) rest
  date_shortest = date_read.0

  pub date_longest : length text ≤ 13 + length rest
  date_longest = date_read.1

-- ---- times

-- the text of the numbers of a clock is the text of the time that they say, unless they say second 60
module _ (h m : ℕ) (s : Seconds) where
  billionths_back : billionths_of (clock_time h m s) ≡ s.billionths
  unfolding clock_time
  billionths_back = omega arith

  plain_text : eqb s.second 60 ≡ false → time_text (clock_time h m s) ≡ spoken h m s
  unfolding time_text clock_time
  plain_text e = rw (billionths_back, e)

  leap_text_lem : eqb s.second 60 ≡ true → ((clock_time h m s).second ≡ 59) × (leap_text (clock_time h m s) ≡ spoken h m s)
  unfolding leap_text clock_time
  leap_text_lem e = (rw e, rw (billionths_back, eqb-true s.second 60 e))

-- second 60 is as short as any other
pub same_length : (t : IsoTime) → length (leap_text t) ≡ length (time_text t)
unfolding leap_text time_text
same_length t = simp (length-append, padded_length)

module _ (text : List ℕ) (s : Seconds) (rest : List ℕ) (e : seconds_form text ≡ took s rest) where
  seconds_read : Shortest text ((colon ∷ padded 2 s.second) ++ fraction_text s.billionths) rest × (length text ≤ 13 + length rest)
  unfolding seconds_form
  seconds_read =
      through (marked colon (digits 2) text) _ e (λ n t f g.
      through (or_else (fraction t) (took 0 t)) _ g (λ k after h i.
      let same = took_inj (seconds n k) s after rest i in
      let second = (digits_marked colon 2 text n t f).0 in
      let a = long text (colon ∷ padded 2 n) t 3 second (ap suc (padded_length 2 n)) in
      rw (← same.0, ← same.1) (
        one_after text (colon ∷ padded 2 n) t (fraction_text k) after (exactly text (colon ∷ padded 2 n) t second) (if_any_shortest t k after h),
        omega (arith, a, if_any_longest t k after h),
      )))

module _ (text : List ℕ) (t : IsoTime) where
  -- the text that is written, or the one with second 60 in place of 59
  abbrev Written : Type 0
  Written = (text ≡ time_text t) ⊎ ((t.second ≡ 59) × (text ≡ leap_text t))

  said : (h m : ℕ) (s : Seconds) → clock_time h m s ≡ t → Shortest text (spoken h m s) [] →
      (length (time_text t) ≤ length text) × (length text ≡ length (time_text t) → Written)
  said h m s same short = by_test (eqb s.second 60) refl
    where
      shown : length text ≡ length (spoken h m s) → text ≡ spoken h m s
      shown e = short.1 (omega (arith, e)) ∙ append-nil (spoken h m s)

      by_test : (q : Bool) → eqb s.second 60 ≡ q → (length (time_text t) ≤ length text) × (length text ≡ length (time_text t) → Written)
      by_test false n =
          let w : time_text t ≡ spoken h m s = ap time_text (sym same) ∙ plain_text h m s n in
          (omega (arith, ap length w, short.0), λ e. inl (shown (e ∙ ap length w) ∙ sym w))
      by_test true y =
          let l = leap_text_lem h m s y in
          let w : leap_text t ≡ spoken h m s = ap leap_text (sym same) ∙ l.1 in (
            omega (arith, ap length w, same_length t, short.0),
            λ e. inr (ap (λ (x : IsoTime). x.second) (sym same) ∙ l.0, shown (e ∙ sym (same_length t) ∙ ap length w) ∙ sym w),
          )

  pub time_shortest : time_with_seconds text ≡ took t [] → (length (time_text t) ≤ length text) × (length text ≡ length (time_text t) → Written)
  unfolding time_with_seconds
  time_shortest e =
      through (digits 2 text) _ e (λ h u f g.
      through (marked colon (digits 2) u) _ g (λ m v i j.
      through (seconds_form v) _ j (λ s after k l.
      let same = took_inj (clock_time h m s) t after [] l in
      let hour = exactly text (padded 2 h) u (digits_only 2 text h u f).0 in
      let minute = exactly u (colon ∷ padded 2 m) v (digits_marked colon 2 u m v i).0 in
      let second = (colon ∷ padded 2 s.second) ++ fraction_text s.billionths in
      said h m s same.0 (one_after text (padded 2 h) u ((colon ∷ padded 2 m) ++ second) [] hour
      (one_after u (colon ∷ padded 2 m) v second [] minute (rw same.1 at (seconds_read v s after k).0))))))

pub time_longest : (text : List ℕ) (t : IsoTime) (rest : List ℕ) → time_form text ≡ took t rest → length text ≤ 18 + length rest
unfolding time_form
time_longest text t rest e =
    through (digits 2 text) _ e (λ h u f g.
    through (marked colon (digits 2) u) _ g (λ m v i j.
    through (or_else (seconds_form v) (took (seconds 0 0) v)) _ j (λ s after k l.
    let same = took_inj (clock_time h m s) t after rest l in
    let a = long text (padded 2 h) u 2 (digits_only 2 text h u f).0 (padded_length 2 h) in
    let b = long u (colon ∷ padded 2 m) v 3 (digits_marked colon 2 u m v i).0 (ap suc (padded_length 2 m)) in
    let c : length v ≤ 13 + length after =
    one_or_other (seconds_form v) _ k (λ p. (seconds_read v s after p).1) (λ p. omega (arith, ap length (took_inj (seconds 0 0) s v after p).1)) in
    omega (arith, a, b, ap length same.1))))
