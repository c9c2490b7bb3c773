-- What holds of date text beyond the definitions of the calls: what is written is read back; of the texts that say the seconds and are read
-- alike, none is shorter than what is written, and none other is as short but the one with second 60 for 59; a long text is none; each text is
-- of one kind; and records within the limits that have one text are one.
use Prim.Native.Nat.{ℕ, suc, ◌+◌, ◌≤◌, ◌<◌}
use native.Mathlib.Omega.{arith}
use mathlib.Core.Path.{◌≡◌, refl, sym, ap, ◌∙◌}
use mathlib.Core.Bool.{true}
use mathlib.Core.Logic.{◌⊎◌, inl, inr, ⊎_elim}
use mathlib.Core.List.{List, [], ◌∷◌, ◌++◌, append-nil}
use lib.Dec.{leb}
use lib.IntN.{pos, neg_ℤ}
use lib.ListN.{length, length-append}
use lib.Signed.{◌≤ℤ◌}
use Rattle.refusal.specs.Answer.{Answer, given, refused, and_then}
use Rattle.refusal.proofs.Answers.{given_inj, never}
use Rattle.whole.proofs.Laws.{ints, size_of, range_of}
use Rattle.iso_date.specs.Proposal.{is_valid_iso_date, iso_date_within_limits, epoch_days}
use Rattle.iso_date.specs.Paper.{date_limits}
use Rattle.iso_date.specs.declared.IsoDate.{IsoDate}
use Rattle.iso_date.proofs.Theorems.{limits_are}
use Rattle.iso_time.specs.Proposal.{is_valid_time}
use Rattle.iso_time.specs.declared.IsoTime.{IsoTime}
use Rattle.date_math.proofs.Order.{valid_proper}
use Rattle.date_math.proofs.Sums.{limit_year}
use Rattle.iso_date_time.specs.Proposal.{date_time}
use Rattle.iso_date_time.specs.Paper.{date_time_limits}
use Rattle.iso_date_time.specs.declared.IsoDateTime.{IsoDateTime}
use Rattle.iso_date_time.proofs.Moments.{check_passed, limits_fine}
use Rattle.iso_date_time.proofs.Differences.{fine_day}
use Rattle.forms.specs.Forms.{Parsed, took, nothing, marked}
use Rattle.forms.proofs.Padded.{took_inj}
use Rattle.forms.proofs.Shortest.{through, marked_only}
use Rattle.date_forms.specs.Grammar.{date_form, time_form}
use Rattle.date_forms.specs.Texts.{date_text, time_text}
use Rattle.date_forms.specs.Claims.{time_with_seconds, TimeSaysSeconds, leap_text}
use Rattle.date_forms.proofs.ReadBack.{date_back, time_back, seconds_back, leap_back, seconds_said}
use Rattle.date_forms.proofs.Shortest.{date_shortest, date_longest, time_shortest, time_longest, same_length}
use Rattle.date_forms.proofs.OneKind.{time_is_no_date, date_is_no_time}
use Rattle.date_text.specs.Paper.{capital_t, date_time_form, date_time_text, wholly, read_date, read_time, read_date_time}
use Rattle.date_text.specs.Paper.{fitting, write_date, write_time, write_date_time}
use Rattle.date_text.specs.Claims.{date_time_with_seconds, DateTimeSaysSeconds, leap_date_time_text}

-- ---- a date within the limits has a text: the fields are no larger than their digits can say

date_fits : (d : IsoDate) (rest : List ℕ) → is_valid_iso_date d ≡ true → neg_ℤ (pos 100_000_001) ≤ℤ epoch_days d → epoch_days d ≤ℤ pos 100_000_000 →
    date_form (date_text d ++ rest) ≡ took d rest
date_fits d rest v low high =
    let p = valid_proper d v in
    let y = limit_year d (record { valid = v; low = low; high = high }) in
    date_back d rest (omega (arith, ints, y.0, y.1, size_of d.year, range_of d.year)) (omega (arith, p.month_high)) (omega (arith, p.day_high))

-- the same of the date of a date with a time
date_part_fits : (r : IsoDateTime) (rest : List ℕ) → date_time_limits r ≡ given tt → date_form (date_text r.date ++ rest) ≡ took r.date rest
date_part_fits r rest e =
    let f = limits_fine r (sym e) in
    let days = fine_day r f in
    date_fits r.date rest f.date_valid days.0 days.1

-- what the checks of a date tell
date_passed : (d : IsoDate) → date_limits d ≡ given tt → (is_valid_iso_date d ≡ true) × (iso_date_within_limits d ≡ true)
unfolding date_limits
date_passed d e =
    let v = check_passed (is_valid_iso_date d) 1 _ tt e in
    let w = check_passed (iso_date_within_limits d) 2 _ tt v.1 in
    (v.0, w.0)

-- ---- what is written is read back

-- the text of a date within the limits is read as that date
pub date_is_read_back : (d : IsoDate) → date_limits d ≡ given tt → read_date (date_text d) ≡ given d
unfolding read_date
date_is_read_back d e =
    let p = date_passed d e in
    let days = (limits_are d).0 p.1 in
    let f : date_form (date_text d) ≡ took d [] = rw (append-nil (date_text d)) at (date_fits d [] p.0 days.0 days.1) in
    rw (f, e)

-- the text of a valid time is read as that time
pub time_is_read_back : (t : IsoTime) → is_valid_time t ≡ true → read_time (time_text t) ≡ given t
unfolding read_time
time_is_read_back t e = rw (time_back t e, e)

-- the text of a date with a time within the limits is read as that date with that time
pub date_time_is_read_back : (r : IsoDateTime) → date_time_limits r ≡ given tt → read_date_time (date_time_text r) ≡ given r
unfolding read_date_time date_time_form date_time_text marked
date_time_is_read_back r e =
    rw (date_part_fits r (capital_t ∷ time_text r.time) e, time_back r.time (limits_fine r (sym e)).time_valid, e)

-- ---- and so is what a writer wrote

-- a step that gave a value was reached
then_given : {A B : Type 0} (p : Answer A) (step : A → Answer B) (b : B) → and_then p step ≡ given b → (a : A) × ((p ≡ given a) × (step a ≡ given b))
then_given (given a) step b e = (a, (refl, e))
then_given (refused n) step b e = never b n e

fitted : (room : ℕ) (text out : List ℕ) → fitting room text ≡ given out → text ≡ out
fitted room text out e = given_inj text out (check_passed (leb (length text) room) 10 (given text) out e).1

-- whatever write_date writes, read_date reads as that date
pub written_date_is_read_back : (d : IsoDate) (room : ℕ) (text : List ℕ) → write_date d room ≡ given text → read_date text ≡ given d
unfolding write_date
written_date_is_read_back d room text e =
    let p = then_given (date_limits d) (λ _. fitting room (date_text d)) text e in
    rw (← fitted room (date_text d) text p.1.1) (date_is_read_back d p.1.0)

-- whatever write_time writes, read_time reads as that time
pub written_time_is_read_back : (t : IsoTime) (room : ℕ) (text : List ℕ) → write_time t room ≡ given text → read_time text ≡ given t
unfolding write_time
written_time_is_read_back t room text e =
    let p = check_passed (is_valid_time t) 1 (fitting room (time_text t)) text e in
    rw (← fitted room (time_text t) text p.1) (time_is_read_back t p.0)

-- whatever write_datetime writes, read_datetime reads as that date with that time
pub written_date_time_is_read_back : (r : IsoDateTime) (room : ℕ) (text : List ℕ) → write_date_time r room ≡ given text → read_date_time text ≡ given r
unfolding write_date_time
written_date_time_is_read_back r room text e =
    let p = then_given (date_time_limits r) (λ _. fitting room (date_time_text r)) text e in
    rw (← fitted room (date_time_text r) text p.1.1) (date_time_is_read_back r p.1.0)

-- ---- of the texts that say the seconds (a date has none) and are read alike, none is shorter than what is written, and none other is as short
-- but the one with second 60 for 59

-- what a reader read has the form, and nothing stands behind it
took_wholly : {A : Type 0} (p : Parsed A) (a : A) → wholly p ≡ given a → p ≡ took a []
took_wholly nothing a e = never a 9 e
took_wholly {A} (took b []) a e = ap (λ (x : A). took x []) (given_inj b a e)
took_wholly (took b (c ∷ rest)) a e = never a 9 e

date_form_lem : (text : List ℕ) (d : IsoDate) → read_date text ≡ given d → date_form text ≡ took d []
unfolding read_date
date_form_lem text d e =
    let f = then_given (wholly (date_form text)) _ d e in
    let g = then_given (date_limits f.0) _ d f.1.1 in
    took_wholly (date_form text) d (f.1.0 ∙ g.1.1)

time_form_lem : (text : List ℕ) (t : IsoTime) → read_time text ≡ given t → time_form text ≡ took t []
unfolding read_time
time_form_lem text t e =
    let f = then_given (wholly (time_form text)) _ t e in
    took_wholly (time_form text) t (f.1.0 ∙ (check_passed (is_valid_time f.0) 1 (given f.0) t f.1.1).1)

date_time_form_lem : (text : List ℕ) (r : IsoDateTime) → read_date_time text ≡ given r → date_time_form text ≡ took r []
unfolding read_date_time
date_time_form_lem text r e =
    let f = then_given (wholly (date_time_form text)) _ r e in
    let g = then_given (date_time_limits f.0) _ r f.1.1 in
    took_wholly (date_time_form text) r (f.1.0 ∙ g.1.1)

-- a text that is read as a date is at least as long as the date's text, and is that text where it is as long
pub date_has_one_form : (text : List ℕ) (d : IsoDate) → read_date text ≡ given d →
    (length (date_text d) ≤ length text) × (length text ≡ length (date_text d) → text ≡ date_text d)
date_has_one_form text d e =
    let s = date_shortest text d [] (date_form_lem text d e) in
    (omega (arith, s.0), λ h. s.1 (omega (arith, h)) ∙ append-nil (date_text d))

-- the same of a time whose text says its seconds, but that second 59 may stand there as 60
pub time_has_one_form : (text : List ℕ) (t : IsoTime) → read_time text ≡ given t → TimeSaysSeconds text →
    (length (time_text t) ≤ length text) × (length text ≡ length (time_text t) → (text ≡ time_text t) ⊎ ((t.second ≡ 59) × (text ≡ leap_text t)))
time_has_one_form text t e (u, f) =
    let same = (took_inj u t [] [] (sym (seconds_said text u [] f) ∙ time_form_lem text t e)).0 in
    time_shortest text t (f ∙ ap (λ (x : IsoTime). took x []) same)

module _ (text : List ℕ) (r : IsoDateTime) (e : date_time_with_seconds text ≡ took r []) where
  -- a date with a time and its seconds is a date with a time
  all_said : date_time_form text ≡ took r []
  unfolding date_time_with_seconds date_time_form marked
  all_said =
      through (date_form text) _ e (λ d t f g.
      through (marked capital_t time_with_seconds t) _ g (λ c rest h i.
      let m = marked_only capital_t time_with_seconds t c rest h in rw (f, m.1.0, seconds_said m.0 c rest m.1.1) i))

  all_shortest : (length (date_time_text r) ≤ length text) ×
      (length text ≡ length (date_time_text r) → (text ≡ date_time_text r) ⊎ ((r.time.second ≡ 59) × (text ≡ leap_date_time_text r)))
  unfolding date_time_with_seconds date_time_text leap_date_time_text
  all_shortest =
      through (date_form text) _ e (λ d t f g.
      through (marked capital_t time_with_seconds t) _ g (λ c rest h i.
      let same = took_inj (date_time d c) r rest [] i in
      let m = marked_only capital_t time_with_seconds t c rest h in
      let front = date_shortest text d t f in
      let back = time_shortest m.0 c (m.1.1 ∙ ap (λ (l : List ℕ). took c l) same.1) in
      let n : length t ≡ suc (length m.0) = ap length m.1.0 in
      let w = length-append (date_text d) (capital_t ∷ time_text c) in
      rw (← same.0) (
        omega (arith, front.0, back.0),
        λ k.
            let whole : text ≡ date_text d ++ (capital_t ∷ m.0) =
            front.1 (omega (arith, front.0, back.0)) ∙ ap (λ (l : List ℕ). date_text d ++ l) m.1.0 in
            ⊎_elim
            (λ s. inl (whole ∙ ap (λ (l : List ℕ). date_text d ++ (capital_t ∷ l)) s))
            (λ s. inr (s.0, whole ∙ ap (λ (l : List ℕ). date_text d ++ (capital_t ∷ l)) s.1))
            (back.1 (omega (arith, front.0, back.0))),
      )))

-- the same of a date with a time whose text says its seconds
pub date_time_has_one_form : (text : List ℕ) (r : IsoDateTime) → read_date_time text ≡ given r → DateTimeSaysSeconds text →
    (length (date_time_text r) ≤ length text) ×
    (length text ≡ length (date_time_text r) → (text ≡ date_time_text r) ⊎ ((r.time.second ≡ 59) × (text ≡ leap_date_time_text r)))
date_time_has_one_form text r e (u, f) =
    let same = (took_inj u r [] [] (sym (all_said text u f) ∙ date_time_form_lem text r e)).0 in
    all_shortest text r (f ∙ ap (λ (x : IsoDateTime). took x []) same)

-- ---- what is written says its seconds, so the shortest is reached

-- the text of a valid time says its seconds
pub written_time_says_seconds : (t : IsoTime) → is_valid_time t ≡ true → TimeSaysSeconds (time_text t)
written_time_says_seconds t e = (t, seconds_back t e)

-- the text of a date, and a time's text that says its seconds, are a date with a time that says its seconds
with_seconds : (r : IsoDateTime) (text : List ℕ) → date_time_limits r ≡ given tt → time_with_seconds text ≡ took r.time [] →
    date_time_with_seconds (date_text r.date ++ (capital_t ∷ text)) ≡ took r []
unfolding date_time_with_seconds marked
with_seconds r text e f = rw (date_part_fits r (capital_t ∷ text) e, f)

date_time_seconds_back : (r : IsoDateTime) → date_time_limits r ≡ given tt → date_time_with_seconds (date_time_text r) ≡ took r []
unfolding date_time_text
date_time_seconds_back r e = with_seconds r (time_text r.time) e (seconds_back r.time (limits_fine r (sym e)).time_valid)

-- the text of a date with a time within the limits says its seconds
pub written_date_time_says_seconds : (r : IsoDateTime) → date_time_limits r ≡ given tt → DateTimeSaysSeconds (date_time_text r)
written_date_time_says_seconds r e = (r, date_time_seconds_back r e)

-- ---- the one exception is real: second 60 in place of 59 is read alike, is as short, and says the seconds

-- the text of a valid time with second 60 in place of 59 is read as that time and is as long as its text
pub leap_is_read : (t : IsoTime) → is_valid_time t ≡ true → t.second ≡ 59 → (read_time (leap_text t) ≡ given t) × (length (leap_text t) ≡ length (time_text t))
unfolding read_time
leap_is_read t e last = (rw (seconds_said (leap_text t) t [] (leap_back t e last), e), same_length t)

-- it says its seconds
pub leap_says_seconds : (t : IsoTime) → is_valid_time t ≡ true → t.second ≡ 59 → TimeSaysSeconds (leap_text t)
leap_says_seconds t e last = (t, leap_back t e last)

leap_date_time_back : (r : IsoDateTime) → date_time_limits r ≡ given tt → r.time.second ≡ 59 → date_time_with_seconds (leap_date_time_text r) ≡ took r []
unfolding leap_date_time_text
leap_date_time_back r e last = with_seconds r (leap_text r.time) e (leap_back r.time (limits_fine r (sym e)).time_valid last)

-- the same of a date with a time within the limits
pub leap_date_time_is_read : (r : IsoDateTime) → date_time_limits r ≡ given tt → r.time.second ≡ 59 →
    (read_date_time (leap_date_time_text r) ≡ given r) × (length (leap_date_time_text r) ≡ length (date_time_text r))
unfolding read_date_time leap_date_time_text date_time_text
leap_date_time_is_read r e last =
    (rw (all_said (leap_date_time_text r) r (leap_date_time_back r e last), e), simp (length-append, same_length r.time))

-- it says its seconds
pub leap_date_time_says_seconds : (r : IsoDateTime) → date_time_limits r ≡ given tt → r.time.second ≡ 59 → DateTimeSaysSeconds (leap_date_time_text r)
leap_date_time_says_seconds r e last = (r, leap_date_time_back r e last)

-- ---- a long text is none

too_long : {A : Type 0} (p : Parsed A) (n : ℕ) (text : List ℕ) → ((a : A) (rest : List ℕ) → p ≡ took a rest → length text ≤ n + length rest) →
    n < length text → wholly p ≡ refused 9
too_long nothing n text most h = refl
too_long (took a (b ∷ rest)) n text most h = refl
too_long (took a []) n text most h = let z : ⊥ = omega (arith, most a [] refl) in absurd z

date_time_longest : (text : List ℕ) (r : IsoDateTime) (rest : List ℕ) → date_time_form text ≡ took r rest → length text ≤ 32 + length rest
unfolding date_time_form
date_time_longest text r rest e =
    through (date_form text) _ e (λ d t f g.
    through (marked capital_t time_form t) _ g (λ c after h i.
    let m = marked_only capital_t time_form t c after h in
    let k = time_longest m.0 c after m.1.1 in
    omega (arith, date_longest text d t f, ap length m.1.0, ap length (took_inj (date_time d c) r after rest i).1)))

-- a text of more than 13 bytes is no date
pub long_is_no_date : (text : List ℕ) → 13 < length text → read_date text ≡ refused 9
unfolding read_date
long_is_no_date text h = rw (too_long (date_form text) 13 text (date_longest text) h)

-- a text of more than 18 bytes is no time
pub long_is_no_time : (text : List ℕ) → 18 < length text → read_time text ≡ refused 9
unfolding read_time
long_is_no_time text h = rw (too_long (time_form text) 18 text (time_longest text) h)

-- a text of more than 32 bytes is no date with a time
pub long_is_no_date_time : (text : List ℕ) → 32 < length text → read_date_time text ≡ refused 9
unfolding read_date_time
long_is_no_date_time text h = rw (too_long (date_time_form text) 32 text (date_time_longest text) h)

-- so a text of more than 64 bytes is none of them
pub over_64 : (text : List ℕ) → 64 < length text → (read_date text ≡ refused 9) × ((read_time text ≡ refused 9) × (read_date_time text ≡ refused 9))
over_64 text h = (long_is_no_date text (omega arith), (long_is_no_time text (omega arith), long_is_no_date_time text (omega arith)))

-- ---- each text is of one kind: a reader that is given a text of another kind answers 9

-- a text that has the form of a date is neither a time nor a date with a time
pub date_is_of_one_kind : (text : List ℕ) (d : IsoDate) → wholly (date_form text) ≡ given d → (read_time text ≡ refused 9) × (read_date_time text ≡ refused 9)
unfolding read_time read_date_time date_time_form marked
date_is_of_one_kind text d e = let f = took_wholly (date_form text) d e in (rw (date_is_no_time text d [] f), rw f)

-- a text that has the form of a time is neither a date nor a date with a time
pub time_is_of_one_kind : (text : List ℕ) (t : IsoTime) → wholly (time_form text) ≡ given t → (read_date text ≡ refused 9) × (read_date_time text ≡ refused 9)
unfolding read_date read_date_time date_time_form
time_is_of_one_kind text t e = let f = time_is_no_date text t [] (took_wholly (time_form text) t e) in (rw f, rw f)

-- a text that has the form of a date with a time is neither a date nor a time
pub date_time_is_of_one_kind : (text : List ℕ) (r : IsoDateTime) → wholly (date_time_form text) ≡ given r →
    (read_date text ≡ refused 9) × (read_time text ≡ refused 9)
unfolding read_date read_time date_time_form
date_time_is_of_one_kind text r e =
    through (date_form text) _ (took_wholly (date_time_form text) r e) (λ d t f g.
    through (marked capital_t time_form t) _ g (λ c rest h i.
    (rw (f, (marked_only capital_t time_form t c rest h).1.0), rw (date_is_no_time text d t f))))

-- ---- one text, one reading: `date_has_one_reading` and its like hold since a reader is a function; what has content is
-- `date_by_its_text` and its like and, above, `date_is_of_one_kind`

-- a text is read as one date at most
pub date_has_one_reading : (text : List ℕ) (a b : IsoDate) → read_date text ≡ given a → read_date text ≡ given b → a ≡ b
date_has_one_reading text a b e f = given_inj a b (sym e ∙ f)

-- as one time at most
pub time_has_one_reading : (text : List ℕ) (a b : IsoTime) → read_time text ≡ given a → read_time text ≡ given b → a ≡ b
time_has_one_reading text a b e f = given_inj a b (sym e ∙ f)

-- and as one date with a time at most
pub date_time_has_one_reading : (text : List ℕ) (a b : IsoDateTime) → read_date_time text ≡ given a → read_date_time text ≡ given b → a ≡ b
date_time_has_one_reading text a b e f = given_inj a b (sym e ∙ f)

-- two dates within the limits with one text are one
pub date_by_its_text : (a b : IsoDate) → date_limits a ≡ given tt → date_limits b ≡ given tt → date_text a ≡ date_text b → a ≡ b
date_by_its_text a b e f same = date_has_one_reading (date_text a) a b (date_is_read_back a e) (rw same (date_is_read_back b f))

-- two valid times with one text are one
pub time_by_its_text : (a b : IsoTime) → is_valid_time a ≡ true → is_valid_time b ≡ true → time_text a ≡ time_text b → a ≡ b
time_by_its_text a b e f same = time_has_one_reading (time_text a) a b (time_is_read_back a e) (rw same (time_is_read_back b f))

-- two dates with a time within the limits with one text are one
pub date_time_by_its_text : (a b : IsoDateTime) → date_time_limits a ≡ given tt → date_time_limits b ≡ given tt → date_time_text a ≡ date_time_text b → a ≡ b
date_time_by_its_text a b e f same =
    date_time_has_one_reading (date_time_text a) a b (date_time_is_read_back a e) (rw same (date_time_is_read_back b f))
