-- What follows of a text that was written or not.
use Prim.Native.Nat.{ℕ, ◌+◌, ◌≤◌, ◌<◌}
use native.Mathlib.Omega.{arith}
use mathlib.Core.Path.{◌≡◌, sym, ◌∙◌}
use mathlib.Core.Bool.{true, false}
use mathlib.Core.List.{List, ◌++◌}
use borrow.Author.Tests.{le-leb, lt-leb}
use lib.ListN.{length, drop, length-append, take-append-drop}
use Rattle.refusal.specs.Answer.{Answer, given, refused}
use Rattle.writing.specs.Wrote.{Wrote}
use Rattle.iso_date_time.specs.declared.IsoDateTime.{IsoDateTime}
use Rattle.date_forms.specs.Texts.{date_text, time_text}
use Rattle.iso_date.specs.Paper.{date_limits}
use Rattle.iso_date.specs.declared.IsoDate.{IsoDate}
use Rattle.iso_time.specs.Proposal.{is_valid_time}
use Rattle.iso_time.specs.declared.IsoTime.{IsoTime}
use Rattle.iso_date_time.specs.Paper.{date_time_limits}
use Rattle.date_text.specs.Paper.{date_time_text, fitting, length_of, afterwards, write_date, write_time, write_date_time}

-- ---- writing

pub too_short : (room : ℕ) (text : List ℕ) → room < length text → fitting room text ≡ refused 10
too_short room text h = rw (lt-leb (length text) room h)

pub has_room : (room : ℕ) (text : List ℕ) → length text ≤ room → fitting room text ≡ given text
has_room room text h = rw (le-leb (length text) room h)

pub refuses : (a : Answer (List ℕ)) (n : ℕ) (before : List ℕ) → a ≡ refused n → (refused n ≡ length_of a) × (before ≡ afterwards before a)
refuses a n before e = (rw e, rw e)

pub writes : {before text after : List ℕ} {end : ℕ} (a : Answer (List ℕ)) → a ≡ given text → Wrote before 0 text after end →
    (given end ≡ length_of a) × (after ≡ afterwards before a)
writes {before} {text} {after} {end} a e w =
    let long : end ≡ length text = omega (arith, w.ends) in
    let whole : after ≡ text ++ drop end before = sym (take-append-drop end after) ∙ rw (w.holds, w.keeps) in
    (rw (e, long), rw (e, ← long) whole)

pub stamp_length : (r : IsoDateTime) → length (date_time_text r) ≡ length (date_text r.date) + 1 + length (time_text r.time)
unfolding date_time_text
stamp_length r = simp length-append (omega arith)

-- of a date
module _ (d : IsoDate) (room : ℕ) (before : List ℕ) where
  pub date_refused : (n : ℕ) → refused n ≡ date_limits d →
      (refused n ≡ length_of (write_date d room)) × (before ≡ afterwards before (write_date d room))
  unfolding write_date
  date_refused n e = refuses (write_date d room) n before (rw (← e))

  pub date_has_no_room : given tt ≡ date_limits d → room < length (date_text d) →
      (refused 10 ≡ length_of (write_date d room)) × (before ≡ afterwards before (write_date d room))
  unfolding write_date
  date_has_no_room e h = refuses (write_date d room) 10 before (rw (← e) (too_short room (date_text d) h))

  pub date_written : {after : List ℕ} {end : ℕ} → given tt ≡ date_limits d → length (date_text d) ≤ room → Wrote before 0 (date_text d) after end →
      (given end ≡ length_of (write_date d room)) × (after ≡ afterwards before (write_date d room))
  unfolding write_date
  date_written e h = writes (write_date d room) (rw (← e) (has_room room (date_text d) h))

-- of a time
module _ (t : IsoTime) (room : ℕ) (before : List ℕ) where
  pub time_refused : is_valid_time t ≡ false →
      (refused 1 ≡ length_of (write_time t room)) × (before ≡ afterwards before (write_time t room))
  unfolding write_time
  time_refused e = refuses (write_time t room) 1 before (rw e)

  pub time_has_no_room : is_valid_time t ≡ true → room < length (time_text t) →
      (refused 10 ≡ length_of (write_time t room)) × (before ≡ afterwards before (write_time t room))
  unfolding write_time
  time_has_no_room e h = refuses (write_time t room) 10 before (rw e (too_short room (time_text t) h))

  pub time_written : {after : List ℕ} {end : ℕ} → is_valid_time t ≡ true → length (time_text t) ≤ room → Wrote before 0 (time_text t) after end →
      (given end ≡ length_of (write_time t room)) × (after ≡ afterwards before (write_time t room))
  unfolding write_time
  time_written e h = writes (write_time t room) (rw e (has_room room (time_text t) h))

-- of a date with a time
module _ (r : IsoDateTime) (room : ℕ) (before : List ℕ) where
  pub stamp_refused : (n : ℕ) → refused n ≡ date_time_limits r →
      (refused n ≡ length_of (write_date_time r room)) × (before ≡ afterwards before (write_date_time r room))
  unfolding write_date_time
  stamp_refused n e = refuses (write_date_time r room) n before (rw (← e))

  pub stamp_has_no_room : given tt ≡ date_time_limits r → room < length (date_time_text r) →
      (refused 10 ≡ length_of (write_date_time r room)) × (before ≡ afterwards before (write_date_time r room))
  unfolding write_date_time
  stamp_has_no_room e h = refuses (write_date_time r room) 10 before (rw (← e) (too_short room (date_time_text r) h))

  pub stamp_written : {after : List ℕ} {end : ℕ} → given tt ≡ date_time_limits r → length (date_time_text r) ≤ room → Wrote before 0 (date_time_text r) after end →
      (given end ≡ length_of (write_date_time r room)) × (after ≡ afterwards before (write_date_time r room))
  unfolding write_date_time
  stamp_written e h = writes (write_date_time r room) (rw (← e) (has_room room (date_time_text r) h))
