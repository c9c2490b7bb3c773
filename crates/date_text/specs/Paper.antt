-- What the readers and writers of date text answer, for every text and every record: the form (9), the fields (1), the limits (2 or 3),
-- and for a writer last the room (10).
use Rattle.std.specs.Prelude.{ℕ, List, [], ◌∷◌, ◌++◌, leb, length, drop}
use Rattle.refusal.specs.Answer.{Answer, given, refused, check, and_then}
use Rattle.forms.specs.Forms.{Parsed, took, nothing, then_read, marked}
use Rattle.date_forms.specs.Grammar.{date_form, time_form}
use Rattle.date_forms.specs.Texts.{date_text, time_text}
use Rattle.iso_date.specs.Paper.{date_limits}
use Rattle.iso_date.specs.declared.IsoDate.{IsoDate}
use Rattle.iso_time.specs.Proposal.{is_valid_time}
use Rattle.iso_time.specs.declared.IsoTime.{IsoTime}
use Rattle.iso_date_time.specs.Proposal.{date_time}
use Rattle.iso_date_time.specs.Paper.{date_time_limits}
use Rattle.iso_date_time.specs.declared.IsoDateTime.{IsoDateTime}

-- ---- a date with a time: a date, a capital T, a time

abbrev pub capital_t : ℕ
capital_t = 84

unfoldable pub date_time_form : List ℕ → Parsed IsoDateTime
date_time_form text =
    then_read (date_form text) (λ d t.
    then_read (marked capital_t time_form t) (λ c rest.
    took (date_time d c) rest))

unfoldable pub date_time_text : IsoDateTime → List ℕ
date_time_text r = date_text r.date ++ (capital_t ∷ time_text r.time)

-- ---- reading

-- a text of the form, used up wholly
abbrev pub wholly : {A : Type 0} → Parsed A → Answer A
wholly (took a []) = given a
wholly (took a (b ∷ rest)) = refused 9
wholly nothing = refused 9

unfoldable pub read_date : List ℕ → Answer IsoDate
read_date text = and_then (wholly (date_form text)) (λ d. and_then (date_limits d) (λ _. given d))

-- a time has no limits
unfoldable pub read_time : List ℕ → Answer IsoTime
read_time text = and_then (wholly (time_form text)) (λ t. check (is_valid_time t) 1 (given t))

unfoldable pub read_date_time : List ℕ → Answer IsoDateTime
read_date_time text = and_then (wholly (date_time_form text)) (λ r. and_then (date_time_limits r) (λ _. given r))

-- ---- writing, into a lent slice with room for so many bytes

abbrev pub fitting : ℕ → List ℕ → Answer (List ℕ)
fitting room text = check (leb (length text) room) 10 (given text)

unfoldable pub write_date : IsoDate → ℕ → Answer (List ℕ)
write_date d room = and_then (date_limits d) (λ _. fitting room (date_text d))

unfoldable pub write_time : IsoTime → ℕ → Answer (List ℕ)
write_time t room = check (is_valid_time t) 1 (fitting room (time_text t))

unfoldable pub write_date_time : IsoDateTime → ℕ → Answer (List ℕ)
write_date_time r room = and_then (date_time_limits r) (λ _. fitting room (date_time_text r))

-- the number that a writer hands back: the length of the text
abbrev pub length_of : Answer (List ℕ) → Answer ℕ
length_of (given text) = given (length text)
length_of (refused n) = refused n

-- every byte of the lent slice afterwards: the text and what stood behind it; on a refusal what stood there
abbrev pub afterwards : List ℕ → Answer (List ℕ) → List ℕ
afterwards before (given text) = text ++ drop (length text) before
afterwards before (refused n) = before
