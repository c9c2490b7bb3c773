-- The words of the theorems on date text (proofs/Theorems.antt): what a reader of them must believe beside the definitions of the calls
-- and the words on times (date_forms).
use Rattle.std.specs.Prelude.{ℕ, ◌≡◌, List, [], ◌∷◌, ◌++◌}
use Rattle.forms.specs.Forms.{Parsed, took, then_read, marked}
use Rattle.date_forms.specs.Grammar.{date_form}
use Rattle.date_forms.specs.Texts.{date_text}
use Rattle.date_forms.specs.Claims.{time_with_seconds, leap_text}
use Rattle.iso_date_time.specs.Proposal.{date_time}
use Rattle.iso_date_time.specs.declared.IsoDateTime.{IsoDateTime}
use Rattle.date_text.specs.Paper.{capital_t}

-- a date with a time whose seconds are not left out
unfoldable pub date_time_with_seconds : List ℕ → Parsed IsoDateTime
date_time_with_seconds text =
    then_read (date_form text) (λ d t.
    then_read (marked capital_t time_with_seconds t) (λ c rest.
    took (date_time d c) rest))

-- a text that is a date with a time and says its seconds
abbrev pub DateTimeSaysSeconds : List ℕ → Type 0
DateTimeSaysSeconds text = (r : IsoDateTime) × (date_time_with_seconds text ≡ took r [])

-- the text of a date with a time with second 60 in place of its own
unfoldable pub leap_date_time_text : IsoDateTime → List ℕ
leap_date_time_text r = date_text r.date ++ (capital_t ∷ leap_text r.time)
