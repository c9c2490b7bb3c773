-- The words of the theorems on date text: what a reader of them must believe beside the grammar and the texts.
use Rattle.std.specs.Prelude.{ℕ, ◌≡◌, List, [], ◌∷◌, ◌++◌}
use Rattle.forms.specs.Forms.{Parsed, took, then_read, marked, digits, padded, fraction_text}
use Rattle.iso_time.specs.declared.IsoTime.{IsoTime}
use Rattle.date_forms.specs.Grammar.{colon, seconds_form, clock_time}
use Rattle.date_forms.specs.Texts.{billionths_of}

-- a time whose seconds are not left out
unfoldable pub time_with_seconds : List ℕ → Parsed IsoTime
time_with_seconds text =
    then_read (digits 2 text) (λ h t.
    then_read (marked colon (digits 2) t) (λ m u.
    then_read (seconds_form u) (λ s rest.
    took (clock_time h m s) rest)))

-- a text that is a time and says its seconds
abbrev pub TimeSaysSeconds : List ℕ → Type 0
TimeSaysSeconds text = (t : IsoTime) × (time_with_seconds text ≡ took t [])

-- the text of a time with second 60 in place of its own
unfoldable pub leap_text : IsoTime → List ℕ
leap_text t =
    padded 2 t.hour ++ ((colon ∷ padded 2 t.minute) ++ ((colon ∷ padded 2 60) ++ fraction_text (billionths_of t)))
