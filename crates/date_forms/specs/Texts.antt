-- The text of a date and of a time: the one shortest form that has seconds.
use Rattle.std.specs.Prelude.{ℕ, ◌+◌, ◌*◌, cond, ◌&&◌, List, ◌∷◌, ◌++◌, ℤ, pos, nat_abs}
use Rattle.std.specs.Int.Signed.{le_z, lt_z}
use Rattle.forms.specs.Forms.{padded, fraction_text}
use Rattle.iso_date.specs.declared.IsoDate.{IsoDate}
use Rattle.iso_time.specs.declared.IsoTime.{IsoTime}
use Rattle.date_forms.specs.Grammar.{plus, hyphen, colon}

-- four digits where they are enough, else a sign and six
unfoldable pub year_text : ℤ → List ℕ
year_text y =
    cond (le_z (pos 0) y && le_z y (pos 9999)) (padded 4 (nat_abs y)) (cond (lt_z y (pos 0)) hyphen plus ∷ padded 6 (nat_abs y))

unfoldable pub date_text : IsoDate → List ℕ
date_text d = year_text d.year ++ ((hyphen ∷ padded 2 d.month) ++ (hyphen ∷ padded 2 d.day))

abbrev pub billionths_of : IsoTime → ℕ
billionths_of t = t.millisecond * 1_000_000 + t.microsecond * 1_000 + t.nanosecond

-- seconds always; the fraction without zeros at its end, and none where it is zero
unfoldable pub time_text : IsoTime → List ℕ
time_text t =
    padded 2 t.hour ++ ((colon ∷ padded 2 t.minute) ++ ((colon ∷ padded 2 t.second) ++ fraction_text (billionths_of t)))
