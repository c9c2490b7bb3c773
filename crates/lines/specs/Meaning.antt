-- What the answers of the functions that read mean: a number that was found, or none.
use Rattle.std.specs.Prelude.{ℕ, ℤ, pos, Option, Some, None}
use Rattle.lines.specs.Text.{Found, number, none}

abbrev pub of_number : Option ℤ → Found
of_number (Some z) = number z
of_number None = none

abbrev pub of_natural : Option ℕ → Found
of_natural (Some n) = number (pos n)
of_natural None = none
