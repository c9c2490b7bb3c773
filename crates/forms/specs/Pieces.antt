-- What the answers of the functions that read mean, and what is known of a fraction without the zeros at its end.
use Rattle.std.specs.Prelude.{ℕ, ◌^◌, ◌≤◌, ◌<◌, ◌≡◌, List, Option, Some, None}
use Rattle.std.specs.Borrow.{Bor}
use Rattle.forms.specs.Forms.{Parsed, took, nothing, padded, trimmed}
use Rattle.forms.specs.declared.Trimmed.{Trimmed}

-- what a function read, as a production takes it: the value and the text that is left
abbrev pub of_read : {A : Type 0} → Option (A × Bor (List ℕ)) → Parsed A
of_read (Some p) = took p.0 p.1.now
of_read None = nothing

-- the nine digits of so many billionths without the zeros at their end, as their number and their value
pub record Trims (billionths : ℕ) (t : Trimmed) : Type 0 where
  pub few : t.count ≤ 9
  pub small : t.value < 10 ^ t.count
  pub digits_are : padded t.count t.value ≡ trimmed (padded 9 billionths)
