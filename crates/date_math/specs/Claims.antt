-- What is said of the difference of two dates beyond the rules: every part has the direction in which the second date lies. And the word
-- by which demand 3 is said of an answer, which has a count as well.
use Rattle.std.specs.Prelude.{ℕ, ◌≡◌, Bool, true, false, ℤ, ◌≤ℤ◌}
use Rattle.refusal.specs.Answer.{Answer, given, and_then}
use Rattle.date_duration.specs.Proposal.{duration}
use Rattle.date_duration.specs.declared.DateDuration.{DateDuration}
use Rattle.date_math.specs.Proposal.{directed}
use Rattle.date_math.specs.declared.DateDifference.{DateDifference}

-- the duration in an answer; a refusal has none
abbrev pub duration_in : Answer DateDifference → Answer DateDuration
duration_in a = and_then a (λ d. given d.duration)

-- b is not behind a, seen in the direction
abbrev pub Ahead : Bool → ℤ → ℤ → Type 0
Ahead true a b = a ≤ℤ b
Ahead false a b = b ≤ℤ a

-- each part is a count in the direction
pub record PartsAhead (forward : Bool) (r : DateDuration) : Type 0 where
  pub years : ℕ
  pub months : ℕ
  pub weeks : ℕ
  pub days : ℕ
  pub are : r ≡ duration (directed forward years) (directed forward months) (directed forward weeks) (directed forward days)
