-- What a call hands back: a value, or the number of a refusal and nothing else.
use Rattle.std.specs.Prelude.{ℕ, Bool, true, false}

pub data Answer (A : Type 0) : Type 0 where
  given : A → Answer A
  refused : ℕ → Answer A

-- the number that is reported: 0 for an answer
abbrev pub number_of : {A : Type 0} → Answer A → ℕ
number_of (given a) = 0
number_of (refused n) = n

-- a check in the order of the rules: where it fails its number is the answer, else the rest decides
abbrev pub check : {A : Type 0} → Bool → ℕ → Answer A → Answer A
check true n rest = rest
check false n rest = refused n

-- a step in the order of the rules: a refusal ends it, a value is handed on
abbrev pub and_then : {A B : Type 0} → Answer A → (A → Answer B) → Answer B
and_then (given a) step = step a
and_then (refused n) step = refused n
