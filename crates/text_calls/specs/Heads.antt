-- What stands before the text that a writer wrote, or the number of its refusal.
use Rattle.std.specs.Prelude.{Result, Ok, Err, ℕ, List, [], ◌∷◌, pos}
use Rattle.lines.specs.Text.{digit_zero, space}
use Rattle.writing.specs.Text.{decimal}
use Rattle.refusal.specs.Refusals.{refusal_number}
use Rattle.refusal.specs.declared.Refusal.{Refusal}

abbrev pub head_of : Result ℕ Refusal → List ℕ
head_of (Ok n) = digit_zero ∷ space ∷ []
head_of (Err e) = decimal (pos (refusal_number e))

-- how many bytes stand behind it
abbrev pub behind : Result ℕ Refusal → ℕ
behind (Ok n) = n
behind (Err e) = 0
