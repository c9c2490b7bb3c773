-- What a call asks of the numbers of a request and of the lent buffer.
use Rattle.std.specs.Prelude.{ℕ, ◌+◌, ◌≤◌, List, length, ℤ}
use Rattle.parameters.specs.Kinds.{Kind}
use Rattle.parameters.specs.Meaning.{Holds}

-- the numbers are of the parameters' types, and the buffer has room for the longest reply
pub record Ready (ks : List Kind) (zs : List ℤ) (at : ℕ) (out : List ℕ) : Type 0 where
  pub numbers : Holds ks zs 0
  pub room : at + 255 ≤ length out
