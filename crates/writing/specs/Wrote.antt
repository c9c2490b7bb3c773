-- What a function that writes text into a lent buffer says of it: every byte of the buffer afterwards.
use Rattle.std.specs.Prelude.{ℕ, ◌+◌, ◌≡◌, List, ◌++◌, length, take, drop}

-- the text stands in `after` from `at` to `end`, and what stood before `at` and from `end` on still does
pub record Wrote (before : List ℕ) (at : ℕ) (text after : List ℕ) (end : ℕ) : Type 0 where
  pub ends : end ≡ at + length text
  pub holds : take end after ≡ take at before ++ text
  pub keeps : drop end after ≡ drop end before
  pub sized : length after ≡ length before
