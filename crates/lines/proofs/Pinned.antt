-- Two results that the contract of a reading function allows are one: each number has one way to be said.
use Rattle.std.proofs.Common.{◌≡◌, refl, ℤ}
use Rattle.std.specs.Prelude.{Option, Some, None}
use Rattle.lines.specs.Text.{Found}
use Rattle.lines.specs.Meaning.{of_number}

pub one_number : (a : Found) (r s : Option ℤ) → of_number r ≡ a → of_number s ≡ a → r ≡ s
one_number a None None e f = refl
one_number a None (Some w) e f = cc
one_number a (Some z) None e f = cc
one_number a (Some z) (Some w) e f = cc
