-- Which numbers lie between two bounds.
use Rattle.std.proofs.Common.{◌≡◌, Bool, true, false, ◌&&◌, ℤ}
use Rattle.std.specs.Prelude.{Option, Some, None, MatchOption}
use Rattle.std.specs.Bool.{then_some}
use lib.Signed.{le_z}
use Rattle.lines.specs.Text.{number, within}
use Rattle.lines.specs.Meaning.{of_number}

kept_by : (low high n : ℤ) (b : Bool) → b ≡ (le_z low n && le_z n high) → of_number (then_some b n) ≡ within low high (number n)
unfolding within
kept_by low high n true e = rw (← e)
kept_by low high n false e = rw (← e)

-- what `filter` keeps, where its closure says whether a number lies between the bounds
pub kept_within : (low high : ℤ) (x r : Option ℤ) (Says : ℤ → Bool → Type 0) → ((n : ℤ) (b : Bool) → Says n b → b ≡ (le_z low n && le_z n high)) →
    MatchOption x (r ≡ None) (λ n. (b : Bool) × Says n b × (r ≡ then_some b n)) → of_number r ≡ within low high (of_number x)
unfolding within
kept_within low high None r Says f e = rw e
kept_within low high (Some n) r Says f e = rw e.2 (kept_by low high n e.0 (f n e.0 e.1))
