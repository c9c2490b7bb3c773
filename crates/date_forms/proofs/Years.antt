-- The year of a text: which production takes it behind a sign, and the digits as the code keeps them.
use Prim.Native.Nat.{ℕ}
use mathlib.Core.Path.{◌≡◌, refl, sym}
use mathlib.Core.Bool.{false, cond}
use mathlib.Core.List.{List, ◌∷◌}
use lib.Dec.{eqb}
use lib.IntN.{pos, neg_ℤ}
use Rattle.std.specs.Prelude.{Option}
use Rattle.std.specs.Borrow.{Bor}
use Rattle.lines.specs.Text.{is_digit}
use Rattle.forms.specs.Forms.{Parsed, took, nothing, then_read, or_else, marked, digit, digits}
use Rattle.forms.specs.Pieces.{of_read}
use Rattle.forms.proofs.Digits.{fewer}
use Rattle.date_forms.specs.Grammar.{plus, hyphen, year_form}

-- a sign is no digit
pub no_four : (b : ℕ) (rest : List ℕ) → is_digit b ≡ false → digits 4 (b ∷ rest) ≡ nothing
unfolding digits digit
no_four b rest bad = let one : digits 1 (b ∷ rest) ≡ nothing = rw bad in fewer 3 1 (b ∷ rest) one 4 refl

or_nothing : {A : Type 0} (p : Parsed A) → or_else p nothing ≡ p
or_nothing nothing = refl
or_nothing (took a rest) = refl

plus_first : (rest : List ℕ) → year_form (plus ∷ rest) ≡ then_read (digits 6 rest) (λ n after. took (pos n) after)
unfolding year_form marked
plus_first rest = rw (no_four plus rest refl) (or_nothing (then_read (digits 6 rest) (λ n after. took (pos n) after)))

minus_first : (rest : List ℕ) → year_form (hyphen ∷ rest) ≡ then_read (digits 6 rest) (λ n after. cond (eqb n 0) nothing (took (neg_ℤ (pos n)) after))
unfolding year_form marked
minus_first rest = rw (no_four hyphen rest refl)

-- what was read of the six digits behind a sign, as the year of the text
module _ (rest : List ℕ) (r : Option (ℕ × Bor (List ℕ))) (read : of_read r ≡ digits 6 rest) where
  pub year_plus : then_read (of_read r) (λ n after. took (pos n) after) ≡ year_form (plus ∷ rest)
  year_plus = rw read (sym (plus_first rest))

  pub year_minus : then_read (of_read r) (λ n after. cond (eqb n 0) nothing (took (neg_ℤ (pos n)) after)) ≡ year_form (hyphen ∷ rest)
  year_minus = rw read (sym (minus_first rest))
