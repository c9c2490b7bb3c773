-- Parameters, and the numbers of a request read as these.
use Rattle.std.specs.Prelude.{ℕ, ◌-◌, ◌^◌, List, [], ◌∷◌, ℤ, pos, neg_ℤ}
use Rattle.lines.specs.Text.{word, rest, Found, number, none, number_of, within}

-- ---- parameters: the numbers that a type takes

pub record Kind : Type 0 where
  pub low : ℤ
  pub high : ℤ

abbrev pub signed : ℕ → Kind
signed bits = record { low = neg_ℤ (pos (2 ^ (bits - 1))); high = pos (2 ^ (bits - 1) - 1) }

abbrev pub unsigned : ℕ → Kind
unsigned bits = record { low = pos 0; high = pos (2 ^ bits - 1) }

abbrev pub one_of : ℕ → Kind
one_of choices = record { low = pos 0; high = pos (choices - 1) }

-- ---- the numbers of a request, or none where one is missing, one too many, or no number of its parameter's type

pub data Arguments : Type 0 where
  these : List ℤ → Arguments
  no_arguments : Arguments

unfoldable pub also : Found → Arguments → Arguments
also none others = no_arguments
also (number z) no_arguments = no_arguments
also (number z) (these zs) = these (z ∷ zs)

-- what follows the name of a call: for each parameter a space and its number, and nothing more. What follows a word starts with its space,
-- which is passed over
unfoldable pub arguments : List Kind → List ℕ → Arguments
arguments [] [] = these []
arguments [] (b ∷ bs) = no_arguments
arguments (k ∷ ks) [] = no_arguments
arguments (k ∷ ks) (b ∷ bs) = also (within k.low k.high (number_of (word bs))) (arguments ks (rest bs))
