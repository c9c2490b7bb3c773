-- What the numbers of a request mean, as the code keeps them, and that they are of their parameters' types.
use Rattle.std.specs.Prelude.{ℕ, ◌≡◌, Bool, false, cond, List, [], ◌∷◌, Option, Some, None, ℤ, pos, nat_abs, get_or, take, drop, ◌≤ℤ◌}
use Rattle.parameters.specs.Kinds.{Kind, Arguments, these, no_arguments}
use Rattle.parameters.specs.declared.Numbers.{Numbers}

abbrev pub numbers_in : Numbers → List ℤ
numbers_in n = take n.count n.cells

-- the numbers of a line, or that it is no request
abbrev pub of_numbers : Option Numbers → Arguments
of_numbers (Some n) = these (numbers_in n)
of_numbers None = no_arguments

-- what was read of a line
pub record Reads (r : Option Numbers) (a : Arguments) : Type 0 where
  pub reads_as : of_numbers r ≡ a

-- the same where the numbers were read into others: these stay as they were where the line is no request
pub record ReadsInto (before : Numbers) (known : Bool) (after : Numbers) (a : Arguments) : Type 0 where
  pub reads : Reads (cond known (Some after) None) a
  pub kept : known ≡ false → after ≡ before

-- the i-th number, from 0, and its size
abbrev pub at : List ℤ → ℕ → ℤ
at zs i = get_or zs i (pos 0)

abbrev pub nat_at : List ℤ → ℕ → ℕ
nat_at zs i = nat_abs (at zs i)

-- a number for each of the types, and of that type; others may follow
unfoldable pub Are : List Kind → List ℤ → Type 0
Are [] zs = Unit {0}
Are (k ∷ ks) [] = ⊥
Are (k ∷ ks) (z ∷ zs) = ((k.low ≤ℤ z) × (z ≤ℤ k.high)) × Are ks zs

-- from the i-th on, the numbers are of the types
pub record Holds (ks : List Kind) (zs : List ℤ) (i : ℕ) : Type 0 where
  pub are : Are ks (drop i zs)
