-- How numbers are written.
use Rattle.std.specs.Prelude.{ℕ, zero, suc, ◌+◌, ◌/◌, ◌%◌, cond, List, [], ◌∷◌, ◌++◌, ltb, ℤ, pos, negsuc}
use Rattle.lines.specs.Text.{space, minus_sign, digit_zero}

-- the decimal digits of n, which has at most `most` of them, the most significant first
unfoldable pub digits : ℕ → ℕ → List ℕ
digits zero n = []
digits (suc most) n = cond (ltb n 10) ((digit_zero + n) ∷ []) (digits most (n / 10) ++ ((digit_zero + n % 10) ∷ []))

-- a number in its one shortest form; twenty digits hold every number of 64 bits
unfoldable pub decimal : ℤ → List ℕ
decimal (pos n) = digits 20 n
decimal (negsuc n) = minus_sign ∷ digits 20 (suc n)

-- values, each after a space
unfoldable pub spaced : List ℤ → List ℕ
spaced [] = []
spaced (v ∷ vs) = (space ∷ decimal v) ++ spaced vs
