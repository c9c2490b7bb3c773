-- The text of the line protocol. A line is a list of bytes, without its newline.
use Rattle.std.specs.Prelude.{ℕ, ◌+◌, ◌-◌, ◌*◌, ◌^◌, Bool, true, false, cond, ◌&&◌, not, List, [], ◌∷◌, ltb, leb, eqb, ℤ, pos, neg_ℤ}
use Rattle.std.specs.Int.Signed.{le_z}

-- the bytes that mean something
abbrev pub space : ℕ
space = 32

abbrev pub minus_sign : ℕ
minus_sign = 45

abbrev pub digit_zero : ℕ
digit_zero = 48

abbrev pub question_mark : ℕ
question_mark = 63

abbrev pub newline : ℕ
newline = 10

-- ---- words: what stands between single spaces. Two spaces in a row have an empty word between them, one at an end of the line an empty word beside it

-- what stands before the first space, or all
unfoldable pub word : List ℕ → List ℕ
word [] = []
word (b ∷ bs) = cond (eqb b space) [] (b ∷ word bs)

-- that space and what follows it, or nothing
unfoldable pub rest : List ℕ → List ℕ
rest [] = []
rest (b ∷ bs) = cond (eqb b space) (b ∷ bs) (rest bs)

-- a text in which there is no space
abbrev pub spaceless : List ℕ → Bool
spaceless [] = true
spaceless (b ∷ bs) = cond (eqb b space) false (spaceless bs)

abbrev pub same_bytes : List ℕ → List ℕ → Bool
same_bytes [] [] = true
same_bytes [] (b ∷ bs) = false
same_bytes (a ∷ left) [] = false
same_bytes (a ∷ left) (b ∷ right) = eqb a b && same_bytes left right

-- ---- numbers

-- a number that was found, or none
pub data Found : Type 0 where
  number : ℤ → Found
  none : Found

abbrev pub is_digit : ℕ → Bool
is_digit b = leb digit_zero b && leb b 57

abbrev pub all_digits : List ℕ → Bool
all_digits [] = true
all_digits (b ∷ bs) = is_digit b && all_digits bs

-- the number that digits say, the most significant first, with v for what stands before them
unfoldable pub value_from : ℕ → List ℕ → ℕ
value_from v [] = v
value_from v (b ∷ bs) = value_from (10 * v + (b - digit_zero)) bs

-- the one shortest form of a natural: digits alone, at least one, the first of several not 0
abbrev pub shortest : List ℕ → Bool
shortest [] = false
shortest (b ∷ []) = is_digit b
shortest (b ∷ c ∷ bs) = not (eqb b digit_zero) && all_digits (b ∷ c ∷ bs)

-- a natural below 2^64
abbrev pub natural_of : List ℕ → Found
natural_of bs = cond (shortest bs && ltb (value_from 0 bs) (2 ^ 64)) (number (pos (value_from 0 bs))) none

-- what follows a `-`: a natural from 1 to 2^63
abbrev pub negative_of : List ℕ → Found
negative_of bs = cond (shortest bs && (ltb 0 (value_from 0 bs) && leb (value_from 0 bs) (2 ^ 63))) (number (neg_ℤ (pos (value_from 0 bs)))) none

-- a number of the protocol
unfoldable pub number_of : List ℕ → Found
number_of [] = none
number_of (b ∷ bs) = cond (eqb b minus_sign) (negative_of bs) (natural_of (b ∷ bs))

-- the number, where it is one from low to high
unfoldable pub within : ℤ → ℤ → Found → Found
within low high none = none
within low high (number z) = cond (le_z low z && le_z z high) (number z) none
