-- A grammar as productions, each of which takes what it describes off the front of a text. A text is a list of bytes.
use Rattle.std.specs.Prelude.{ℕ, zero, suc, ◌+◌, ◌-◌, ◌*◌, ◌/◌, ◌%◌, cond, ◌&&◌, List, [], ◌∷◌, ◌++◌, leb, eqb, length, replicate}
use Rattle.lines.specs.Text.{digit_zero, is_digit}

-- what a production takes: a value and the text after it; or the text does not begin so
pub data Parsed (A : Type 0) : Type 0 where
  took : A → List ℕ → Parsed A
  nothing : Parsed A

-- one after the other
abbrev pub then_read : {A B : Type 0} → Parsed A → (A → List ℕ → Parsed B) → Parsed B
then_read (took a rest) next = next a rest
then_read nothing next = nothing

-- the first, or where the text does not begin so, the second
abbrev pub or_else : {A : Type 0} → Parsed A → Parsed A → Parsed A
or_else (took a rest) other = took a rest
or_else nothing other = other

-- a byte, and what follows it
unfoldable pub marked : {A : Type 0} → ℕ → (List ℕ → Parsed A) → List ℕ → Parsed A
marked mark form [] = nothing
marked mark form (b ∷ rest) = cond (eqb b mark) (form rest) nothing

-- ---- digits

unfoldable pub digit : List ℕ → Parsed ℕ
digit [] = nothing
digit (b ∷ rest) = cond (is_digit b) (took (b - digit_zero) rest) nothing

-- n digits, and the number that they say
unfoldable pub digits : ℕ → List ℕ → Parsed ℕ
digits zero text = took 0 text
digits (suc n) text = then_read (digits n text) (λ v rest. then_read (digit rest) (λ d after. took (10 * v + d) after))

-- the last n digits of a number, with zeros before them where it has fewer
unfoldable pub padded : ℕ → ℕ → List ℕ
padded zero v = []
padded (suc n) v = padded n (v / 10) ++ ((digit_zero + v % 10) ∷ [])

-- ---- a fraction: a point and one to nine digits, as many as there are. Filled up with zeros to nine they say the billionths

abbrev pub point : ℕ
point = 46

-- the digits that a text begins with
unfoldable pub run : List ℕ → Parsed (List ℕ)
run [] = took [] []
run (b ∷ rest) = cond (is_digit b) (then_read (run rest) (λ ds after. took (b ∷ ds) after)) (took [] (b ∷ rest))

-- one to nine digits as billionths, before what follows them
unfoldable pub filled : List ℕ → List ℕ → Parsed ℕ
filled ds after =
    cond (leb 1 (length ds) && leb (length ds) 9)
    (then_read (digits 9 (ds ++ replicate (9 - length ds) digit_zero)) (λ n none. took n after)) nothing

unfoldable pub fraction : List ℕ → Parsed ℕ
fraction text = then_read (marked point run text) filled

-- a byte before a text whose zeros at the end are gone: a zero before nothing goes too
abbrev pub keep : ℕ → List ℕ → List ℕ
keep b [] = cond (eqb b digit_zero) [] (b ∷ [])
keep b (c ∷ rest) = b ∷ c ∷ rest

-- a text without the zeros at its end
unfoldable pub trimmed : List ℕ → List ℕ
trimmed [] = []
trimmed (b ∷ rest) = keep b (trimmed rest)

-- a point before digits, where there are any
abbrev pub pointed : List ℕ → List ℕ
pointed [] = []
pointed (d ∷ ds) = point ∷ d ∷ ds

-- the shortest text of so many billionths: none for 0
unfoldable pub fraction_text : ℕ → List ℕ
fraction_text n = pointed (trimmed (padded 9 n))
