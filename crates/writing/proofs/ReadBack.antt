-- What is written is read back: the text of a number of 64 bits, with a sign or without, says that number.
use Prim.Native.Nat.{ℕ, zero, suc, ◌+◌, ◌-◌, ◌*◌, ◌/◌, ◌%◌, ◌^◌, ◌≤◌, ◌<◌, min}
use native.Mathlib.Omega.{arith}
use mathlib.Core.Path.{◌≡◌, refl, sym, ap, ◌∙◌}
use mathlib.Core.Logic.{⊎_elim}
use mathlib.Core.Bool.{Bool, true, ◌&&◌}
use mathlib.Core.List.{List, [], ◌∷◌, ◌++◌}
use borrow.Author.Tests.{lt-ltb, le-leb}
use lib.IntN.{ℤ, pos, negsuc, neg_ℤ}
use lib.Signed.{◌≤ℤ◌, ◌<ℤ◌}
use lib.ListN.{get_or, get_or-append}
use lib.Seq.{take_all}
use Rattle.whole.proofs.Laws.{split, ints}
use Rattle.lines.specs.Text.{number, digit_zero, minus_sign, is_digit, all_digits, value_from, natural_of, number_of}
use Rattle.writing.specs.Text.{digits, decimal}
use Rattle.writing.proofs.Digits.{one_digit, more_digits, some_digit, several, count_one}
use Rattle.lines.proofs.Numbers.{read_from, natural_one, natural_more, number_plain, number_minus, unsigned, negative_some}

-- the digits of a number are digits

last_is_digit : (bs : List ℕ) (b : ℕ) → is_digit b ≡ true → all_digits (bs ++ (b ∷ [])) ≡ all_digits bs
last_is_digit [] b e = rw e
last_is_digit (c ∷ cs) b e = ap (λ (t : Bool). is_digit c && t) (last_is_digit cs b e)

digit : (n : ℕ) → n < 10 → is_digit (digit_zero + n) ≡ true
digit n h =
    let l : digit_zero ≤ digit_zero + n = omega arith in
    let m : digit_zero + n ≤ 57 = omega arith in
    rw (le-leb _ _ l, le-leb _ _ m)

all_digits_lem : (m n : ℕ) → all_digits (digits m n) ≡ true
unfolding digits
all_digits_lem zero n = refl
all_digits_lem (suc m) n =
    ⊎_elim
    (λ h. rw (one_digit m n h, digit n h))
    (λ h. rw (more_digits m n h) (last_is_digit (digits m (n / 10)) (digit_zero + n % 10) (digit (n % 10) (omega arith)) ∙ all_digits_lem m (n / 10)))
    (split n 10)

-- they say the number

last_value : (v : ℕ) (bs : List ℕ) (b : ℕ) → value_from v (bs ++ (b ∷ [])) ≡ 10 * value_from v bs + (b - digit_zero)
unfolding value_from
last_value v [] b = refl
last_value v (c ∷ cs) b = last_value (10 * v + (c - digit_zero)) cs b

value : (m n : ℕ) → n < 10 ^ suc m → value_from 0 (digits (suc m) n) ≡ n
unfolding value_from
value zero n h = rw (one_digit 0 n (omega arith)) (omega arith)
value (suc m) n h =
    ⊎_elim
    (λ l. rw (one_digit (suc m) n l) (omega arith))
    (λ l. rw (more_digits (suc m) n l, last_value 0 (digits (suc m) (n / 10)) (digit_zero + n % 10), value m (n / 10) (omega arith)) (omega arith))
    (split n 10)

-- and the first is no sign, and not 0 unless the number is

first : (m n : ℕ) → n < 10 ^ suc m → digit_zero + min 1 n ≤ get_or (digits (suc m) n) 0 0
first zero n h = rw (one_digit 0 n (omega arith)) (omega arith)
first (suc m) n h =
    ⊎_elim
    (λ l. rw (one_digit (suc m) n l) (omega arith))
    (λ l. rw (more_digits (suc m) n l, get_or-append (digits (suc m) (n / 10)) _ 0 0 (some_digit m (n / 10)))
    (omega (arith, first m (n / 10) (omega arith))))
    (split n 10)

natural_back : (n : ℕ) → n < 2 ^ 64 → natural_of (digits 20 n) ≡ number (pos n)
natural_back n h =
    let v : value_from 0 (digits 20 n) ≡ n = value 19 n (omega arith) in
    let r : read_from 0 (digits 20 n) ≡ number (pos n) = rw (all_digits_lem 20 n, v, lt-ltb n (2 ^ 64) h) in
    ⊎_elim
    (λ l. natural_one (digits 20 n) (omega (arith, count_one n l)) (omega (arith, count_one n l)) ∙ r)
    (λ l. natural_more (digits 20 n) (several 18 n l) (omega (arith, first 19 n (omega arith))) ∙ r)
    (split n 10)

pub read_back : (z : ℤ) → neg_ℤ (pos (2 ^ 63)) ≤ℤ z → z <ℤ pos (2 ^ 64) → number_of (decimal z) ≡ number z
unfolding decimal
read_back (pos n) low high =
    let h : n < 2 ^ 64 = omega (arith, ints) in
    number_plain (digits 20 n) (omega (arith, first 19 n (omega arith))) ∙ natural_back n h
read_back (negsuc n) low high =
    let h : suc n ≤ 2 ^ 63 = omega (arith, ints) in
    let e : unsigned (minus_sign ∷ digits 20 (suc n)) ≡ digits 20 (suc n) = take_all _ _ (omega arith) in
    number_minus (minus_sign ∷ digits 20 (suc n)) refl ∙
    rw e (sym (negative_some (digits 20 (suc n)) (suc n) (sym (natural_back (suc n) (omega arith))) (omega arith) h))
