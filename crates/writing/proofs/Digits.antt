-- The decimal digits of a number: how many there are, and how they are stored from the last to the first.
use Prim.Native.Nat.{ℕ, zero, suc, ◌+◌, ◌-◌, ◌*◌, ◌/◌, ◌%◌, ◌^◌, ◌≤◌, ◌<◌, max}
use native.Mathlib.Omega.{arith}
use mathlib.Core.Path.{◌≡◌, refl, sym, ap, ◌∙◌}
use mathlib.Core.Logic.{⊎_elim}
use mathlib.Core.List.{List, [], ◌∷◌, ◌++◌}
use borrow.Author.Tests.{lt-ltb, le-ltb}
use lib.ListN.{length, set, length-append}
use Rattle.whole.proofs.Laws.{split}
use Rattle.lines.specs.Text.{digit_zero}
use Rattle.writing.specs.Text.{digits}
use Rattle.writing.proofs.Writing.{placed, placed_none, put_last}

pub one_digit : (m n : ℕ) → n < 10 → digits (suc m) n ≡ (digit_zero + n) ∷ []
unfolding digits
one_digit m n h = rw (lt-ltb n 10 h)

pub more_digits : (m n : ℕ) → 10 ≤ n → digits (suc m) n ≡ digits m (n / 10) ++ ((digit_zero + n % 10) ∷ [])
unfolding digits
more_digits m n h = rw (le-ltb n 10 h)

-- ---- how many there are

pub some_digit : (m n : ℕ) → 0 < length (digits (suc m) n)
some_digit m n =
    ⊎_elim
    (λ l. rw (one_digit m n l) (omega arith))
    (λ l. rw (more_digits m n l, length-append) (omega arith))
    (split n 10)

pub few_digits : (m k n : ℕ) → n < 10 ^ suc k → length (digits m n) ≤ suc k
unfolding digits
few_digits zero k n h = omega arith
few_digits (suc m) zero n h = let l : n < 10 = omega arith in rw (one_digit m n l) (omega arith)
few_digits (suc m) (suc k) n h =
    ⊎_elim
    (λ l. rw (one_digit m n l) (omega arith))
    (λ l. rw (more_digits m n l, length-append) (omega (arith, few_digits m k (n / 10) (omega arith))))
    (split n 10)

pub several : (m n : ℕ) → 10 ≤ n → 1 < length (digits (suc (suc m)) n)
several m n l = rw (more_digits (suc m) n l, length-append) (omega (arith, some_digit m (n / 10)))

power : (k : ℕ) → 0 < 10 ^ k
power zero = omega arith
power (suc k) = omega (arith, power k)

-- a number from 10^k up, and below 10 times that, has k + 1
pub count_is : (m k n : ℕ) → k < m → 10 ^ k ≤ n → n < 10 * 10 ^ k → length (digits m n) ≡ k + 1
count_is zero k n h l g = let f : ⊥ = omega arith in absurd f
count_is (suc m) zero n h l g = rw (one_digit m n (omega arith)) refl
count_is (suc m) (suc k) n h l g =
    let big : 10 ≤ n = omega (arith, power k) in
    rw (more_digits m n big, length-append) (omega (arith, count_is m k (n / 10) (omega arith) (omega arith) (omega arith)))

pub count_one : (n : ℕ) → n < 10 → length (digits 20 n) ≡ 1
count_one n h = ap length (one_digit 19 n h)

pub count_max : (n k : ℕ) → k < 20 → 10 ^ k ≤ max n 1 → max n 1 < 10 * 10 ^ k → k + 1 ≡ length (digits 20 n)
count_max zero k h l g = sym (count_is 20 k 1 h l g) ∙ count_one 1 (omega arith) ∙ sym (count_one 0 (omega arith))
count_max (suc n) k h l g = sym (count_is 20 k (suc n) h (omega arith) (omega arith))

-- ---- written from the last to the first

-- the last k digits of n, with zeros before them where n has fewer
unfoldable pub padded : ℕ → ℕ → List ℕ
padded zero n = []
padded (suc k) n = padded k (n / 10) ++ ((digit_zero + n % 10) ∷ [])

length-padded : (k n : ℕ) → length (padded k n) ≡ k
unfolding padded
length-padded zero n = refl
length-padded (suc k) n = rw (length-append) (omega (arith, length-padded k (n / 10)))

pub padded_all : (m n : ℕ) → padded (length (digits m n)) n ≡ digits m n
unfolding digits padded
padded_all zero n = refl
padded_all (suc m) n =
    ⊎_elim
    (λ l. let e : n % 10 ≡ n = omega arith in rw (one_digit m n l, e))
    (λ l. let e : length (digits (suc m) n) ≡ suc (length (digits m (n / 10))) = rw (more_digits m n l, length-append) (omega arith) in
    rw (e, more_digits m n l) (ap (λ (t : List ℕ). t ++ ((digit_zero + n % 10) ∷ [])) (padded_all m (n / 10))))
    (split n 10)

-- one more of them is stored before those that stand already
pub put_next : (l : List ℕ) (at i left : ℕ) → at ≤ i → i < length l →
    placed (set l i (digit_zero + left % 10)) at (padded (i - at) (left / 10)) ≡ placed l at (padded (i + 1 - at) left)
unfolding padded
put_next l at i left h inside =
    let e : i + 1 - at ≡ suc (i - at) = omega arith in
    let f : i ≡ at + length (padded (i - at) (left / 10)) = omega (arith, length-padded (i - at) (left / 10)) in
    rw e (put_last l at (padded (i - at) (left / 10)) (digit_zero + left % 10) i f inside)

pub put_none : (l : List ℕ) (at i left : ℕ) → i ≤ at → l ≡ placed l at (padded (i - at) left)
unfolding padded
put_none l at i left h = let e : i - at ≡ 0 = omega arith in rw e (sym (placed_none l at))
