-- A fraction: the digits that stand there, filled up to nine when they are read, without the zeros at their end when they are written.
use Prim.Native.Nat.{ℕ, zero, suc, ◌+◌, ◌-◌, ◌*◌, ◌/◌, ◌%◌, ◌^◌, ◌≤◌, ◌<◌, min}
use native.Mathlib.Omega.{arith}
use native.Mathlib.Numerals.{add-one}
use native.Mathlib.Nat.{pow-suc, add-zero, mul-one, mul_comm, mul_assoc, mul-lt-mul_of_pos_right}
use lib.Pow.{pow-add}
use mathlib.Core.Path.{◌≡◌, refl, sym, ap, ap₂, ◌∙◌}
use mathlib.Core.Bool.{Bool, true, false}
use mathlib.Core.Logic.{◌⊎◌, ⊎_elim}
use mathlib.Core.List.{List, [], ◌∷◌, ◌++◌, append_assoc, append-nil}
use borrow.Author.Tests.{le-leb, lt-leb, leb-true, ne_eqb}
use lib.Dec.{leb}
use lib.ListN.{length, get_or, drop, take, replicate, length-take}
use Rattle.std.specs.Char.{is_ascii_digit}
use Rattle.std.specs.List.{prefix_len}
use Rattle.std.proofs.lemmas.List.{get_or-take, take_more}
use Rattle.std.proofs.lemmas.List.Folds.{length-prefix_len}
use Rattle.std.proofs.lemmas.List.Sums.{prefix_len-le-length, prefix_len_passes}
use Rattle.whole.proofs.Tests.{and_false, both}
use Rattle.lines.specs.Text.{digit_zero, is_digit}
use Rattle.forms.specs.Forms.{Parsed, took, nothing, then_read, digits, padded, run, filled, keep, trimmed, point, pointed, fraction_text}
use Rattle.forms.specs.Pieces.{Trims}
use Rattle.forms.specs.declared.Trimmed.{Trimmed}
use Rattle.forms.proofs.Digits.{grows, some}
use Rattle.forms.proofs.Padded.{padded_length, digit_is, digits_back, took_inj}

-- ---- the digits that stand there

run_goes : (b : ℕ) (rest : List ℕ) → is_digit b ≡ true → run (b ∷ rest) ≡ then_read (run rest) (λ ds after. took (b ∷ ds) after)
unfolding run
run_goes b rest good = rw good

-- digits before a run belong to it
longer : (p : Parsed (List ℕ)) (front : List ℕ) (b : ℕ) →
    then_read (then_read p (λ ds after. took (b ∷ ds) after)) (λ ds after. took (front ++ ds) after) ≡
    then_read p (λ ds after. took ((front ++ (b ∷ [])) ++ ds) after)
longer nothing front b = refl
longer (took ds after) front b = ap (λ (l : List ℕ). took l after) (sym (append_assoc front (b ∷ []) ds))

pub run_padded : (n v : ℕ) (rest : List ℕ) → run (padded n v ++ rest) ≡ then_read (run rest) (λ ds after. took (padded n v ++ ds) after)
unfolding padded
run_padded zero v rest = none (run rest)
  where
    none : (p : Parsed (List ℕ)) → p ≡ then_read p (λ ds after. took ds after)
    none nothing = refl
    none (took ds after) = refl
run_padded (suc n) v rest =
    rw (
      append_assoc (padded n (v / 10)) ((digit_zero + v % 10) ∷ []) rest,
      run_padded n (v / 10) ((digit_zero + v % 10) ∷ rest),
      run_goes (digit_zero + v % 10) rest (digit_is (v % 10) (omega arith)),
    ) (longer (run rest) (padded n (v / 10)) (digit_zero + v % 10))

-- ---- filled up

-- zeros behind the digits
zeros_behind : (k n v : ℕ) → padded n v ++ replicate k digit_zero ≡ padded (n + k) (v * 10 ^ k)
unfolding padded
zeros_behind zero n v = rw (append-nil (padded n v), add-zero n, mul-one v)
zeros_behind (suc k) n v =
    let one : padded (suc n) (v * 10) ≡ padded n v ++ (digit_zero ∷ []) =
    let high : v * 10 / 10 ≡ v = omega arith in let low : v * 10 % 10 ≡ 0 = omega arith in rw (high, low) in
    let e : n + suc k ≡ suc n + k = omega arith in
    let f : v * 10 ^ suc k ≡ v * 10 * 10 ^ k = ap (λ (x : ℕ). v * x) (pow-suc 10 k ∙ mul_comm (10 ^ k) 10) ∙ sym (mul_assoc v 10 (10 ^ k)) in
    sym (append_assoc (padded n v) (digit_zero ∷ []) (replicate k digit_zero)) ∙ rw (← one, e, f) (zeros_behind k (suc n) (v * 10))

-- i digits and the zeros behind them say a number of nine digits
pub filled_small : (i v : ℕ) → i ≤ 9 → v < 10 ^ i → v * 10 ^ (9 - i) < 10 ^ 9
filled_small i v few small =
    let e : i + (9 - i) ≡ 9 = omega arith in
    let whole : 10 ^ 9 ≡ 10 ^ i * 10 ^ (9 - i) = ap (λ (k : ℕ). 10 ^ k) (sym e) ∙ pow-add 10 i (9 - i) in
    rw whole (mul-lt-mul_of_pos_right small (some (9 - i)))

pub filled_is : (i v : ℕ) (after : List ℕ) → 0 < i → i ≤ 9 → v < 10 ^ i → filled (padded i v) after ≡ took (v * 10 ^ (9 - i)) after
unfolding filled
filled_is i v after few many small =
    let e : i + (9 - i) ≡ 9 = omega arith in
    let nine : digits 9 (padded i v ++ replicate (9 - i) digit_zero) ≡ took (v * 10 ^ (9 - i)) [] =
    ap (digits 9) (zeros_behind (9 - i) i v ∙ ap (λ (k : ℕ). padded k (v * 10 ^ (9 - i))) e ∙ sym (append-nil (padded 9 (v * 10 ^ (9 - i))))) ∙
    digits_back 9 (v * 10 ^ (9 - i)) [] (filled_small i v many small) in
    rw (padded_length i v, le-leb 1 i few, le-leb i 9 many, nine)

-- ---- as many as there are

abbrev count : List ℕ → ℕ
count text = prefix_len is_ascii_digit text

-- ten are too many already
abbrev most : ℕ
most = 10

abbrev pub front : List ℕ → List ℕ
front text = take most (take (count text) text)

pub front_length : (text : List ℕ) → length (front text) ≡ min most (count text)
front_length text = rw (length-take most (take (count text) text), length-prefix_len is_ascii_digit text)

-- one more of them
pub front_more : (n v b : ℕ) (text : List ℕ) → (n < length (front text)) × (b ≡ get_or (front text) n b) → take n text ≡ padded n v →
    v < 10 ^ n → (take (n + 1) text ≡ padded (n + 1) (10 * v + (b - digit_zero))) × (10 * v + (b - digit_zero) < 10 ^ (n + 1))
unfolding padded
front_more n v b text next so_far small =
    let many : n < min most (count text) = omega (arith, next.0, front_length text) in
    let inside : n < length text = omega (arith, prefix_len-le-length is_ascii_digit text) in
    let here : b ≡ get_or text n b =
    next.1 ∙ get_or-take most (take (count text) text) n b (omega arith) ∙ get_or-take (count text) text n b (omega arith) in
    let range = both (leb digit_zero b) (leb b 57) (rw here (prefix_len_passes is_ascii_digit text n b (omega arith))) in
    let low = leb-true digit_zero b range.0 in
    let few : b - digit_zero < 10 = omega (arith, leb-true b 57 range.1) in
    let high : (10 * v + (b - digit_zero)) / 10 ≡ v = omega (arith, few) in
    let last : digit_zero + (10 * v + (b - digit_zero)) % 10 ≡ b = omega (arith, few, low) in
    (take_more text n b inside ∙ rw (← here, add-one n, high, last, so_far), grows n v (b - digit_zero) small few)

run_is : (text : List ℕ) → run text ≡ took (take (count text) text) (drop (count text) text)
unfolding run
run_is [] = refl
run_is (b ∷ rest) = by_test (is_digit b) refl (run_is rest)
  where
    by_test : (t : Bool) → is_digit b ≡ t → run rest ≡ took (take (count rest) rest) (drop (count rest) rest) →
        run (b ∷ rest) ≡ took (take (count (b ∷ rest)) (b ∷ rest)) (drop (count (b ∷ rest)) (b ∷ rest))
    by_test false e more = rw e
    by_test true e more = let one : 1 + count rest ≡ suc (count rest) = omega arith in rw (e, one, more)

pub no_fraction : (text : List ℕ) → count text ≡ 0 ⊎ 9 < count text → then_read (run text) filled ≡ nothing
unfolding filled
no_fraction text h =
    let long : length (take (count text) text) ≡ count text = length-prefix_len is_ascii_digit text in
    rw (run_is text, long)
    (⊎_elim (λ z. let few : count text < 1 = omega arith in rw (lt-leb 1 (count text) few))
    (λ many. rw (lt-leb (count text) 9 many, and_false (leb 1 (count text)))) h)

pub all_filled : (n v : ℕ) (text : List ℕ) → n ≡ min most (count text) → 0 < n → n ≤ 9 → take n text ≡ padded n v → v < 10 ^ n →
    then_read (run text) filled ≡ took (v * 10 ^ (9 - n)) (drop n text)
all_filled n v text e some few read small =
    let all : count text ≡ n = omega arith in
    rw (run_is text, all, read) (filled_is n v (drop n text) some few small)

-- ---- without the zeros at the end

trimmed_zero : (l : List ℕ) → trimmed (l ++ (digit_zero ∷ [])) ≡ trimmed l
unfolding trimmed
trimmed_zero [] = refl
trimmed_zero (b ∷ rest) = ap (keep b) (trimmed_zero rest)

keep_some : (c : ℕ) (rest : List ℕ) (b : ℕ) → keep c (rest ++ (b ∷ [])) ≡ c ∷ (rest ++ (b ∷ []))
keep_some c [] b = refl
keep_some c (d ∷ rest) b = refl

trimmed_other : (l : List ℕ) (b : ℕ) → (b ≡ digit_zero → ⊥) → trimmed (l ++ (b ∷ [])) ≡ l ++ (b ∷ [])
unfolding trimmed
trimmed_other [] b other = rw (ne_eqb b digit_zero other)
trimmed_other (c ∷ rest) b other = ap (keep c) (trimmed_other rest b other) ∙ keep_some c rest b

-- a digit fewer, and a tenth of the value
pub tenth : (n v : ℕ) → 0 < n → v < 10 ^ n → v / 10 < 10 ^ (n - 1)
tenth zero v some h = let z : ⊥ = omega arith in absurd z
tenth (suc n) v some h =
    let e : suc n - 1 ≡ n = omega arith in
    rw e (omega (arith, pow-suc 10 n))

pub trim_more : (n v : ℕ) → 0 < n → v % 10 ≡ 0 → trimmed (padded (n - 1) (v / 10)) ≡ trimmed (padded n v)
unfolding padded
trim_more zero v some e = let z : ⊥ = omega arith in absurd z
trim_more (suc n) v some e =
    let f : suc n - 1 ≡ n = omega arith in
    rw (f, e) (sym (trimmed_zero (padded n (v / 10))))

pub trim_stops : (n v : ℕ) → 0 < n → (v % 10 ≡ 0 → ⊥) → trimmed (padded n v) ≡ padded n v
unfolding padded
trim_stops zero v some e = let z : ⊥ = omega arith in absurd z
trim_stops (suc n) v some e = trimmed_other (padded n (v / 10)) (digit_zero + v % 10) (λ z. e (omega (arith, z)))

pub trim_over : (n v : ℕ) → n ≡ 0 → trimmed (padded n v) ≡ padded n v
unfolding padded trimmed
trim_over n v e = rw e

-- ---- behind a point

pub pointed_none : (n v : ℕ) → n ≡ 0 → pointed (padded n v) ≡ []
unfolding padded
pointed_none n v e = rw e

pointed_list : (l : List ℕ) → 0 < length l → pointed l ≡ point ∷ l
pointed_list [] some = let z : ⊥ = omega arith in absurd z
pointed_list (d ∷ ds) some = refl

-- and no other count and value meet that
pub trims_once : (n : ℕ) (t u : Trimmed) → Trims n t → Trims n u → t ≡ u
trims_once n t u h k =
    let same : padded t.count t.value ≡ padded u.count u.value = h.digits_are ∙ sym k.digits_are in
    let counts : t.count ≡ u.count = sym (padded_length t.count t.value) ∙ ap length same ∙ padded_length u.count u.value in
    let read : (v : Trimmed) → Trims n v → digits v.count (padded v.count v.value ++ []) ≡ took v.value [] =
    λ v w. digits_back v.count v.value [] w.small in
    let values : t.value ≡ u.value = (took_inj t.value u.value [] [] (sym (read t h) ∙ rw (same, counts) (read u k))).0 in
    ap₂ (λ (c v : ℕ). record { count = c; value = v }) counts values

-- the digits of a fraction are written so
pub trims_written : (n : ℕ) (t : Trimmed) → Trims n t → pointed (padded t.count t.value) ≡ fraction_text n
unfolding fraction_text
trims_written n t h = ap pointed h.digits_are

pub pointed_some : (n v : ℕ) → 0 < n → pointed (padded n v) ≡ point ∷ padded n v
pointed_some n v some = pointed_list (padded n v) (rw (padded_length n v) some)
