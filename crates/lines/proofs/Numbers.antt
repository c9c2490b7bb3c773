-- Reading a number: what one digit more does to a value, which texts are a natural in its shortest form, and what `-` before one says.
use Prim.Native.Nat.{ℕ, ◌+◌, ◌-◌, ◌*◌, ◌^◌, ◌≤◌, ◌<◌}
use native.Mathlib.Nat.{le_refl}
use native.Mathlib.Numerals.{add-one}
use native.Mathlib.Omega.{arith}
use mathlib.Core.Path.{◌≡◌, refl, sym, ap, ◌∙◌}
use mathlib.Core.Logic.{⊎_elim}
use mathlib.Core.Bool.{Bool, true, false, cond, ◌&&◌}
use mathlib.Core.List.{List, [], ◌∷◌}
use borrow.Author.Tests.{lt-ltb, le-ltb, le-leb, lt-leb, eq-eqb, ne_eqb}
use lib.Dec.{ltb, leb}
use lib.IntN.{ℤ, pos, neg_ℤ}
use lib.ListN.{length, take, drop, get_or, drop_of_length-le}
use lib.Seq.{drop-cons, take_all}
use Rattle.std.specs.Prelude.{Option, Some, None, MatchOption, IsSomeAnd}
use Rattle.whole.proofs.Laws.{split}
use Rattle.lines.specs.Text.{Found, number, none, digit_zero, minus_sign, is_digit, all_digits, value_from, shortest, natural_of, negative_of, number_of}
use Rattle.lines.specs.Meaning.{of_number, of_natural}

-- the number below 2^64 that v and the digits after it say
abbrev pub read_from : ℕ → List ℕ → Found
read_from v bs = cond (all_digits bs && ltb (value_from v bs) (2 ^ 64)) (number (pos (value_from v bs))) none

grows : (v : ℕ) (bs : List ℕ) → v ≤ value_from v bs
unfolding value_from
grows v [] = le_refl v
grows v (b ∷ bs) = omega (arith, grows (10 * v + (b - digit_zero)) bs)

pub never : (t : Bool) (f : Found) → cond (t && false) f none ≡ none
never true f = refl
never false f = refl

and_true : (t : Bool) → (t && true) ≡ t
and_true true = refl
and_true false = refl

module _ (s : List ℕ) (at v : ℕ) (inside : at < length s) where
  split_off : drop at s ≡ get_or s at 0 ∷ drop (at + 1) s
  split_off = rw (add-one at, drop-cons s at 0 inside)

  pub too_large : 2 ^ 64 ≤ 10 * v + (get_or s at 0 - digit_zero) → read_from v (drop at s) ≡ none
  unfolding value_from
  too_large h =
      let w : ℕ = value_from (10 * v + (get_or s at 0 - digit_zero)) (drop (at + 1) s) in
      let l : 2 ^ 64 ≤ w = omega (arith, grows (10 * v + (get_or s at 0 - digit_zero)) (drop (at + 1) s)) in
      rw (split_off, le-ltb w (2 ^ 64) l) (never (all_digits (get_or s at 0 ∷ drop (at + 1) s)) (number (pos w)))

  pub next_digit : (w : ℕ) → digit_zero ≤ get_or s at 0 → get_or s at 0 ≤ 57 → w ≡ 10 * v + (get_or s at 0 - digit_zero) →
      read_from w (drop (at + 1) s) ≡ read_from v (drop at s)
  unfolding value_from
  next_digit w h l e = rw (e, split_off, le-leb _ _ h, le-leb _ _ l)

pub all_read : (s : List ℕ) (at v : ℕ) → length s ≤ at → v < 2 ^ 64 → read_from v (drop at s) ≡ number (pos v)
unfolding value_from
all_read s at v h l = rw (drop_of_length-le s h, lt-ltb _ _ l)

-- ---- a natural in its shortest form

pub natural_one : (s : List ℕ) → (length s ≡ 0 → ⊥) → length s ≤ 1 → natural_of s ≡ read_from 0 s
natural_one [] n h = absurd (n refl)
natural_one (b ∷ []) n h = rw (and_true (is_digit b))
natural_one (b ∷ c ∷ bs) n h = let f : ⊥ = omega arith in absurd f

pub natural_more : (s : List ℕ) → 1 < length s → (get_or s 0 0 ≡ digit_zero → ⊥) → natural_of s ≡ read_from 0 s
natural_more [] h n = let f : ⊥ = omega arith in absurd f
natural_more (b ∷ []) h n = let f : ⊥ = omega arith in absurd f
natural_more (b ∷ c ∷ bs) h n = rw (ne_eqb b digit_zero n)

-- ---- and one with a sign

pub number_plain : (s : List ℕ) → (get_or s 0 0 ≡ minus_sign → ⊥) → number_of s ≡ natural_of s
unfolding number_of
number_plain [] n = refl
number_plain (b ∷ bs) n = rw (ne_eqb b minus_sign n)

-- what follows the sign
abbrev pub unsigned : List ℕ → List ℕ
unsigned s = take (length s - 1) (drop 1 s)

pub number_minus : (s : List ℕ) → get_or s 0 0 ≡ minus_sign → number_of s ≡ negative_of (unsigned s)
unfolding number_of
number_minus [] e = let f : ⊥ = omega arith in absurd f
number_minus (b ∷ bs) e =
    let h : length bs ≤ length (b ∷ bs) - 1 = omega arith in rw (eq-eqb b minus_sign e) (ap negative_of (sym (take_all (length (b ∷ bs) - 1) bs h)))

-- what a natural says of the negative number with the same digits: v is the value of the digits, t that they are a shortest form
abbrev plus : Bool → ℕ → Found
plus t v = cond (t && ltb v (2 ^ 64)) (number (pos v)) none

abbrev minus : Bool → ℕ → Found
minus t v = cond (t && (ltb 0 v && leb v (2 ^ 63))) (number (neg_ℤ (pos v))) none

minus_none : (t : Bool) (v : ℕ) → plus t v ≡ none → minus t v ≡ none
minus_none false v e = refl
minus_none true v e =
    ⊎_elim
    (λ h. let g : number (pos v) ≡ none = rw (lt-ltb v (2 ^ 64) h) at e in cc)
    (λ h. let l : 0 < v = omega arith in let m : 2 ^ 63 < v = omega arith in rw (lt-ltb 0 v l, lt-leb v (2 ^ 63) m))
    (split v (2 ^ 64))

minus_some : (t : Bool) (v n : ℕ) → plus t v ≡ number (pos n) → minus t v ≡ minus true n
minus_some false v n e = cc
minus_some true v n e =
    ⊎_elim
    (λ h. let g : number (pos v) ≡ number (pos n) = rw (lt-ltb v (2 ^ 64) h) at e in let q : v ≡ n = cc in rw q)
    (λ h. let g : none ≡ number (pos n) = rw (le-ltb v (2 ^ 64) h) at e in cc)
    (split v (2 ^ 64))

pub negative_none : (bs : List ℕ) → none ≡ natural_of bs → none ≡ negative_of bs
negative_none bs e = sym (minus_none (shortest bs) (value_from 0 bs) (sym e))

pub negative_out : (bs : List ℕ) (n : ℕ) → number (pos n) ≡ natural_of bs → (0 < n → n ≤ 2 ^ 63 → ⊥) → none ≡ negative_of bs
negative_out bs n e h =
    let out : minus true n ≡ none =
    ⊎_elim
    (λ l. let z : n ≡ 0 = omega arith in rw z)
    (λ l. let m : 2 ^ 63 < n = ⊎_elim (λ g. g) (λ g. absurd (h l g)) (split (2 ^ 63) n) in rw (lt-ltb 0 n l, lt-leb n (2 ^ 63) m))
    (split n 1) in
    sym (minus_some (shortest bs) (value_from 0 bs) n (sym e) ∙ out)

pub negative_some : (bs : List ℕ) (n : ℕ) → number (pos n) ≡ natural_of bs → 0 < n → n ≤ 2 ^ 63 → number (neg_ℤ (pos n)) ≡ negative_of bs
negative_some bs n e l h = sym (minus_some (shortest bs) (value_from 0 bs) n (sym e) ∙ rw (lt-ltb 0 n l, le-leb n (2 ^ 63) h))

-- what `map` makes of a natural, where its function gives the natural itself
pub mapped : (o : Option ℕ) (r : Option ℤ) (Says : ℕ → ℤ → Type 0) → ((n : ℕ) (z : ℤ) → Says n z → z ≡ pos n) →
    MatchOption o (r ≡ None) (λ n. IsSomeAnd r (Says n)) → of_number r ≡ of_natural o
mapped None r Says f e = rw e
mapped (Some n) None Says f e = absurd e
mapped (Some n) (Some z) Says f e = ap number (f n z e)
