-- A word of a line, from a place of it on: what one byte more does to it, and where it and the rest of the line stand.
use Prim.Native.Nat.{ℕ, ◌+◌, ◌-◌, ◌≤◌, ◌<◌}
use native.Mathlib.Numerals.{add-one}
use native.Mathlib.Omega.{arith}
use mathlib.Core.Path.{◌≡◌, refl, ap, ap₂}
use mathlib.Core.Bool.{Bool, true, false, cond}
use mathlib.Core.List.{List, [], ◌∷◌, ◌++◌}
use borrow.Author.Tests.{eq-eqb, ne_eqb, eqb-true}
use lib.Dec.{eqb}
use lib.ListN.{length, take, drop, get_or, length-append, length-drop, drop_of_length-le}
use lib.Seq.{drop-cons, drop-drop, take-append_seam, drop-append_seam}
use Rattle.whole.proofs.Tests.{both, clash}
use Rattle.lines.specs.Text.{word, rest, space, spaceless, same_bytes}

module _ (s : List ℕ) (at : ℕ) (inside : at < length s) where
  split_off : drop at s ≡ get_or s at 0 ∷ drop (at + 1) s
  split_off = rw (add-one at, drop-cons s at 0 inside)

  pub word_ends : get_or s at 0 ≡ space → word (drop at s) ≡ []
  unfolding word
  word_ends e = rw (split_off, eq-eqb _ _ e)

  pub word_more : (get_or s at 0 ≡ space → ⊥) → word (drop at s) ≡ get_or s at 0 ∷ word (drop (at + 1) s)
  unfolding word
  word_more n = rw (split_off, ne_eqb _ _ n)

pub word_past : (s : List ℕ) (at : ℕ) → length s ≤ at → word (drop at s) ≡ []
unfolding word
word_past s at h = rw (drop_of_length-le s h)

-- ---- a line is its first word and the rest

joined_by : (t : Bool) (b : ℕ) (bs : List ℕ) → word bs ++ rest bs ≡ bs → cond t [] (b ∷ word bs) ++ cond t (b ∷ bs) (rest bs) ≡ b ∷ bs
joined_by true b bs h = refl
joined_by false b bs h = ap (λ (l : List ℕ). b ∷ l) h

pub word_and_rest : (l : List ℕ) → word l ++ rest l ≡ l
unfolding word rest
word_and_rest [] = refl
word_and_rest (b ∷ bs) = joined_by (eqb b space) b bs (word_and_rest bs)

pub word_start : (l : List ℕ) → take (length (word l)) l ≡ word l
word_start l = rw (word_and_rest l) at (take-append_seam (word l) (rest l))

pub rest_start_lem : (l : List ℕ) → drop (length (word l)) l ≡ rest l
rest_start_lem l = rw (word_and_rest l) at (drop-append_seam (word l) (rest l))

pub word_inside : (l : List ℕ) → length (word l) ≤ length l
word_inside l = omega (arith, simp length-append at (ap length (word_and_rest l)))

-- where a word ends that starts at a place of a line
module _ (s : List ℕ) (from end : ℕ) (inside : from ≤ length s) (ends : end ≡ from + length (word (drop from s))) where
  pub end_inside : end ≤ length s
  end_inside = omega (arith, word_inside (drop from s), length-drop from s)

  pub word_there : take (end - from) (drop from s) ≡ word (drop from s)
  word_there = let e : end - from ≡ length (word (drop from s)) = omega arith in rw e (word_start (drop from s))

  pub rest_there : drop end s ≡ rest (drop from s)
  rest_there = rw (ends, ← drop-drop (length (word (drop from s))) from s) (rest_start_lem (drop from s))

-- ---- a rest starts with a space, and a word has none

first_by : (t : Bool) (b : ℕ) (bs : List ℕ) → eqb b space ≡ t → (0 < length (rest bs) → get_or (rest bs) 0 0 ≡ space) → 0 < length (cond t (b ∷ bs) (rest bs)) →
    get_or (cond t (b ∷ bs) (rest bs)) 0 0 ≡ space
first_by true b bs e h l = eqb-true b space e
first_by false b bs e h l = h l

pub rest_first : (l : List ℕ) → 0 < length (rest l) → get_or (rest l) 0 0 ≡ space
unfolding rest
rest_first [] h = let f : ⊥ = omega arith in absurd f
rest_first (b ∷ bs) h = first_by (eqb b space) b bs refl (rest_first bs) h

spaceless_by : (t : Bool) (b : ℕ) (bs : List ℕ) → eqb b space ≡ t → spaceless (word bs) ≡ true → spaceless (cond t [] (b ∷ word bs)) ≡ true
spaceless_by true b bs e h = refl
spaceless_by false b bs e h = rw e h

pub word_spaceless : (l : List ℕ) → spaceless (word l) ≡ true
unfolding word
word_spaceless [] = refl
word_spaceless (b ∷ bs) = spaceless_by (eqb b space) b bs refl (word_spaceless bs)

other : (b : ℕ) (t : Bool) (bs : List ℕ) → cond t false (spaceless bs) ≡ true → (t ≡ false) × (spaceless bs ≡ true)
other b true bs h = clash false h refl
other b false bs h = (refl, h)

-- a text without a space that stands at a line's start with a space behind it is its first word
pub word_of_start : (name text : List ℕ) → spaceless name ≡ true → take (length name) text ≡ name → get_or text (length name) 0 ≡ space → word text ≡ name
unfolding word
word_of_start [] [] s e h = let f : ⊥ = omega arith in absurd f
word_of_start [] (t ∷ ts) s e h = rw (eq-eqb t space h)
word_of_start (b ∷ bs) [] s e h = let f : ⊥ = omega arith in absurd f
word_of_start (b ∷ bs) (t ∷ ts) s e h =
    let p = other b (eqb b space) bs s in
    let q : t ≡ b = cc in
    let r : take (length bs) ts ≡ bs = cc in
    rw (q, p.0) (ap (λ (l : List ℕ). b ∷ l) (word_of_start bs ts p.1 r h))

-- ---- equal texts

same_refl : (a : List ℕ) → same_bytes a a ≡ true
same_refl [] = refl
same_refl (x ∷ a) = simp (eq-eqb x x refl, same_refl a)

pub same_eq : (a b : List ℕ) → same_bytes a b ≡ true → a ≡ b
same_eq [] [] e = refl
same_eq [] (y ∷ b) e = clash false e refl
same_eq (x ∷ a) [] e = clash false e refl
same_eq (x ∷ a) (y ∷ b) e = let s = both (eqb x y) (same_bytes a b) e in ap₂ (λ (n : ℕ) (l : List ℕ). n ∷ l) (eqb-true x y s.0) (same_eq a b s.1)

pub same_yes : (a b : List ℕ) → a ≡ b → same_bytes a b ≡ true
same_yes a b e = rw e (same_refl b)

pub same_no : (a b : List ℕ) → (a ≡ b → ⊥) → same_bytes a b ≡ false
same_no a b n = go (same_bytes a b) refl
  where
    go : (t : Bool) → same_bytes a b ≡ t → same_bytes a b ≡ false
    go true e = absurd (n (same_eq a b e))
    go false e = e
