-- How the numbers of a request are found one after another, and what is known of each.
use Prim.Native.Nat.{ℕ, zero, suc, ◌+◌, ◌-◌, ◌≤◌, ◌<◌}
use native.Mathlib.Omega.{arith}
use native.Mathlib.Numerals.{add-one}
use mathlib.Core.Path.{◌≡◌, refl, sym, subst, ◌∙◌, ap, ap₂}
use mathlib.Core.Bool.{Bool, true, false, cond, ◌&&◌}
use mathlib.Core.List.{List, [], ◌∷◌, ◌++◌, append_assoc, append-nil}
use mathlib.Core.Logic.{⊎_elim}
use lib.ListN.{length, get_or, take, drop, set, replicate, length-take, drop_of_length-le, take-append-drop}
use borrow.Author.Tests.{ne_eqb}
use lib.Seq.{drop-cons, drop-drop, drop-set-lt, take-suc-set}
use lib.IntN.{ℤ, pos, negsuc, nat_abs}
use lib.Signed.{le_z, ◌≤ℤ◌}
use Rattle.std.specs.Prelude.{Option, Some, None}
use Rattle.std.specs.Coded.{Coded-set, coded_ℕ, coded_ℤ, coded_list}
use Rattle.std.proofs.Math.Bridge.{le_prop}
use Rattle.whole.proofs.Laws.{ints, split}
use Rattle.whole.proofs.Tests.{clash}
use Rattle.lines.proofs.Words.{word_there, rest_there}
use Rattle.lines.specs.Text.{word, rest, Found, number, none, number_of, within}
use Rattle.parameters.specs.Kinds.{Kind, Arguments, these, no_arguments, also, arguments}
use Rattle.parameters.specs.Meaning.{Are, at, numbers_in, of_numbers, Reads, ReadsInto, Holds}
use Rattle.parameters.specs.Letters.{letter_kind, letters_kinds, bounds_of}
use Rattle.parameters.specs.declared.Numbers.{Numbers}

-- ---- a number of a type lies between its bounds

within_both : (low high z w : ℤ) (a b : Bool) → le_z low z ≡ a → le_z z high ≡ b → cond (a && b) (number z) none ≡ number w → (low ≤ℤ w) × (w ≤ℤ high)
within_both low high z w true true p q e = let s : z ≡ w = cc in rw (← s) (omega (arith, ints), omega (arith, ints))
within_both low high z w true false p q e = let n : ◌≡◌ {A = ℕ} 0 1 = cc in let f : ⊥ = omega arith in absurd f
within_both low high z w false b p q e = let n : ◌≡◌ {A = ℕ} 0 1 = cc in let f : ⊥ = omega arith in absurd f

within_range : (low high w : ℤ) (f : Found) → within low high f ≡ number w → (low ≤ℤ w) × (w ≤ℤ high)
unfolding within
within_range low high w none e = let n : ◌≡◌ {A = ℕ} 0 1 = cc in let f : ⊥ = omega arith in absurd f
within_range low high w (number z) e = within_both low high z w (le_z low z) (le_z z high) refl refl e

-- ---- one number after another

-- numbers that stand before others
unfoldable pub joined : List ℤ → Arguments → Arguments
joined zs no_arguments = no_arguments
joined zs (these ws) = these (zs ++ ws)

joined_none : (zs : List ℤ) (a : Arguments) → joined zs (also none a) ≡ no_arguments
unfolding joined also
joined_none zs a = refl

joined_number : (zs : List ℤ) (z : ℤ) (a : Arguments) → joined zs (also (number z) a) ≡ joined (zs ++ (z ∷ [])) a
unfolding joined also
joined_number zs z no_arguments = refl
joined_number zs z (these ws) = ap these (sym (append_assoc zs (z ∷ []) ws))

joined_nothing : (a : Arguments) → joined [] a ≡ a
unfolding joined
joined_nothing no_arguments = refl
joined_nothing (these ws) = refl

-- the numbers that were read, and those that the line has from `at` on for the letters from k on, are those of the line
module _ (letters line : List ℕ) (from : ℕ) where
  abbrev left : ℕ → ℕ → Arguments
  left k at = arguments (letters_kinds (drop k letters)) (drop at line)

  abbrev pub Filled : List ℤ → ℕ → ℕ → Type 0
  Filled zs k at = joined zs (left k at) ≡ left 0 from

  pub filled_none : Filled [] 0 from
  filled_none = joined_nothing (left 0 from)

  -- a letter is left, and the line has ended
  pub missing : (zs : List ℤ) (k at : ℕ) → k < length letters → length line ≤ at → Filled zs k at → no_arguments ≡ left 0 from
  unfolding joined arguments letters_kinds
  missing zs k at h l f = rw (drop-cons letters k 0 h, drop_of_length-le line l) at f

  -- no letter is left, and the line has not ended, or has
  pub too_many : (zs : List ℤ) (k at : ℕ) → length letters ≤ k → at < length line → Filled zs k at → no_arguments ≡ left 0 from
  unfolding joined arguments letters_kinds
  too_many zs k at h l f = rw (drop_of_length-le letters h, drop-cons line at 0 l) at f

  pub filled_all : (zs : List ℤ) (k at : ℕ) → length letters ≤ k → length line ≤ at → Filled zs k at → these zs ≡ left 0 from
  unfolding joined arguments letters_kinds
  filled_all zs k at h l f = ap these (sym (append-nil zs)) ∙ (rw (drop_of_length-le letters h, drop_of_length-le line l) at f)

  -- a letter is left, and the word from the next place to `end` is no number of its type, or is
  module _ (zs : List ℤ) (k at end : ℕ) (more : k < length letters) (inside : at < length line)
      (ends : end ≡ at + 1 + length (word (drop (at + 1) line))) (filled : Filled zs k at) where
    abbrev pub found : Found
    found = within (letter_kind (get_or letters k 0)).low (letter_kind (get_or letters k 0)).high (number_of (take (end - (at + 1)) (drop (at + 1) line)))

    next : left k at ≡ also found (left (k + 1) end)
    unfolding arguments letters_kinds
    next =
        let h : at + 1 ≤ length line = omega arith in
        let a : drop k letters ≡ get_or letters k 0 ∷ drop (k + 1) letters = rw (add-one k, drop-cons letters k 0 more) in
        let b : drop at line ≡ get_or line at 0 ∷ drop (at + 1) line = rw (add-one at, drop-cons line at 0 inside) in
        rw (a, b, rest_there line (at + 1) end h ends, word_there line (at + 1) end h ends)

    pub no_number : none ≡ found → no_arguments ≡ left 0 from
    no_number e = sym (joined_none zs (left (k + 1) end)) ∙ (rw (next, ← e) at filled)

    pub one_more : (z : ℤ) → number z ≡ found → Filled (zs ++ (z ∷ [])) (k + 1) end
    one_more z e = sym (joined_number zs z (left (k + 1) end)) ∙ (rw (next, ← e) at filled)

-- a number that is put into a cell stands behind those of the cells before it, and leaves the cells behind it
pub stored_more : (cells : List ℤ) (k : ℕ) (z : ℤ) → length cells ≡ 24 → k < 24 → take (k + 1) (set cells k z) ≡ take k cells ++ (z ∷ [])
stored_more cells k z e h = let room : k < length cells = omega arith in rw (add-one k) (take-suc-set cells k z room)

pub blank_more : (cells : List ℤ) (k : ℕ) (z : ℤ) → k < 24 → drop k cells ≡ replicate (24 - k) (pos 0) →
    drop (k + 1) (set cells k z) ≡ replicate (24 - (k + 1)) (pos 0)
blank_more cells k z h e =
    let f : 24 - k ≡ suc (24 - (k + 1)) = omega arith in
    drop-set-lt (k + 1) cells k z (omega arith) ∙ sym (drop-drop 1 k cells) ∙ ap (drop 1) (rw f at e)

-- ---- what is known of a request's numbers

are_also : (k : Kind) (ks : List Kind) (a : Found) (b : Arguments) (ws : List ℤ) → ((z : ℤ) → a ≡ number z → (k.low ≤ℤ z) × (z ≤ℤ k.high)) →
    ((vs : List ℤ) → b ≡ these vs → Are ks vs) → also a b ≡ these ws → Are (k ∷ ks) ws
unfolding also Are
are_also k ks none b ws p q e = let n : ◌≡◌ {A = ℕ} 0 1 = cc in let f : ⊥ = omega arith in absurd f
are_also k ks (number z) no_arguments ws p q e = let n : ◌≡◌ {A = ℕ} 0 1 = cc in let f : ⊥ = omega arith in absurd f
are_also k ks (number z) (these vs) ws p q e = let g : z ∷ vs ≡ ws = cc in subst (Are (k ∷ ks)) g (p z refl, q vs refl)

pub are_those : (ks : List Kind) (text : List ℕ) (zs : List ℤ) → arguments ks text ≡ these zs → Are ks zs
unfolding arguments Are
are_those [] text zs e = tt
are_those (k ∷ ks) [] zs e = let n : ◌≡◌ {A = ℕ} 0 1 = cc in let f : ⊥ = omega arith in absurd f
are_those (k ∷ ks) (b ∷ bs) zs e =
    are_also k ks (within k.low k.high (number_of (word bs))) (arguments ks (rest bs)) zs
    (λ z p. within_range k.low k.high z (number_of (word bs)) p) (are_those ks (rest bs)) e

as_many_also : (n : ℕ) (a : Found) (b : Arguments) (ws : List ℤ) → ((vs : List ℤ) → b ≡ these vs → length vs ≡ n) → also a b ≡ these ws →
    length ws ≡ suc n
unfolding also
as_many_also n none b ws q e = cc
as_many_also n (number z) no_arguments ws q e = cc
as_many_also n (number z) (these vs) ws q e = let g : z ∷ vs ≡ ws = cc in rw (← g) (ap suc (q vs refl))

-- there are as many as there are types
pub as_many : (ks : List Kind) (text : List ℕ) (zs : List ℤ) → arguments ks text ≡ these zs → length zs ≡ length ks
unfolding arguments
as_many [] [] zs e = let g : [] ≡ zs = cc in rw (← g) refl
as_many [] (b ∷ bs) zs e = cc
as_many (k ∷ ks) [] zs e = cc
as_many (k ∷ ks) (b ∷ bs) zs e =
    as_many_also (length ks) (within k.low k.high (number_of (word bs))) (arguments ks (rest bs)) zs (as_many ks (rest bs)) e

-- the first of the types, and those after them
are_first : (m : ℕ) (ks : List Kind) (zs : List ℤ) → Are ks zs → Are (take m ks) zs
unfolding Are
are_first zero ks zs h = tt
are_first (suc m) [] zs h = tt
are_first (suc m) (k ∷ ks) [] h = h
are_first (suc m) (k ∷ ks) (z ∷ zs) h = (h.0, are_first m ks zs h.1)

are_after : (j : ℕ) (ks : List Kind) (zs : List ℤ) → Are ks zs → Are (drop j ks) (drop j zs)
unfolding Are
are_after zero ks zs h = h
are_after (suc j) [] zs h = tt
are_after (suc j) (k ∷ ks) [] h = absurd h
are_after (suc j) (k ∷ ks) (z ∷ zs) h = are_after j ks zs h.1

-- the number at a place
are_here : (k : Kind) (ks : List Kind) (z : ℤ) (zs : List ℤ) → Are (k ∷ ks) (z ∷ zs) → (k.low ≤ℤ z) × (z ≤ℤ k.high)
unfolding Are
are_here k ks z zs h = h.0

are_not : (k : Kind) (ks : List Kind) → Are (k ∷ ks) [] → ⊥
unfolding Are
are_not k ks h = h

module _ (k : Kind) (ks : List Kind) (zs : List ℤ) (i : ℕ) (h : Are (k ∷ ks) (drop i zs)) where
  are_inside : i < length zs
  are_inside = ⊎_elim (λ l. l) (λ (l : length zs ≤ i). absurd (are_not k ks (rw (drop_of_length-le zs l) at h))) (split i (length zs))

  are_at : (k.low ≤ℤ at zs i) × (at zs i ≤ℤ k.high)
  are_at = are_here k ks (at zs i) (drop (suc i) zs) (rw (drop-cons zs i (pos 0) are_inside) at h)

-- ---- what was read

-- two results that a reader's contract allows are one, to the last cell
-- the facts of both are one, since there is at most one proof of each
same_facts : (a : ℕ) (xs : List ℤ) (p q : a ≤ 24) (s t : length xs ≡ 24) (u v : drop a xs ≡ replicate (24 - a) (pos 0)) →
    ◌≡◌ {A = Numbers} (record { count = a; cells = xs; count_fits = p; sized = s; others_blank = u })
    (record { count = a; cells = xs; count_fits = q; sized = t; others_blank = v })
same_facts a xs p q s t u v =
    ap (λ (h : a ≤ 24). record { count = a; cells = xs; count_fits = h; sized = s; others_blank = u }) (le_prop p q) ∙
    ap (λ (h : length xs ≡ 24). record { count = a; cells = xs; count_fits = q; sized = h; others_blank = u }) (Coded-set coded_ℕ _ _ s t) ∙
    ap (λ (h : drop a xs ≡ replicate (24 - a) (pos 0)). record { count = a; cells = xs; count_fits = q; sized = t; others_blank = h })
    (Coded-set (coded_list coded_ℤ) _ _ u v)

same_numbers : (n m : Numbers) → n.count ≡ m.count → n.cells ≡ m.cells → n ≡ m
same_numbers n m e f =
    go n.count m.count n.cells m.cells e f n.count_fits m.count_fits n.sized m.sized n.others_blank m.others_blank
  where
    go : (a b : ℕ) (xs ys : List ℤ) → a ≡ b → xs ≡ ys → (p : a ≤ 24) (q : b ≤ 24) (s : length xs ≡ 24) (t : length ys ≡ 24)
        (u : drop a xs ≡ replicate (24 - a) (pos 0)) (v : drop b ys ≡ replicate (24 - b) (pos 0)) →
        ◌≡◌ {A = Numbers} (record { count = a; cells = xs; count_fits = p; sized = s; others_blank = u })
        (record { count = b; cells = ys; count_fits = q; sized = t; others_blank = v })
    go a b xs ys e f = rw (e, f) (same_facts b ys)

one_numbers : (n m : Numbers) → numbers_in n ≡ numbers_in m → n ≡ m
one_numbers n m t =
    let c : n.count ≡ m.count = omega (
      arith,
      ap length t,
      length-take n.count n.cells,
      length-take m.count m.cells,
      n.count_fits,
      m.count_fits,
      n.sized,
      m.sized,
    ) in
    let d : drop n.count n.cells ≡ drop m.count m.cells = n.others_blank ∙ ap (λ (k : ℕ). replicate (24 - k) (pos 0)) c ∙ sym m.others_blank in
    same_numbers n m c
    (sym (take-append-drop n.count n.cells) ∙ ap₂ (λ (xs ys : List ℤ). xs ++ ys) t d ∙ take-append-drop m.count m.cells)

one_reading : (n m : Option Numbers) → of_numbers n ≡ of_numbers m → n ≡ m
one_reading None None e = refl
one_reading None (Some m) e = cc
one_reading (Some n) None e = cc
one_reading (Some n) (Some m) e = let f : numbers_in n ≡ numbers_in m = cc in ap (λ (k : Numbers). Some k) (one_numbers n m f)

pub read_once : {n m : Option Numbers} {a : Arguments} → Reads n a → Reads m a → n ≡ m
read_once {n} {m} v w = one_reading n m (v.reads_as ∙ sym w.reads_as)

-- the numbers that a reader fills, at its start and at each of its ends
pub none_in : (n : Numbers) → n.count ≡ 0 → numbers_in n ≡ []
none_in n e = rw e

pub filled_in : {before after : Numbers} {a : Arguments} → these (numbers_in after) ≡ a → ReadsInto before true after a
filled_in e = record { reads = record { reads_as = e }; kept = λ f. clash true refl f }

pub left_as_it_was : (before after : Numbers) (a : Arguments) → before.count ≡ 0 → numbers_in after ≡ [] → no_arguments ≡ a →
    ReadsInto before false after a
left_as_it_was before after a c e f =
    record { reads = record { reads_as = f }; kept = λ g. one_numbers after before (e ∙ sym (none_in before c)) }

pub read_into_once : {before n m : Numbers} {s t : Bool} {a : Arguments} → ReadsInto before s n a → ReadsInto before t m a → (s ≡ t) × (n ≡ m)
read_into_once {before} {n} {m} {s} {t} v w = go s t refl refl (read_once v.reads w.reads)
  where
    go : (x y : Bool) → s ≡ x → t ≡ y → ◌≡◌ {A = Option Numbers} (cond s (Some n) None) (cond t (Some m) None) → (s ≡ t) × (n ≡ m)
    go true true e f g = (e ∙ sym f, let h : ◌≡◌ {A = Option Numbers} (Some n) (Some m) = rw (e, f) at g in cc)
    go false false e f g = (e ∙ sym f, v.kept e ∙ sym (w.kept f))
    go true false e f g = let h : ◌≡◌ {A = Option Numbers} (Some n) None = rw (e, f) at g in absurd cc
    go false true e f g = let h : ◌≡◌ {A = Option Numbers} None (Some m) = rw (e, f) at g in absurd cc

-- ---- the numbers of a request, group by group

pub holds_all : (ks : List Kind) (text : List ℕ) (n : Numbers) → Reads (Some n) (arguments ks text) → Holds ks (numbers_in n) 0
holds_all ks text n r = record { are = are_those ks text (numbers_in n) (sym r.reads_as) }

-- the first m of them
pub holds_first : (m : ℕ) {ks : List Kind} {zs : List ℤ} {i : ℕ} → Holds ks zs i → Holds (take m ks) zs i
holds_first m {ks} {zs} {i} h = record { are = are_first m ks (drop i zs) h.are }

-- m of them, after the first j
pub holds_from : (j m : ℕ) {ks : List Kind} {zs : List ℤ} {i : ℕ} → Holds ks zs i → Holds (take m (drop j ks)) zs (i + j)
holds_from j m {ks} {zs} {i} h =
    holds_first m (record { are = subst (Are (drop j ks)) (drop-drop j i zs) (are_after j ks (drop i zs) h.are) })

-- m of all of them, from a place on
pub holds_at : (m : ℕ) {ks : List Kind} {zs : List ℤ} {i : ℕ} → Holds ks zs 0 → Holds (take m (drop i ks)) zs i
holds_at m {ks} {zs} {i} h = let e : 0 + i ≡ i = omega arith in subst (Holds (take m (drop i ks)) zs) e (holds_from i m h)

-- a number of a type is one of any wider type
are_wider : (j k : Kind) (zs : List ℤ) → le_z k.low j.low ≡ true → le_z j.high k.high ≡ true → Are (j ∷ []) zs → Are (k ∷ []) zs
unfolding Are
are_wider j k [] l m h = h
are_wider j k (z ∷ zs) l m h = let p : j.low ≤ℤ z = h.0.0 in let q : z ≤ℤ j.high = h.0.1 in ((omega (arith, ints), omega (arith, ints)), tt)

pub wider : (j k : Kind) (zs : List ℤ) (i : ℕ) → le_z k.low j.low ≡ true → le_z j.high k.high ≡ true → Holds (j ∷ []) zs i → Holds (k ∷ []) zs i
wider j k zs i l m h = record { are = are_wider j k (drop i zs) l m h.are }

module _ (k : Kind) (ks : List Kind) (zs : List ℤ) (i : ℕ) (h : Holds (k ∷ ks) zs i) where
  pub inside : i < length zs
  inside = are_inside k ks zs i h.are

  pub in_kind : (k.low ≤ℤ at zs i) × (at zs i ≤ℤ k.high)
  in_kind = are_at k ks zs i h.are

pub small : (z : ℤ) (most : ℕ) → pos 0 ≤ℤ z → z ≤ℤ pos most → nat_abs z ≤ most
small (pos n) most l h = omega (arith, ints)
small (negsuc n) most l h = let f : ⊥ = omega (arith, ints) in absurd f

-- ---- a letter that is none of those told apart

pub other_letter : (l : ℕ) → (l ≡ 105 → ⊥) → (l ≡ 108 → ⊥) → (l ≡ 98 → ⊥) → (l ≡ 115 → ⊥) → (l ≡ 119 → ⊥) → (l ≡ 102 → ⊥) → (l ≡ 109 → ⊥) → (l ≡ 114 → ⊥) →
    record { below = 0; high = 9 } ≡ bounds_of l
unfolding bounds_of
other_letter l a b c d e f g h =
    rw (ne_eqb l 105 a, ne_eqb l 108 b, ne_eqb l 98 c, ne_eqb l 115 d, ne_eqb l 119 e, ne_eqb l 102 f, ne_eqb l 109 g, ne_eqb l 114 h)
