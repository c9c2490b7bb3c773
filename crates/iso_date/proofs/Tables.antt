-- The two tables of the code hold what the list of the twelve lengths says, each shown once over its twelve places.
use Prim.Native.Nat.{ℕ, ◌+◌, ◌*◌, ◌≤◌, ◌<◌}
use native.Mathlib.Omega.{arith}
use borrow.Author.Tests.{ne_eqb}
use mathlib.Core.Path.{◌≡◌, refl, sym, ◌∙◌, ap}
use mathlib.Core.Bool.{Bool, true, false, cond, ◌&&◌}
use mathlib.Core.List.{List, [], ◌∷◌}
use lib.Dec.{leb, eqb}
use mir.Val.{bool_byte}
use lib.ListN.{get_or}
use Rattle.whole.proofs.Every.{every_equal, every_le}
use Rattle.iso_date.specs.Proposal.{month_lengths, days_before_month}

abbrev pub length_table : List ℕ
length_table = 31 ∷ 28 ∷ 31 ∷ 30 ∷ 31 ∷ 30 ∷ 31 ∷ 31 ∷ 30 ∷ 31 ∷ 30 ∷ 31 ∷ []

abbrev pub before_table : List ℕ
before_table = 0 ∷ 31 ∷ 59 ∷ 90 ∷ 120 ∷ 151 ∷ 181 ∷ 212 ∷ 243 ∷ 273 ∷ 304 ∷ 334 ∷ []

-- the length of month i, counted from 0, and the days before it, as the code puts them together
abbrev pub length_at : Bool → ℕ → ℕ
length_at leap i = get_or length_table i 0 + cond (eqb i 1) (cond leap 1 0) 0

abbrev pub before_at : Bool → ℕ → ℕ
before_at leap i = get_or before_table i 0 + cond (leb 2 i) (cond leap 1 0) 0

pub length_is : (leap : Bool) (i : ℕ) → i < 12 → length_at leap i ≡ get_or (month_lengths leap) i 0
unfolding month_lengths
length_is true = every_equal (length_at true) (λ i. get_or (month_lengths true) i 0) 12 tt
length_is false = every_equal (length_at false) (λ i. get_or (month_lengths false) i 0) 12 tt

pub length_below : (leap : Bool) (i : ℕ) → i < 12 → length_at leap i ≤ 31
length_below true = every_le (length_at true) (λ i. 31) 12 tt
length_below false = every_le (length_at false) (λ i. 31) 12 tt

pub before_is : (leap : Bool) (i : ℕ) → i < 12 → before_at leap i ≡ days_before_month leap i
unfolding month_lengths days_before_month
before_is true = every_equal (before_at true) (days_before_month true) 12 tt
before_is false = every_equal (before_at false) (days_before_month false) 12 tt

pub before_below : (leap : Bool) (i : ℕ) → i < 12 → before_at leap i ≤ 335
before_below true = every_le (before_at true) (λ i. 335) 12 tt
before_below false = every_le (before_at false) (λ i. 335) 12 tt

-- a month begins no later than after as many times 31 days, and ends no earlier
pub begins : (leap : Bool) (i : ℕ) → i < 12 → days_before_month leap i ≤ 31 * i
unfolding month_lengths days_before_month
begins true = every_le (days_before_month true) (λ i. 31 * i) 12 tt
begins false = every_le (days_before_month false) (λ i. 31 * i) 12 tt

pub ends : (leap : Bool) (i : ℕ) → i < 12 → 31 * i ≤ days_before_month leap i + get_or (month_lengths leap) i 0
unfolding month_lengths days_before_month
ends true = every_le (λ i. 31 * i) (λ i. days_before_month true i + get_or (month_lengths true) i 0) 12 tt
ends false = every_le (λ i. 31 * i) (λ i. days_before_month false i + get_or (month_lengths false) i 0) 12 tt

-- ---- the two ways of the code through each table

pub one_if : (a : Bool) → bool_byte a ≡ cond a 1 0
one_if true = refl
one_if false = refl

one_if_both : (a b : Bool) → bool_byte (a && b) ≡ cond b (cond a 1 0) 0
one_if_both true true = refl
one_if_both true false = refl
one_if_both false true = refl
one_if_both false false = refl

pub length_february : (leap : Bool) (x : ℕ) → x ≡ cond leap 1 0 → (28 + x ≡ get_or (month_lengths leap) 1 0) × (28 + x ≤ 31)
unfolding month_lengths
length_february true x e = omega arith
length_february false x e = omega arith

pub length_other : (leap : Bool) (i : ℕ) → i < 12 → (i ≡ 1 → ⊥) → (get_or length_table i 0 ≡ get_or (month_lengths leap) i 0) × (get_or length_table i 0 ≤ 31)
length_other leap i h n =
    let e : length_at leap i ≡ get_or length_table i 0 = simp (ne_eqb i 1 n) (omega arith) in
    (sym e ∙ length_is leap i h, rw e at (length_below leap i h))

pub length_sum : (leap : Bool) (i x : ℕ) → i < 12 → x ≡ bool_byte (leap && eqb i 1) →
    (get_or length_table i 0 + x ≡ get_or (month_lengths leap) i 0) × (get_or length_table i 0 + x ≤ 31)
length_sum leap i x h e =
    let f : get_or length_table i 0 + x ≡ length_at leap i = ap (λ (k : ℕ). get_or length_table i 0 + k) (e ∙ one_if_both leap (eqb i 1)) in
    (f ∙ length_is leap i h, rw f (length_below leap i h))

pub before_sum : (leap : Bool) (i x r : ℕ) → i < 12 → x ≡ get_or before_table i 0 → r ≡ bool_byte (leap && leb 2 i) →
    (x + r ≡ days_before_month leap i) × (x + r < 336)
before_sum leap i x r h g e =
    let f : x + r ≡ before_at leap i = rw (g, e, one_if_both leap (leb 2 i)) in
    (f ∙ before_is leap i h, rw f (omega (arith, before_below leap i h)))

pub length_least : (leap : Bool) (i : ℕ) → i < 12 → 1 ≤ get_or (month_lengths leap) i 0
unfolding month_lengths
length_least true = every_le (λ i. 1) (λ i. get_or (month_lengths true) i 0) 12 tt
length_least false = every_le (λ i. 1) (λ i. get_or (month_lengths false) i 0) 12 tt
