-- The laws of whole numbers that every crate above cites, and the two rule sets that make them usable:
--     simp (e, whole) (omega arith)     turns a statement over ℤ into one over ℕ, given e : z ≡ u ⊖ k for each variable z
--     omega (arith, ints)               lets omega read and prove orders, equations and tests over ℤ as they stand
-- A number z is taken apart into what is positive in it, `up z`, and what is negative, `dn z`: z is up z less dn z.
use Prim.Native.Nat.{ℕ, zero, suc, ◌+◌, ◌-◌, ◌*◌, ◌/◌, ◌%◌, ◌^◌, ◌≤◌, ◌<◌, min}
use native.Mathlib.Nat.{add-zero, zero-add, div-add-mod, mod-lt, add-mul-div_left, add-mul-mod_self_left, mul-add-div, div-eq_of_lt}
use native.Mathlib.Nat.{mul-add-mod_self_left, mod-eq_of_lt, le-div_iff_mul-le, div-mul-le_self}
use native.Mathlib.Omega.{arith}
use mathlib.Core.Path.{◌≡◌, refl, sym, ◌∙◌, ap, ap₂, subst}
use mathlib.Core.Logic.{◌⊎◌, inl, inr, ⊎_elim, ◌↔◌}
use mathlib.Core.Bool.{Bool, true, false, ◌&&◌}
use borrow.Author.Tests.{lt-ltb, le-ltb, le-leb, lt-leb, ltb-true, ltb-false, leb-true}
use lib.Dec.{T, ltb, leb, leb→le, le→leb, ltb→lt, lt→ltb}
use lib.IntN.{ℤ, pos, negsuc, neg_ℤ, nat_abs, ◌+ℤ◌, ◌-ℤ◌, ◌*ℤ◌, +ℤ_comm, +ℤ_assoc}
use lib.Signed.{lt_z, le_z, ◌≤ℤ◌, ◌<ℤ◌, mag, non_neg}
use mir.Syntax.{Width}
use mir.Val.{SFits, to_z, of_z, hbits}
use mir.Facts.{to_z-of_z}
use lib.Pow.{pow_pos}
use Rattle.whole.specs.Whole.{◌⊖◌, fdiv, fmod}
use Rattle.whole.proofs.Tests.{both, together}

abbrev pub up : ℤ → ℕ
up (pos n) = n
up (negsuc n) = 0

abbrev pub dn : ℤ → ℕ
dn (pos n) = 0
dn (negsuc n) = suc n

-- ---- a less b

pub split : (a b : ℕ) → (a < b) ⊎ (b ≤ a)
split a b = go (ltb a b) refl
  where
    go : (t : Bool) → ltb a b ≡ t → (a < b) ⊎ (b ≤ a)
    go true e = inl (ltb-true a b e)
    go false e = inr (ltb-false a b e)

pub ⊖-low : (a b : ℕ) → a < b → a ⊖ b ≡ negsuc (b - suc a)
unfolding ◌⊖◌
⊖-low a b h = simp (lt-ltb a b h)

pub ⊖-high : (a b : ℕ) → b ≤ a → a ⊖ b ≡ pos (a - b)
unfolding ◌⊖◌
⊖-high a b h = simp (le-ltb a b h)

pub ⊖-same : (a b c d : ℕ) → a + d ≡ c + b → a ⊖ b ≡ c ⊖ d
⊖-same a b c d e =
    ⊎_elim
    (λ h. let k : c < d = omega arith in let n : b - suc a ≡ d - suc c = omega arith in ⊖-low a b h ∙ ap negsuc n ∙ sym (⊖-low c d k))
    (λ h. let k : d ≤ c = omega arith in let n : a - b ≡ c - d = omega arith in ⊖-high a b h ∙ ap pos n ∙ sym (⊖-high c d k))
    (split a b)

pub of_pos : (n : ℕ) → pos n ≡ n ⊖ 0
of_pos n = let h : 0 ≤ n = omega arith in let e : n ≡ n - 0 = omega arith in ap pos e ∙ sym (⊖-high n 0 h)

pub of_negsuc : (n : ℕ) → negsuc n ≡ 0 ⊖ suc n
of_negsuc n = let h : 0 < suc n = omega arith in let e : n ≡ suc n - 1 = omega arith in ap negsuc e ∙ sym (⊖-low 0 (suc n) h)

-- z is what is positive in it less what is negative
pub parts : (z : ℤ) → z ≡ up z ⊖ dn z
parts (pos n) = of_pos n
parts (negsuc n) = of_negsuc n

pub read_diff : (m n : ℕ) → up (m ⊖ n) + n ≡ dn (m ⊖ n) + m
read_diff m n =
    ⊎_elim (λ h. rw (⊖-low m n h) (omega arith)) (λ h. rw (⊖-high m n h) (omega arith)) (split m n)

-- ---- sums, products, negation

sum_parts : (x y : ℤ) → x +ℤ y ≡ (up x + up y) ⊖ (dn x + dn y)
unfolding ◌⊖◌
sum_parts (pos a) (pos b) = of_pos (a + b)
sum_parts (pos a) (negsuc b) = ⊖-same a (suc b) (a + 0) (0 + suc b) (omega arith)
sum_parts (negsuc a) (pos b) = ⊖-same b (suc a) (0 + b) (suc a + 0) (omega arith)
sum_parts (negsuc a) (negsuc b) = of_negsuc (suc (a + b)) ∙ ⊖-same 0 (suc (suc (a + b))) 0 (suc a + suc b) (omega arith)

pub ⊖-add : (a b c d : ℕ) → (a ⊖ b) +ℤ (c ⊖ d) ≡ (a + c) ⊖ (b + d)
⊖-add a b c d = sum_parts (a ⊖ b) (c ⊖ d) ∙ ⊖-same _ _ _ _ (omega (arith, read_diff a b, read_diff c d))

pub ⊖-sum : (x y : ℤ) (a b c d : ℕ) → x ≡ a ⊖ b → y ≡ c ⊖ d → x +ℤ y ≡ (a + c) ⊖ (b + d)
⊖-sum x y a b c d e f = rw (e, f) (⊖-add a b c d)

pub regroup : (a b c : ℤ) → a +ℤ (b +ℤ c) ≡ a +ℤ c +ℤ b
regroup a b c = ap (λ (z : ℤ). a +ℤ z) (+ℤ_comm b c) ∙ sym (+ℤ_assoc a c b)

-- written with a numeral, such a difference computes, and `simp` does not see it: cite this instead
pub less_one : (m : ℕ) → 1 ≤ m → pos m -ℤ pos 1 ≡ pos (m - 1)
unfolding ◌⊖◌
less_one m h = ⊖-high m 1 h

pub neg_pos : (n : ℕ) → neg_ℤ (pos n) ≡ 0 ⊖ n
neg_pos zero = of_pos 0
neg_pos (suc n) = of_negsuc n

neg_parts : (z : ℤ) → neg_ℤ z ≡ dn z ⊖ up z
neg_parts (pos n) = neg_pos n
neg_parts (negsuc n) = of_pos (suc n)

pub ⊖-neg : (a b : ℕ) → neg_ℤ (a ⊖ b) ≡ b ⊖ a
⊖-neg a b = neg_parts (a ⊖ b) ∙ ⊖-same _ _ _ _ (omega (arith, read_diff a b))

times_parts : (x y : ℤ) → x *ℤ y ≡ (up x * up y + dn x * dn y) ⊖ (up x * dn y + dn x * up y)
times_parts (pos a) (pos b) = of_pos (a * b) ∙ ⊖-same (a * b) 0 (a * b + 0 * 0) (a * 0 + 0 * b) (omega arith)
times_parts (pos a) (negsuc b) = neg_pos (a * suc b) ∙ ⊖-same 0 (a * suc b) (a * 0 + 0 * suc b) (a * suc b + 0 * 0) (omega arith)
times_parts (negsuc a) (pos b) = neg_pos (suc a * b) ∙ ⊖-same 0 (suc a * b) (0 * b + suc a * 0) (0 * 0 + suc a * b) (omega arith)
times_parts (negsuc a) (negsuc b) = of_pos (suc a * suc b) ∙ ⊖-same (suc a * suc b) 0 (0 * 0 + suc a * suc b) (0 * suc b + suc a * 0) (omega arith)

-- the same product whichever pair of naturals a difference is written by
moved : (u v a b p q c d : ℕ) → u + b ≡ v + a → p + d ≡ q + c → (u * p + v * q) + (a * d + b * c) ≡ (a * c + b * d) + (u * q + v * p)
moved u v a b p q c d e f =
    ⊎_elim
    (λ h. ⊎_elim (λ g. low_low (b - a) (d - c) (omega arith) (omega arith) (omega arith) (omega arith))
    (λ g. low_high (b - a) (c - d) (omega arith) (omega arith) (omega arith) (omega arith)) (split c d))
    (λ h. ⊎_elim (λ g. high_low (a - b) (d - c) (omega arith) (omega arith) (omega arith) (omega arith))
    (λ g. high_high (a - b) (c - d) (omega arith) (omega arith) (omega arith) (omega arith)) (split c d))
    (split a b)
  where
    low_low : (k l : ℕ) → b ≡ a + k → v ≡ u + k → d ≡ c + l → q ≡ p + l → (u * p + v * q) + (a * d + b * c) ≡ (a * c + b * d) + (u * q + v * p)
    low_low k l e₁ e₂ e₃ e₄ = rw (e₁, e₂, e₃, e₄) (omega arith)

    low_high : (k l : ℕ) → b ≡ a + k → v ≡ u + k → c ≡ d + l → p ≡ q + l → (u * p + v * q) + (a * d + b * c) ≡ (a * c + b * d) + (u * q + v * p)
    low_high k l e₁ e₂ e₃ e₄ = rw (e₁, e₂, e₃, e₄) (omega arith)

    high_low : (k l : ℕ) → a ≡ b + k → u ≡ v + k → d ≡ c + l → q ≡ p + l → (u * p + v * q) + (a * d + b * c) ≡ (a * c + b * d) + (u * q + v * p)
    high_low k l e₁ e₂ e₃ e₄ = rw (e₁, e₂, e₃, e₄) (omega arith)

    high_high : (k l : ℕ) → a ≡ b + k → u ≡ v + k → c ≡ d + l → p ≡ q + l → (u * p + v * q) + (a * d + b * c) ≡ (a * c + b * d) + (u * q + v * p)
    high_high k l e₁ e₂ e₃ e₄ = rw (e₁, e₂, e₃, e₄) (omega arith)

pub ⊖-times : (a b c d : ℕ) → (a ⊖ b) *ℤ (c ⊖ d) ≡ (a * c + b * d) ⊖ (a * d + b * c)
⊖-times a b c d =
    times_parts (a ⊖ b) (c ⊖ d) ∙
    ⊖-same _ _ _ _ (moved (up (a ⊖ b)) (dn (a ⊖ b)) a b (up (c ⊖ d)) (dn (c ⊖ d)) c d (read_diff a b) (read_diff c d))

-- ---- the quotient rounded down, and what it leaves

pub quotient : (d x e t : ℕ) → t < d → x ≡ d * e + t → (x / d ≡ e) × (x % d ≡ t)
quotient d x e t h k =
    let pos_d : 0 < d = omega arith in (
      ap (λ (n : ℕ). n / d) k ∙ mul-add-div pos_d e t ∙ ap (λ (n : ℕ). e + n) (div-eq_of_lt h) ∙ add-zero e,
      ap (λ (n : ℕ). n % d) k ∙ mul-add-mod_self_left d e t ∙ mod-eq_of_lt h,
    )

module _ (a b d : ℕ) (pos_d : 0 < d) where
  -- below zero: with m = b - a - 1, the sum a + (d - b % d) is d * e + (d - 1 - m % d), where b / d = m / d + e
  below_part : a < b → (e : ℕ) → b / d ≡ (b - suc a) / d + e →
      ((a + (d - b % d)) / d ≡ e) × ((a + (d - b % d)) % d ≡ d - suc ((b - suc a) % d))
  below_part h e f =
      let m : ℕ = b - suc a in
      let g : d * (b / d) ≡ d * (m / d) + d * e = rw f (omega arith) in
      quotient d (a + (d - b % d)) e (d - suc (m % d))
      (omega (arith, mod-lt m pos_d))
      (omega (arith, div-add-mod b d, div-add-mod m d, mod-lt b pos_d, mod-lt m pos_d))

div_mono : (d x y : ℕ) → 0 < d → x ≤ y → x / d ≤ y / d
div_mono d x y p h = (le-div_iff_mul-le p).1 (let k : x / d * d ≤ x = div-mul-le_self x d in omega arith)

positive : (d : ℕ) → ltb 0 d ≡ true → 0 < d
positive d e = ltb-true 0 d e

pub fdiv-⊖ : (a b d : ℕ) → ltb 0 d ≡ true → fdiv (a ⊖ b) d ≡ ((a + (d - b % d)) / d) ⊖ suc (b / d)
unfolding fdiv
fdiv-⊖ a b d e = ⊎_elim low high (split a b)
  where
    p : 0 < d
    p = positive d e

    low : a < b → fdiv (a ⊖ b) d ≡ ((a + (d - b % d)) / d) ⊖ suc (b / d)
    low h =
        let k : ℕ = (b - suc a) / d in
        let s : k ≤ b / d = div_mono d (b - suc a) b p (omega arith) in
        let f : b / d ≡ k + (b / d - k) = omega arith in
        rw (⊖-low a b h) (of_negsuc k ∙ ⊖-same 0 (suc k) ((a + (d - b % d)) / d) (suc (b / d)) (omega (arith, (below_part a b d p h (b / d - k) f).0)))

    high : b ≤ a → fdiv (a ⊖ b) d ≡ ((a + (d - b % d)) / d) ⊖ suc (b / d)
    high h =
        let f : a + (d - b % d) ≡ (a - b) + d * suc (b / d) = omega (arith, div-add-mod b d, mod-lt b p) in
        let g : (a + (d - b % d)) / d ≡ (a - b) / d + suc (b / d) = ap (λ (n : ℕ). n / d) f ∙ add-mul-div_left (a - b) (suc (b / d)) p in
        rw (⊖-high a b h) (of_pos ((a - b) / d) ∙ ⊖-same ((a - b) / d) 0 ((a + (d - b % d)) / d) (suc (b / d)) (omega (arith, g)))

pub fmod-⊖ : (a b d : ℕ) → ltb 0 d ≡ true → fmod (a ⊖ b) d ≡ (a + (d - b % d)) % d
unfolding fmod
fmod-⊖ a b d e = ⊎_elim low high (split a b)
  where
    p : 0 < d
    p = positive d e

    low : a < b → fmod (a ⊖ b) d ≡ (a + (d - b % d)) % d
    low h =
        let k : ℕ = (b - suc a) / d in
        let s : k ≤ b / d = div_mono d (b - suc a) b p (omega arith) in
        let f : b / d ≡ k + (b / d - k) = omega arith in
        rw (⊖-low a b h) (sym (below_part a b d p h (b / d - k) f).1)

    high : b ≤ a → fmod (a ⊖ b) d ≡ (a + (d - b % d)) % d
    high h =
        let f : a + (d - b % d) ≡ (a - b) + d * suc (b / d) = omega (arith, div-add-mod b d, mod-lt b p) in
        rw (⊖-high a b h) (sym (ap (λ (n : ℕ). n % d) f ∙ add-mul-mod_self_left (a - b) d (suc (b / d))))

pub fmod_lt : (z : ℤ) (d : ℕ) → 0 < d → fmod z d < d
unfolding fmod
fmod_lt (pos a) d p = mod-lt a p
fmod_lt (negsuc a) d p = omega (arith, mod-lt a p)

-- the defining law: z = d × ⌊z / d⌋ + z mod d
pub fdiv_fmod : (z : ℤ) (d : ℕ) → 0 < d → z ≡ pos d *ℤ fdiv z d +ℤ pos (fmod z d)
unfolding fdiv fmod
fdiv_fmod (pos a) d p = ap pos (sym (div-add-mod a d))
fdiv_fmod (negsuc a) d p =
    of_negsuc a ∙
    ⊖-same 0 (suc a) (0 + (d - suc (a % d))) (d * suc (a / d) + 0) (omega (arith, div-add-mod a d, mod-lt a p)) ∙
    sym (⊖-add 0 (d * suc (a / d)) (d - suc (a % d)) 0) ∙
    ap₂ (λ (x y : ℤ). x +ℤ y) (sym (neg_pos (d * suc (a / d)))) (sym (of_pos (d - suc (a % d))))

-- and it is the only such pair with 0 ≤ r < d
pub fdiv_unique : (z q : ℤ) (d r : ℕ) → r < d → z ≡ pos d *ℤ q +ℤ pos r → (fdiv z d ≡ q) × (fmod z d ≡ r)
unfolding fdiv fmod
fdiv_unique z (pos q) d r h e =
    let f = quotient d (d * q + r) q r h refl in
    (ap (λ (y : ℤ). fdiv y d) e ∙ ap pos f.0, ap (λ (y : ℤ). fmod y d) e ∙ f.1)
fdiv_unique z (negsuc q) d r h e =
    let n : ℕ = d * suc q - suc r in
    let low : r < d * suc q = omega arith in
    let s : z ≡ negsuc n = e ∙ ap₂ (λ (x y : ℤ). x +ℤ y) (neg_pos (d * suc q)) (of_pos r) ∙ ⊖-add 0 (d * suc q) r 0 ∙
    ⊖-same (0 + r) (d * suc q + 0) r (d * suc q) (omega arith) ∙ ⊖-low r (d * suc q) low in
    let f = quotient d n q (d - suc r) (omega arith) (omega arith) in
    (ap (λ (y : ℤ). fdiv y d) s ∙ ap negsuc f.0, ap (λ (y : ℤ). fmod y d) s ∙ (rw f.1 (omega arith)))

-- ---- orders and their tests

T_is : (t : Bool) → t ≡ true → T t
T_is t e = subst T (sym e) tt

is_T : (t : Bool) → T t → t ≡ true
is_T true h = refl
is_T false h = absurd h

is_not_T : (t : Bool) → (T t → ⊥) → t ≡ false
is_not_T true h = absurd (h tt)
is_not_T false h = refl

le_parts : (a b : ℤ) → T (le_z a b) ↔ (up a + dn b ≤ up b + dn a)
le_parts (pos a) (pos b) = ((λ t. let h = leb→le a b t in omega arith), (λ h. le→leb a b (omega arith)))
le_parts (pos a) (negsuc b) = ((λ t. absurd t), (λ h. let f : ⊥ = omega arith in f))
le_parts (negsuc a) (pos b) = ((λ t. omega arith), (λ h. tt))
le_parts (negsuc a) (negsuc b) = ((λ t. let h = leb→le b a t in omega arith), (λ h. le→leb b a (omega arith)))

lt_parts : (a b : ℤ) → T (lt_z a b) ↔ (up a + dn b < up b + dn a)
lt_parts (pos a) (pos b) = ((λ t. let h = ltb→lt a b t in omega arith), (λ h. lt→ltb a b (omega arith)))
lt_parts (pos a) (negsuc b) = ((λ t. absurd t), (λ h. let f : ⊥ = omega arith in f))
lt_parts (negsuc a) (pos b) = ((λ t. omega arith), (λ h. tt))
lt_parts (negsuc a) (negsuc b) = ((λ t. let h = ltb→lt b a t in omega arith), (λ h. lt→ltb b a (omega arith)))

pub read_le : (a b : ℤ) → a ≤ℤ b → up a + dn b ≤ up b + dn a
read_le a b h = (le_parts a b).0 h.le

pub show_le : (a b : ℤ) → up a + dn b ≤ up b + dn a → a ≤ℤ b
show_le a b h = record { le = (le_parts a b).1 h }

pub read_lt : (a b : ℤ) → a <ℤ b → up a + dn b < up b + dn a
read_lt a b h = (lt_parts a b).0 h.lt

pub show_lt : (a b : ℤ) → up a + dn b < up b + dn a → a <ℤ b
show_lt a b h = record { lt = (lt_parts a b).1 h }

pub read_le_true : (a b : ℤ) → le_z a b ≡ true → up a + dn b ≤ up b + dn a
read_le_true a b e = (le_parts a b).0 (T_is (le_z a b) e)

pub read_lt_true : (a b : ℤ) → lt_z a b ≡ true → up a + dn b < up b + dn a
read_lt_true a b e = (lt_parts a b).0 (T_is (lt_z a b) e)

false_not_T : (t : Bool) → t ≡ false → T t → ⊥
false_not_T t e h = subst T e h

pub read_le_false : (a b : ℤ) → le_z a b ≡ false → up b + dn a < up a + dn b
read_le_false a b e =
    ⊎_elim (λ h. h) (λ h. absurd (false_not_T (le_z a b) e ((le_parts a b).1 h))) (split (up b + dn a) (up a + dn b))

pub read_lt_false : (a b : ℤ) → lt_z a b ≡ false → up b + dn a ≤ up a + dn b
read_lt_false a b e =
    ⊎_elim (λ h. absurd (false_not_T (lt_z a b) e ((lt_parts a b).1 h))) (λ h. h) (split (up a + dn b) (up b + dn a))

pub show_le_true : (a b : ℤ) → up a + dn b ≤ up b + dn a → le_z a b ≡ true
show_le_true a b h = is_T (le_z a b) ((le_parts a b).1 h)

pub show_lt_true : (a b : ℤ) → up a + dn b < up b + dn a → lt_z a b ≡ true
show_lt_true a b h = is_T (lt_z a b) ((lt_parts a b).1 h)

pub show_le_false : (a b : ℤ) → up b + dn a < up a + dn b → le_z a b ≡ false
show_le_false a b h = is_not_T (le_z a b) (λ t. let k = (le_parts a b).0 t in omega arith)

pub show_lt_false : (a b : ℤ) → up b + dn a ≤ up a + dn b → lt_z a b ≡ false
show_lt_false a b h = is_not_T (lt_z a b) (λ t. let k = (lt_parts a b).0 t in omega arith)

pub read_eq : (a b : ℤ) → a ≡ b → up a + dn b ≡ up b + dn a
read_eq a b e = rw e

pub show_eq : (a b : ℤ) → up a + dn b ≡ up b + dn a → a ≡ b
show_eq a b e = parts a ∙ ⊖-same (up a) (dn a) (up b) (dn b) e ∙ sym (parts b)

pub read_add : (a b : ℤ) → up (a +ℤ b) + dn a + dn b ≡ dn (a +ℤ b) + up a + up b
read_add a b = rw (sum_parts a b) (omega (arith, read_diff (up a + up b) (dn a + dn b)))

pub read_neg : (a : ℤ) → up (neg_ℤ a) + up a ≡ dn (neg_ℤ a) + dn a
read_neg a = rw (neg_parts a) (omega (arith, read_diff (dn a) (up a)))

pub read_times : (k : ℕ) (a : ℤ) → up (pos k *ℤ a) + k * dn a ≡ dn (pos k *ℤ a) + k * up a
read_times k a = rw (times_parts (pos k) a) (omega (arith, read_diff (k * up a + 0 * dn a) (k * dn a + 0 * up a)))

-- what a signed local gives back is the number that went in
pub read_back : (w : Width) (z : ℤ) → SFits w z → up (to_z w (of_z w z)) + dn z ≡ up z + dn (to_z w (of_z w z))
read_back w z f = read_eq (to_z w (of_z w z)) z (to_z-of_z f)

pub range_of : (z : ℤ) → (mag z ≡ up z + (dn z - 1)) × (min (up z) (dn z) ≡ 0)
range_of (pos n) = omega arith
range_of (negsuc n) = omega arith

pub size_of : (z : ℤ) → nat_abs z ≡ up z + dn z
size_of (pos n) = omega arith
size_of (negsuc n) = omega arith

pub size_neg : (n : ℕ) → nat_abs (neg_ℤ (pos n)) ≡ n
size_neg zero = refl
size_neg (suc n) = refl

-- ---- the same of two differences, for `simp`

pub ⊖-le : (a b c d : ℕ) → ((a ⊖ b) ≤ℤ (c ⊖ d)) ↔ (a + d ≤ c + b)
⊖-le a b c d = (
  (λ h. omega (arith, read_le (a ⊖ b) (c ⊖ d) h, read_diff a b, read_diff c d)),
  (λ h. show_le (a ⊖ b) (c ⊖ d) (omega (arith, read_diff a b, read_diff c d))),
)

pub ⊖-lt : (a b c d : ℕ) → ((a ⊖ b) <ℤ (c ⊖ d)) ↔ (a + d < c + b)
⊖-lt a b c d = (
  (λ h. omega (arith, read_lt (a ⊖ b) (c ⊖ d) h, read_diff a b, read_diff c d)),
  (λ h. show_lt (a ⊖ b) (c ⊖ d) (omega (arith, read_diff a b, read_diff c d))),
)

pub ⊖-eq : (a b c d : ℕ) → (a ⊖ b ≡ c ⊖ d) ↔ (a + d ≡ c + b)
⊖-eq a b c d =
    ((λ e. omega (arith, read_eq (a ⊖ b) (c ⊖ d) e, read_diff a b, read_diff c d)), (λ e. ⊖-same a b c d e))

pub ⊖-fits : (w : Width) (a b : ℕ) → SFits w (a ⊖ b) ↔ ((a < 2 ^ hbits w + b) × (b ≤ a + 2 ^ hbits w))
⊖-fits w a b = (
  (λ f. omega (arith, f.sfits, range_of (a ⊖ b), read_diff a b)),
  (λ h. record { sfits = omega (arith, range_of (a ⊖ b), read_diff a b, pow_pos (hbits w)) }),
)

pub lt_z-⊖ : (a b c d : ℕ) → lt_z (a ⊖ b) (c ⊖ d) ≡ ltb (a + d) (c + b)
lt_z-⊖ a b c d =
    ⊎_elim
    (λ h. show_lt_true (a ⊖ b) (c ⊖ d) (omega (arith, read_diff a b, read_diff c d)) ∙ sym (lt-ltb (a + d) (c + b) h))
    (λ h. show_lt_false (a ⊖ b) (c ⊖ d) (omega (arith, read_diff a b, read_diff c d)) ∙ sym (le-ltb (a + d) (c + b) h))
    (split (a + d) (c + b))

pub le_z-⊖ : (a b c d : ℕ) → le_z (a ⊖ b) (c ⊖ d) ≡ leb (a + d) (c + b)
le_z-⊖ a b c d =
    ⊎_elim
    (λ h. show_le_false (a ⊖ b) (c ⊖ d) (omega (arith, read_diff a b, read_diff c d)) ∙ sym (lt-leb (a + d) (c + b) h))
    (λ h. show_le_true (a ⊖ b) (c ⊖ d) (omega (arith, read_diff a b, read_diff c d)) ∙ sym (le-leb (a + d) (c + b) h))
    (split (c + b) (a + d))

pub non_neg-⊖ : (a b : ℕ) → non_neg (a ⊖ b) ≡ leb b a
non_neg-⊖ a b =
    ⊎_elim (λ h. rw (⊖-low a b h) (sym (lt-leb b a h))) (λ h. rw (⊖-high a b h) (sym (le-leb b a h))) (split a b)

pub nat_abs-⊖ : (a b : ℕ) → nat_abs (a ⊖ b) ≡ (a - b) + (b - a)
nat_abs-⊖ a b =
    ⊎_elim (λ h. rw (⊖-low a b h) (omega arith)) (λ h. rw (⊖-high a b h) (omega arith)) (split a b)

pub ruleset sums = (add-zero, zero-add, neg_pos, of_pos, of_negsuc, ⊖-add, ⊖-neg, ⊖-times, fdiv-⊖, fmod-⊖)

pub ruleset whole = (sums, lt_z-⊖, le_z-⊖, non_neg-⊖, nat_abs-⊖, ⊖-eq, ⊖-le, ⊖-lt, ⊖-fits)

pub ruleset flags = (show_le_true, show_lt_true, show_le_false, show_lt_false, read_lt_true, read_lt_false, read_le_true, read_le_false)

pub ruleset ints = (flags, read_le, read_lt, show_le, show_lt, read_eq, show_eq, read_back)

-- ---- what they give

-- one test on two pairs: what it says of the one it says of the other
pub le_by_test : (p q x y : ℤ) → lt_z y x ≡ lt_z q p → p ≤ℤ q → x ≤ℤ y
le_by_test p q x y e h = let f : lt_z q p ≡ false = omega (arith, ints) in let g : lt_z y x ≡ false = e ∙ f in omega (arith, ints)

-- a size within k is a number from -k to k
pub size_within : (z : ℤ) (k : ℕ) → (le_z (neg_ℤ (pos k)) z && le_z z (pos k)) ≡ leb (nat_abs z) k
size_within z k =
    let n = size_of z in
    let r = range_of z in
    let m = read_neg (pos k) in
    let low = le_z (neg_ℤ (pos k)) z in
    let high = le_z z (pos k) in
    together (low && high) (leb (nat_abs z) k)
    (λ e. le-leb (nat_abs z) k (omega (arith, ints, (both low high e).0, (both low high e).1)))
    (λ e.
    let h = leb-true (nat_abs z) k e in
    let p : low ≡ true = omega (arith, ints) in
    let q : high ≡ true = omega (arith, ints) in
    rw (p, q))

-- a multiple of d more: the quotient is so much more, and what it leaves stays
pub fdiv_moved : (z k : ℤ) (d : ℕ) → 0 < d → (fdiv (z +ℤ pos d *ℤ k) d ≡ fdiv z d +ℤ k) × (fmod (z +ℤ pos d *ℤ k) d ≡ fmod z d)
fdiv_moved z k d p =
    fdiv_unique (z +ℤ pos d *ℤ k) (fdiv z d +ℤ k) d (fmod z d) (fmod_lt z d p)
    (ap (λ (x : ℤ). x +ℤ pos d *ℤ k) (fdiv_fmod z d p) ∙ moved (fdiv z d) (fmod z d))
  where
    moved : (q : ℤ) (r : ℕ) → pos d *ℤ q +ℤ pos r +ℤ pos d *ℤ k ≡ pos d *ℤ (q +ℤ k) +ℤ pos r
    moved q r = rw (parts q, parts k) (simp whole (omega arith))
