-- Tests together.
use Prim.Native.Nat.{ℕ}
use native.Mathlib.Omega.{arith}
use Rattle.std.specs.Prelude.{Option, Some, None, SomeIff}
use mathlib.Core.Path.{◌≡◌, refl, sym, ◌∙◌}
use mathlib.Core.Bool.{Bool, true, false, ◌&&◌, ◌||◌}

-- no test comes out both ways
pub clash : {A : Type 0} (a : Bool) → a ≡ true → a ≡ false → A
clash a e f = let z : ◌≡◌ {A = ℕ} 0 1 = cc in let n : ⊥ = omega arith in absurd n

pub both : (a b : Bool) → (a && b) ≡ true → (a ≡ true) × (b ≡ true)
both true b e = (refl, e)
both false b e = clash false e refl

pub one_of : {A : Type 0} (a b : Bool) → (a || b) ≡ true → (a ≡ true → A) → (b ≡ true → A) → A
one_of true b e f g = f refl
one_of false b e f g = g e

pub neither : (a b : Bool) → (a || b) ≡ false → (a ≡ false) × (b ≡ false)
neither true b e = clash true refl e
neither false b e = (refl, e)

-- however tests are grouped
pub and_assoc : (a b c : Bool) → ((a && b) && c) ≡ (a && (b && c))
and_assoc true b c = refl
and_assoc false b c = refl

pub or_assoc : (a b c : Bool) → ((a || b) || c) ≡ (a || (b || c))
or_assoc true b c = refl
or_assoc false b c = refl

pub all_four : {a b c d p q r s : Bool} → a ≡ p → b ≡ q → c ≡ r → d ≡ s → (((a && b) && c) && d) ≡ (p && (q && (r && s)))
all_four {p = p} {q} {r} {s} e f g h = rw (e, f, g, h) (and_assoc (p && q) r s ∙ and_assoc p q (r && s))

pub all_six : {a b c d i j p q r s t u : Bool} → a ≡ p → b ≡ q → c ≡ r → d ≡ s → i ≡ t → j ≡ u →
    (((((a && b) && c) && d) && i) && j) ≡ (p && (q && (r && (s && (t && u)))))
all_six {a} {b} {c} {d} {i} {j} {s = s} {t} {u} e f g h k l =
    let tail : (d && (i && j)) ≡ (s && (t && u)) = rw (h, k, l) in
    and_assoc (((a && b) && c) && d) i j ∙ and_assoc ((a && b) && c) d (i && j) ∙ all_four e f g tail

-- whatever stands before them
pub and_false : (a : Bool) → (a && false) ≡ false
and_false true = refl
and_false false = refl

pub or_true : (a : Bool) → (a || true) ≡ true
or_true true = refl
or_true false = refl

-- two tests that pass together are one
pub together : (a b : Bool) → (a ≡ true → b ≡ true) → (b ≡ true → a ≡ true) → a ≡ b
together true b f g = sym (f refl)
together false true f g = g refl
together false false f g = refl

-- two tests that come out alike are one
pub alike : (a b : Bool) → (a ≡ true → b ≡ true) → (a ≡ false → b ≡ false) → a ≡ b
alike true b f g = sym (f refl)
alike false b f g = sym (g refl)

-- ---- a checked sum: what it gave is the sum, and where it gave nothing there is no room for it

pub checked_is : {A : Type 0} (P : Type 0) (o : Option A) (x z : A) → o ≡ Some x → SomeIff o P z → x ≡ z
checked_is P o x z e h = (rw e at h).1

pub checked_not : {A : Type 0} (P : Type 0) (o : Option A) (z : A) → o ≡ None → SomeIff o P z → P → ⊥
checked_not P o z e h = rw e at h
