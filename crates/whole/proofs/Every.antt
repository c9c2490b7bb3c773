-- A rule of finitely many numbers, shown by one test that computes over all of them.
use Prim.Native.Nat.{ℕ, zero, suc, ◌<◌, ◌≤◌}
use native.Mathlib.Omega.{arith}
use mathlib.Core.Path.{◌≡◌, subst}
use mathlib.Core.Bool.{Bool, true, false, ◌&&◌}
use mathlib.Core.Logic.{⊎_elim}
use lib.Dec.{T, leb, eqb, leb→le, eqb→eq}
use Rattle.whole.proofs.Laws.{split}

-- the test passes at each number below n
abbrev pub every : (ℕ → Bool) → ℕ → Bool
every f zero = true
every f (suc n) = f n && every f n

both : (a b : Bool) → T (a && b) → T a × T b
both true b t = (tt, t)
both false b t = absurd t

pub every_at : (f : ℕ → Bool) (n : ℕ) → T (every f n) → (i : ℕ) → i < n → T (f i)
every_at f zero t i h = let z : ⊥ = omega arith in absurd z
every_at f (suc n) t i h =
    ⊎_elim
    (λ l. every_at f n (both (f n) (every f n) t).1 i l)
    (λ l. let e : n ≡ i = omega arith in subst (λ (k : ℕ). T (f k)) e (both (f n) (every f n) t).0)
    (split i n)

-- two rules that agree, and one that stays below another
pub every_equal : (f g : ℕ → ℕ) (n : ℕ) → T (every (λ i. eqb (f i) (g i)) n) → (i : ℕ) → i < n → f i ≡ g i
every_equal f g n t i h = eqb→eq (f i) (g i) (every_at (λ k. eqb (f k) (g k)) n t i h)

pub every_le : (f g : ℕ → ℕ) (n : ℕ) → T (every (λ i. leb (f i) (g i)) n) → (i : ℕ) → i < n → f i ≤ g i
every_le f g n t i h = leb→le (f i) (g i) (every_at (λ k. leb (f k) (g k)) n t i h)
