-- The text of a number and of several values, put together from what is written one after another.
use Prim.Native.Nat.{ℕ}
use native.Mathlib.Omega.{arith}
use lib.Signed.{◌≤ℤ◌, ◌<ℤ◌}
use Rattle.std.specs.Prelude.{unsigned_abs}
use Rattle.whole.proofs.Laws.{ints}
use mathlib.Core.Path.{◌≡◌, refl, sym, ap, ◌∙◌}
use mathlib.Core.List.{List, [], ◌∷◌, ◌++◌, append_assoc}
use lib.IntN.{ℤ, pos, negsuc}
use Rattle.lines.specs.Text.{space, minus_sign}
use Rattle.writing.specs.Text.{digits, decimal, spaced}

pub decimal_plus : (z : ℤ) → pos 0 ≤ℤ z → decimal z ≡ digits 20 (unsigned_abs z)
unfolding decimal
decimal_plus (pos n) h = refl
decimal_plus (negsuc n) h = let f : ⊥ = omega (arith, ints) in absurd f

pub decimal_minus : (z : ℤ) → z <ℤ pos 0 → decimal z ≡ minus_sign ∷ digits 20 (unsigned_abs z)
unfolding decimal
decimal_minus (pos n) h = let f : ⊥ = omega (arith, ints) in absurd f
decimal_minus (negsuc n) h = refl

pub spaced_append : (vs ws : List ℤ) → spaced (vs ++ ws) ≡ spaced vs ++ spaced ws
unfolding spaced
spaced_append [] ws = refl
spaced_append (v ∷ vs) ws = ap (λ (t : List ℕ). (space ∷ decimal v) ++ t) (spaced_append vs ws) ∙ sym (append_assoc (space ∷ decimal v) (spaced vs) (spaced ws))
