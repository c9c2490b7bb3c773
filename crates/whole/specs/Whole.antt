-- Whole numbers of either sign, as the definitions of this library use them. Nothing of calendars.
use Rattle.std.specs.Prelude.{ℕ, suc, ◌+◌, ◌-◌, ◌/◌, ◌%◌, cond, ℤ, pos, negsuc}
use Rattle.std.proofs.Math.IntN.{sub_ℕ}
use Rattle.std.specs.Int.Signed.{lt_z}

-- a less b, of two naturals
infixl 6 ◌⊖◌
unfoldable pub ◌⊖◌ : ℕ → ℕ → ℤ
a ⊖ b = sub_ℕ a b

-- the quotient by a positive number, rounded down: ⌊z / d⌋
unfoldable pub fdiv : ℤ → ℕ → ℤ
fdiv (pos a) d = pos (a / d)
fdiv (negsuc a) d = negsuc (a / d)

-- what that leaves, from 0 to d - 1: z mod d
unfoldable pub fmod : ℤ → ℕ → ℕ
fmod (pos a) d = a % d
fmod (negsuc a) d = d - suc (a % d)

-- the number from low to high that is nearest to z
unfoldable pub clamp_z : ℤ → ℤ → ℤ → ℤ
clamp_z z low high = cond (lt_z z low) low (cond (lt_z high z) high z)

-- how far apart two naturals are
abbrev pub apart : ℕ → ℕ → ℕ
apart a b = (a - b) + (b - a)
