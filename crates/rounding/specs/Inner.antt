-- The rounder on sizes, for the contracts inside. No public contract cites this.
use Rattle.std.specs.Prelude.{ℕ, ◌+◌, ◌-◌, ◌*◌, ◌/◌, ◌%◌, Bool, true, false, cond, ltb, leb, eqb, ℤ, pos, neg_ℤ, nat_abs}
use Rattle.std.specs.Int.Signed.{lt_z}
use Rattle.rounding.specs.declared.RoundingMode.{RoundingMode}
use Rattle.rounding.specs.declared.RoundingMode.TheVariants as M
use Rattle.rounding.specs.declared.UnsignedRoundingMode.{UnsignedRoundingMode}
use Rattle.rounding.specs.declared.UnsignedRoundingMode.TheVariants as U

-- where a mode stands in the table
abbrev pub mode_row : RoundingMode → ℕ
mode_row M.Ceil = 0
mode_row M.Floor = 1
mode_row M.Expand = 2
mode_row M.Trunc = 3
mode_row M.HalfCeil = 4
mode_row M.HalfFloor = 5
mode_row M.HalfExpand = 6
mode_row M.HalfTrunc = 7
mode_row M.HalfEven = 8

-- whether the upper multiple is taken
abbrev pub up_by : UnsignedRoundingMode → Bool → ℕ → ℕ → Bool
up_by U.Infinity is_odd d1 d2 = true
up_by U.Zero is_odd d1 d2 = false
up_by U.HalfInfinity is_odd d1 d2 = leb d2 d1
up_by U.HalfZero is_odd d1 d2 = ltb d2 d1
up_by U.HalfEven is_odd d1 d2 = cond is_odd (leb d2 d1) (ltb d2 d1)

unfoldable pub takes_up : UnsignedRoundingMode → Bool → ℕ → ℕ → Bool
takes_up rule is_odd d1 d2 = cond (eqb d1 0) false (up_by rule is_odd d1 d2)

unfoldable pub rounded_size : ℕ → ℕ → UnsignedRoundingMode → ℕ
rounded_size size step rule =
    size / step * step + cond (takes_up rule (eqb (size / step % 2) 1) (size - size / step * step) (step - (size - size / step * step))) step 0

-- the rule for a size where the number is negative and the rule is to see it as if it were positive
abbrev pub mirrored : UnsignedRoundingMode → UnsignedRoundingMode
mirrored U.Infinity = U.Zero
mirrored U.Zero = U.Infinity
mirrored U.HalfInfinity = U.HalfZero
mirrored U.HalfZero = U.HalfInfinity
mirrored U.HalfEven = U.HalfEven

-- a number rounded by its size, its sign kept
unfoldable pub by_size : ℤ → ℕ → UnsignedRoundingMode → ℤ
by_size x step rule = cond (lt_z x (pos 0)) (neg_ℤ (pos (rounded_size (nat_abs x) step rule))) (pos (rounded_size (nat_abs x) step rule))
