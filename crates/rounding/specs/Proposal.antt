-- The rounding steps of the TC39 Temporal proposal, under their names. A quotient q = x / inc is kept exactly, as its floor
-- r1 = ⌊x / inc⌋ with the two distances times inc: d1 from r1 up to q, d2 from q up to r2 = r1 + 1.
use Rattle.std.specs.Prelude.{ℕ, ◌-◌, Bool, true, false, cond, ltb, eqb, ℤ, pos, neg_ℤ, ◌+ℤ◌, ◌*ℤ◌}
use Rattle.std.specs.Int.Signed.{lt_z}
use Rattle.whole.specs.Whole.{fdiv, fmod}
use Rattle.rounding.specs.declared.RoundingMode.{RoundingMode}
use Rattle.rounding.specs.declared.RoundingMode.TheVariants as M
use Rattle.rounding.specs.declared.UnsignedRoundingMode.{UnsignedRoundingMode}
use Rattle.rounding.specs.declared.UnsignedRoundingMode.TheVariants as U

-- GetUnsignedRoundingMode(mode, sign): nine rows of two. Infinity is away from zero
abbrev pub row_of : Bool → UnsignedRoundingMode → UnsignedRoundingMode → UnsignedRoundingMode
row_of false positive negative = positive
row_of true positive negative = negative

unfoldable pub get_unsigned_rounding_mode : RoundingMode → Bool → UnsignedRoundingMode
get_unsigned_rounding_mode M.Ceil is_negative = row_of is_negative U.Infinity U.Zero
get_unsigned_rounding_mode M.Floor is_negative = row_of is_negative U.Zero U.Infinity
get_unsigned_rounding_mode M.Expand is_negative = row_of is_negative U.Infinity U.Infinity
get_unsigned_rounding_mode M.Trunc is_negative = row_of is_negative U.Zero U.Zero
get_unsigned_rounding_mode M.HalfCeil is_negative = row_of is_negative U.HalfInfinity U.HalfZero
get_unsigned_rounding_mode M.HalfFloor is_negative = row_of is_negative U.HalfZero U.HalfInfinity
get_unsigned_rounding_mode M.HalfExpand is_negative = row_of is_negative U.HalfInfinity U.HalfInfinity
get_unsigned_rounding_mode M.HalfTrunc is_negative = row_of is_negative U.HalfZero U.HalfZero
get_unsigned_rounding_mode M.HalfEven is_negative = row_of is_negative U.HalfEven U.HalfEven

-- the nearer of the two, or what is said of the middle
abbrev pub nearer : ℤ → ℕ → ℕ → ℤ → ℤ
nearer r1 d1 d2 at_middle = cond (ltb d1 d2) r1 (cond (ltb d2 d1) (r1 +ℤ pos 1) at_middle)

-- ApplyUnsignedRoundingMode(q, r1, r2, rule) where q is not r1
abbrev pub apply_rule : UnsignedRoundingMode → ℤ → ℕ → ℕ → ℤ
apply_rule U.Zero r1 d1 d2 = r1
apply_rule U.Infinity r1 d1 d2 = r1 +ℤ pos 1
apply_rule U.HalfZero r1 d1 d2 = nearer r1 d1 d2 r1
apply_rule U.HalfInfinity r1 d1 d2 = nearer r1 d1 d2 (r1 +ℤ pos 1)
apply_rule U.HalfEven r1 d1 d2 = nearer r1 d1 d2 (cond (eqb (fmod r1 2) 0) r1 (r1 +ℤ pos 1))

-- and r1 where q is r1
unfoldable pub apply_unsigned_rounding_mode : UnsignedRoundingMode → ℤ → ℕ → ℕ → ℤ
apply_unsigned_rounding_mode rule r1 d1 d2 = cond (eqb d1 0) r1 (apply_rule rule r1 d1 d2)

-- the rule applied to x / inc
unfoldable pub round_quotient : ℤ → ℕ → UnsignedRoundingMode → ℤ
round_quotient x inc rule = apply_unsigned_rounding_mode rule (fdiv x inc) (fmod x inc) (inc - fmod x inc)

-- RoundNumberToIncrement(x, inc, mode): by its size, with the rule of its sign
unfoldable pub round_number_to_increment : ℤ → ℕ → RoundingMode → ℤ
round_number_to_increment x inc mode =
    cond (lt_z x (pos 0)) (neg_ℤ (round_quotient (neg_ℤ x) inc (get_unsigned_rounding_mode mode true)))
    (round_quotient x inc (get_unsigned_rounding_mode mode false)) *ℤ pos inc

-- RoundNumberToIncrementAsIfPositive: with no turn of sign and the rule of the positive ones
unfoldable pub round_number_to_increment_as_if_positive : ℤ → ℕ → RoundingMode → ℤ
round_number_to_increment_as_if_positive x inc mode = round_quotient x inc (get_unsigned_rounding_mode mode false) *ℤ pos inc
