-- What the rounder answers, for every input: a step of 0 is 6, an exact result outside signed 64 bits is 7.
use Rattle.std.specs.Prelude.{ℕ, ◌-◌, ◌^◌, Bool, ◌&&◌, ltb, ℤ, pos, neg_ℤ}
use Rattle.std.specs.Int.Signed.{le_z}
use Rattle.refusal.specs.Answer.{Answer, given, check}
use Rattle.rounding.specs.Proposal.{round_number_to_increment, round_number_to_increment_as_if_positive}
use Rattle.rounding.specs.declared.RoundingMode.{RoundingMode}

unfoldable pub in_signed64 : ℤ → Bool
in_signed64 z = le_z (neg_ℤ (pos (2 ^ 63))) z && le_z z (pos (2 ^ 63 - 1))

-- the exact result, where signed 64 bits hold it
abbrev pub rounded : ℕ → ℤ → Answer ℤ
rounded step result = check (ltb 0 step) 6 (check (in_signed64 result) 7 (given result))

unfoldable pub round_number : ℤ → ℕ → RoundingMode → Answer ℤ
round_number x step mode = rounded step (round_number_to_increment x step mode)

unfoldable pub round_number_as_if_positive : ℤ → ℕ → RoundingMode → Answer ℤ
round_number_as_if_positive x step mode = rounded step (round_number_to_increment_as_if_positive x step mode)
