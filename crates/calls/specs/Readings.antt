-- The readings of the bench that are proved: a call, its numbers, and what is answered.
use Prim.Native.String.{String}
use Rattle.std.specs.Prelude.{◌≡◌, Bool, true, false, ◌&&◌, List, [], ◌∷◌, ℤ, pos, neg_ℤ}
use Rattle.std.specs.Int.Signed.{le_z}
use Rattle.refusal.specs.Answer.{Answer, given, refused}
use Rattle.replies.specs.Replies.{shown}
use Rattle.parameters.specs.Kinds.{Kind}
use Rattle.calls.specs.Table.{takes_of, answers_of}

pub record Reading : Type 0 where
  pub call : String
  pub numbers : List ℤ
  pub answer : Answer (List ℤ)

abbrev reading : String → List ℤ → Answer (List ℤ) → Reading
reading c zs a = record { call = c; numbers = zs; answer = a }

-- a number for each parameter, and of its type
abbrev pub of_types : List Kind → List ℤ → Bool
of_types [] [] = true
of_types [] (z ∷ zs) = false
of_types (k ∷ ks) [] = false
of_types (k ∷ ks) (z ∷ zs) = (le_z k.low z && le_z z k.high) && of_types ks zs

-- the call takes the numbers, and answers so
pub record Answered (r : Reading) : Type 0 where
  pub takes : of_types (takes_of r.call) r.numbers ≡ true
  pub answers : answers_of r.call r.numbers ≡ shown (λ vs. vs) r.answer

abbrev pub AllAnswered : List Reading → Type 0
AllAnswered [] = Unit {0}
AllAnswered (r ∷ rs) = Answered r × AllAnswered rs

-- units: 0 year, 1 month, 5 minute. Overflow: 0 constrain, 1 reject. Modes: 4 half-ceil, 6 half-expand, 8 half-even
abbrev pub readings : List Reading
readings =
    reading "date_to_day" (pos 1970 ∷ pos 1 ∷ pos 1 ∷ []) (given (pos 0 ∷ [])) ∷
    reading "date_to_day" (pos 2000 ∷ pos 3 ∷ pos 1 ∷ []) (given (pos 11017 ∷ [])) ∷
    reading "date_to_day" (pos 2024 ∷ pos 2 ∷ pos 29 ∷ []) (given (pos 19782 ∷ [])) ∷
    reading "round_time" (pos 1 ∷ pos 10 ∷ pos 0 ∷ pos 0 ∷ pos 0 ∷ pos 0 ∷ pos 5 ∷ pos 20 ∷ pos 8 ∷ [])
    (given (pos 0 ∷ pos 1 ∷ pos 0 ∷ pos 0 ∷ pos 0 ∷ pos 0 ∷ pos 0 ∷ [])) ∷
    reading "round_time" (pos 1 ∷ pos 50 ∷ pos 0 ∷ pos 0 ∷ pos 0 ∷ pos 0 ∷ pos 5 ∷ pos 20 ∷ pos 8 ∷ [])
    (given (pos 0 ∷ pos 1 ∷ pos 40 ∷ pos 0 ∷ pos 0 ∷ pos 0 ∷ pos 0 ∷ [])) ∷
    reading "round_time" (pos 1 ∷ pos 50 ∷ pos 0 ∷ pos 0 ∷ pos 0 ∷ pos 0 ∷ pos 5 ∷ pos 20 ∷ pos 6 ∷ [])
    (given (pos 0 ∷ pos 2 ∷ pos 0 ∷ pos 0 ∷ pos 0 ∷ pos 0 ∷ pos 0 ∷ [])) ∷
    reading "round_number" (neg_ℤ (pos 5) ∷ pos 10 ∷ pos 6 ∷ []) (given (neg_ℤ (pos 10) ∷ [])) ∷
    reading "round_number" (neg_ℤ (pos 5) ∷ pos 10 ∷ pos 4 ∷ []) (given (pos 0 ∷ [])) ∷
    reading "round_number_as_if_positive" (neg_ℤ (pos 5) ∷ pos 10 ∷ pos 6 ∷ []) (given (pos 0 ∷ [])) ∷
    reading "balance_time" (pos 0 ∷ pos 0 ∷ pos 0 ∷ pos 0 ∷ pos 0 ∷ neg_ℤ (pos 1) ∷ [])
    (given (neg_ℤ (pos 1) ∷ pos 23 ∷ pos 59 ∷ pos 59 ∷ pos 999 ∷ pos 999 ∷ pos 999 ∷ [])) ∷
    reading "date_difference" (pos 2021 ∷ pos 3 ∷ pos 31 ∷ pos 2021 ∷ pos 2 ∷ pos 28 ∷ pos 1 ∷ [])
    (given (pos 0 ∷ neg_ℤ (pos 1) ∷ pos 0 ∷ pos 0 ∷ pos 4 ∷ [])) ∷
    reading "date_difference" (pos 2021 ∷ pos 1 ∷ pos 31 ∷ pos 2021 ∷ pos 2 ∷ pos 28 ∷ pos 1 ∷ [])
    (given (pos 0 ∷ pos 0 ∷ pos 0 ∷ pos 28 ∷ pos 3 ∷ [])) ∷
    reading "date_difference" (pos 2020 ∷ pos 2 ∷ pos 29 ∷ pos 2021 ∷ pos 2 ∷ pos 28 ∷ pos 0 ∷ [])
    (given (pos 0 ∷ pos 11 ∷ pos 0 ∷ pos 30 ∷ pos 14 ∷ [])) ∷
    reading "date_difference" (pos 2021 ∷ pos 2 ∷ pos 28 ∷ pos 2020 ∷ pos 2 ∷ pos 29 ∷ pos 0 ∷ [])
    (given (pos 0 ∷ neg_ℤ (pos 11) ∷ pos 0 ∷ neg_ℤ (pos 28) ∷ pos 14 ∷ [])) ∷
    reading "date_difference" (neg_ℤ (pos 271821) ∷ pos 4 ∷ pos 19 ∷ pos 275760 ∷ pos 9 ∷ pos 13 ∷ pos 0 ∷ [])
    (given (pos 547581 ∷ pos 4 ∷ pos 0 ∷ pos 25 ∷ pos 8 ∷ [])) ∷
    reading "date_sum" (pos 2024 ∷ pos 1 ∷ pos 31 ∷ pos 0 ∷ pos 1 ∷ pos 0 ∷ pos 0 ∷ pos 0 ∷ []) (given (pos 2024 ∷ pos 2 ∷ pos 29 ∷ [])) ∷
    reading "date_sum" (pos 2024 ∷ pos 1 ∷ pos 31 ∷ pos 0 ∷ pos 1 ∷ pos 0 ∷ pos 0 ∷ pos 1 ∷ []) (refused 1) ∷ []
