-- What a call's result says in numbers: 0 and the value, or the number of a refusal and nothing else. And the words of each refusal.
use Rattle.std.specs.Prelude.{ℕ, List, codes, Result, Ok, Err}
use Rattle.refusal.specs.Answer.{Answer, given, refused}
use Rattle.refusal.specs.declared.Refusal.{Refusal}
use Rattle.refusal.specs.declared.Refusal.TheVariants as R

-- the number of each refusal
abbrev pub refusal_number : Refusal → ℕ
refusal_number R.Field = 1
refusal_number R.DateLimits = 2
refusal_number R.DateTimeLimits = 3
refusal_number R.DayCount = 4
refusal_number R.Unit = 5
refusal_number R.Increment = 6
refusal_number R.Bound = 7
refusal_number R.Duration = 8
refusal_number R.Form = 9
refusal_number R.Room = 10

-- and the sentence that is printed
abbrev pub refusal_words : Refusal → List ℕ
refusal_words R.Field = codes "a field is not valid"
refusal_words R.DateLimits = codes "the date is outside its limits"
refusal_words R.DateTimeLimits = codes "the date with its time is outside its limits"
refusal_words R.DayCount = codes "the count of days is outside the balanced range"
refusal_words R.Unit = codes "the unit is not usable here"
refusal_words R.Increment = codes "the increment is not allowed"
refusal_words R.Bound = codes "a number is outside its bound"
refusal_words R.Duration = codes "the duration is not valid"
refusal_words R.Form = codes "the text is of another form"
refusal_words R.Room = codes "the slice is too short"

-- a result as number and value
abbrev pub answer_of : {A : Type 0} → Result A Refusal → Answer A
answer_of (Ok a) = given a
answer_of (Err e) = refused (refusal_number e)
