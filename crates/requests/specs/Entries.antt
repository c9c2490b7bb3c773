-- The calls of the code: which row of the contract's table each is, and what its own entry says of it.
use Rattle.std.specs.Prelude.{ℕ, ◌≡◌, ◌<◌, Bool, cond, ◌&&◌, List, [], ◌∷◌, length, get_or}
use Rattle.std.specs.Int.Signed.{le_z}
use Rattle.parameters.specs.Kinds.{Kind}
use Rattle.parameters.specs.Letters.{letter_kind, letters_kinds}
use Rattle.calls.specs.Table.{Row, calls, no_row, place_in}
use Rattle.requests.specs.declared.inner.Entry.{Entry}
use Rattle.requests.specs.declared.inner.Call.{Call}
use Rattle.requests.specs.declared.inner.Call.TheVariants as C

abbrev pub place_of_call : Call → ℕ
place_of_call C.MonthLength = 0
place_of_call C.DateToDay = 1
place_of_call C.DayToDate = 2
place_of_call C.BalanceYearMonth = 3
place_of_call C.RegulateDate = 4
place_of_call C.MakeDate = 5
place_of_call C.DateLimits = 6
place_of_call C.BalanceDate = 7
place_of_call C.RegulateTime = 8
place_of_call C.BalanceTime = 9
place_of_call C.TimeDifference = 10
place_of_call C.RoundNumber = 11
place_of_call C.RoundNumberAsIfPositive = 12
place_of_call C.RoundTime = 13
place_of_call C.DurationNew = 14
place_of_call C.DurationSign = 15
place_of_call C.DurationAbs = 16
place_of_call C.DurationNegated = 17
place_of_call C.DurationAdjust = 18
place_of_call C.DateSum = 19
place_of_call C.DateDifference = 20
place_of_call C.DateTimeLimits = 21
place_of_call C.BalanceDateTime = 22
place_of_call C.RoundDateTime = 23
place_of_call C.DateTimeDifference = 24
place_of_call C.DateTimeFromInstant = 25
place_of_call C.WriteDate = 26
place_of_call C.WriteTime = 27
place_of_call C.WriteDateTime = 28

abbrev pub row_of : Call → Row
row_of call = get_or calls (place_of_call call) no_row

-- the letter of a parameter: the first of i, l, b, s, w, f, m, r that means its numbers, or u
abbrev same_kind : Kind → Kind → Bool
same_kind j k = (le_z j.low k.low && le_z k.low j.low) && (le_z j.high k.high && le_z k.high j.high)

abbrev first_of : List ℕ → Kind → ℕ
first_of [] k = 117
first_of (l ∷ ls) k = cond (same_kind (letter_kind l) k) l (first_of ls k)

abbrev pub letters_of : List Kind → List ℕ
letters_of [] = []
letters_of (k ∷ ks) = first_of (105 ∷ 108 ∷ 98 ∷ 115 ∷ 119 ∷ 102 ∷ 109 ∷ 114 ∷ []) k ∷ letters_of ks

-- the entry is that of the call that has the name: it has that name, and the letters of the call's parameters, which mean these
pub record Named (name : List ℕ) (entry : Entry) : Type 0 where
  pub known : place_in calls name < length calls
  pub place : place_in calls name ≡ place_of_call entry.call
  pub called : entry.name.now ≡ name
  pub spelled : entry.letters.now ≡ letters_of (row_of entry.call).takes
  pub letters : letters_kinds entry.letters.now ≡ (row_of entry.call).takes
