-- The contract of `entry_named` allows one entry only: the name, each letter and the call.
use Rattle.std.proofs.Common.{ℕ, ◌≡◌, refl, sym, ap, ◌∙◌, List, [], ◌∷◌, get_or}
use Rattle.requests.specs.Entries.{place_of_call, row_of, letters_of, Named}
use Rattle.requests.specs.declared.inner.Entry.{Entry}
use Rattle.requests.specs.declared.inner.Call.{Call}
use Rattle.requests.specs.declared.inner.Call.TheVariants as C

abbrev in_order : List Call
in_order =
    C.MonthLength ∷ C.DateToDay ∷ C.DayToDate ∷ C.BalanceYearMonth ∷ C.RegulateDate ∷ C.MakeDate ∷ C.DateLimits ∷ C.BalanceDate ∷
    C.RegulateTime ∷ C.BalanceTime ∷ C.TimeDifference ∷ C.RoundNumber ∷ C.RoundNumberAsIfPositive ∷ C.RoundTime ∷ C.DurationNew ∷
    C.DurationSign ∷ C.DurationAbs ∷ C.DurationNegated ∷ C.DurationAdjust ∷ C.DateSum ∷ C.DateDifference ∷ C.DateTimeLimits ∷
    C.BalanceDateTime ∷ C.RoundDateTime ∷ C.DateTimeDifference ∷ C.DateTimeFromInstant ∷ C.WriteDate ∷ C.WriteTime ∷ C.WriteDateTime ∷ []

call_back : (c : Call) → get_or in_order (place_of_call c) C.MonthLength ≡ c
call_back C.MonthLength = refl
call_back C.DateToDay = refl
call_back C.DayToDate = refl
call_back C.BalanceYearMonth = refl
call_back C.RegulateDate = refl
call_back C.MakeDate = refl
call_back C.DateLimits = refl
call_back C.BalanceDate = refl
call_back C.RegulateTime = refl
call_back C.BalanceTime = refl
call_back C.TimeDifference = refl
call_back C.RoundNumber = refl
call_back C.RoundNumberAsIfPositive = refl
call_back C.RoundTime = refl
call_back C.DurationNew = refl
call_back C.DurationSign = refl
call_back C.DurationAbs = refl
call_back C.DurationNegated = refl
call_back C.DurationAdjust = refl
call_back C.DateSum = refl
call_back C.DateDifference = refl
call_back C.DateTimeLimits = refl
call_back C.BalanceDateTime = refl
call_back C.RoundDateTime = refl
call_back C.DateTimeDifference = refl
call_back C.DateTimeFromInstant = refl
call_back C.WriteDate = refl
call_back C.WriteTime = refl
call_back C.WriteDateTime = refl

pub same_call : (c d : Call) → place_of_call c ≡ place_of_call d → c ≡ d
same_call c d e = sym (call_back c) ∙ ap (λ (k : ℕ). get_or in_order k C.MonthLength) e ∙ call_back d

pub one_entry : {name : List ℕ} {d e : Entry} → Named name d → Named name e →
    (d.call ≡ e.call) × ((d.name.now ≡ e.name.now) × (d.letters.now ≡ e.letters.now))
one_entry {name} {d} {e} v w =
    let c : d.call ≡ e.call = same_call d.call e.call (sym v.place ∙ w.place) in
    (c, (v.called ∙ sym w.called, v.spelled ∙ ap (λ (k : Call). letters_of (row_of k).takes) c ∙ sym w.spelled))
