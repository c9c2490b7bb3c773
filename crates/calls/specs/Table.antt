-- The calls of the line protocol, one row each: its name, its parameters, and what it answers to their numbers; and those that read a text.
use Rattle.std.specs.Prelude.{ℕ, suc, cond, List, [], ◌∷◌, ◌++◌, ℤ}
use Prim.Native.Char.{code}
use Prim.Native.String.{String}
use Prim.Native.String as Text
use Rattle.refusal.specs.Answer.{Answer, given}
use Rattle.lines.specs.Text.{same_bytes}
use Rattle.writing.specs.Text.{spaced}
use Rattle.iso_date.specs.Paper.{month_length, date_to_day, day_to_date, balance_year_month, regulate_date, make_date, date_limits, balance_date}
use Rattle.iso_time.specs.Paper.{regulate_time, balance_time_fields, time_difference, rounded_time}
use Rattle.rounding.specs.Paper.{round_number, round_number_as_if_positive}
use Rattle.date_duration.specs.Paper.{new_duration, duration_sign, duration_abs, duration_negated, duration_adjust}
use Rattle.date_math.specs.Paper.{date_sum, date_difference}
use Rattle.iso_date_time.specs.Paper.{date_time_limits, balance_date_time, round_date_time, date_time_difference, from_instant}
use Rattle.date_text.specs.Paper.{read_date, read_time, read_date_time, write_date, write_time, write_date_time}
use Rattle.parameters.specs.Kinds.{Kind, signed, unsigned}
use Rattle.parameters.specs.Meaning.{at, nat_at}
use Rattle.parameters.specs.Parameters.{date_kinds, time_kinds, parts_kinds, date_time_kinds, duration_kinds, choice_kinds, overflow_kind, unit_kind}
use Rattle.parameters.specs.Parameters.{mode_kind, room_kind, date_at, time_at, date_time_at, duration_at, part_at, overflow_of, unit_of, mode_of}
use Rattle.replies.specs.Replies.{shown, no_values, natural_value, whole_value, date_values, year_month_values, time_values, balanced_values}
use Rattle.replies.specs.Replies.{span_values, duration_values, sign_value, date_time_values, date_difference_values, difference_values, shown_text}

pub record Row : Type 0 where
  pub name : String
  pub takes : List Kind
  pub answers : List ℤ → Answer (List ℕ)

abbrev row : String → List Kind → (List ℤ → Answer (List ℕ)) → Row
row n ks a = record { name = n; takes = ks; answers = a }

abbrev pub calls : List Row
calls =
    row "month_length" (signed 32 ∷ unsigned 8 ∷ [])
    (λ zs. shown natural_value (month_length (at zs 0) (nat_at zs 1))) ∷
    row "date_to_day" date_kinds
    (λ zs. shown whole_value (date_to_day (date_at zs 0))) ∷
    row "day_to_date" (signed 64 ∷ [])
    (λ zs. shown date_values (day_to_date (at zs 0))) ∷
    row "balance_year_month" (signed 32 ∷ signed 32 ∷ [])
    (λ zs. given (spaced (year_month_values (balance_year_month (at zs 0) (at zs 1))))) ∷
    row "regulate_date" (date_kinds ++ (overflow_kind ∷ []))
    (λ zs. shown date_values (regulate_date (date_at zs 0) (overflow_of (at zs 3)))) ∷
    row "make_date" (date_kinds ++ (overflow_kind ∷ []))
    (λ zs. shown date_values (make_date (date_at zs 0) (overflow_of (at zs 3)))) ∷
    row "date_limits" date_kinds
    (λ zs. shown no_values (date_limits (date_at zs 0))) ∷
    row "balance_date" (signed 32 ∷ signed 32 ∷ signed 64 ∷ [])
    (λ zs. shown date_values (balance_date (at zs 0) (at zs 1) (at zs 2))) ∷
    row "regulate_time" (time_kinds ++ (overflow_kind ∷ []))
    (λ zs. shown time_values (regulate_time (time_at zs 0) (overflow_of (at zs 6)))) ∷
    row "balance_time" parts_kinds
    (λ zs. shown balanced_values (balance_time_fields (at zs 0) (at zs 1) (at zs 2) (at zs 3) (at zs 4) (at zs 5))) ∷
    row "time_difference" (time_kinds ++ time_kinds)
    (λ zs. shown span_values (time_difference (time_at zs 0) (time_at zs 6))) ∷
    row "round_number" (signed 64 ∷ unsigned 64 ∷ mode_kind ∷ [])
    (λ zs. shown whole_value (round_number (at zs 0) (nat_at zs 1) (mode_of (at zs 2)))) ∷
    row "round_number_as_if_positive" (signed 64 ∷ unsigned 64 ∷ mode_kind ∷ [])
    (λ zs. shown whole_value (round_number_as_if_positive (at zs 0) (nat_at zs 1) (mode_of (at zs 2)))) ∷
    row "round_time" (time_kinds ++ (unit_kind ∷ unsigned 64 ∷ mode_kind ∷ []))
    (λ zs. shown balanced_values (rounded_time (time_at zs 0) (unit_of (at zs 6)) (nat_at zs 7) (mode_of (at zs 8)))) ∷
    row "duration_new" duration_kinds
    (λ zs. shown duration_values (new_duration (duration_at zs 0))) ∷
    row "duration_sign" duration_kinds
    (λ zs. shown sign_value (duration_sign (duration_at zs 0))) ∷
    row "duration_abs" duration_kinds
    (λ zs. shown duration_values (duration_abs (duration_at zs 0))) ∷
    row "duration_negated" duration_kinds
    (λ zs. shown duration_values (duration_negated (duration_at zs 0))) ∷
    row "duration_adjust" (duration_kinds ++ (signed 64 ∷ (choice_kinds ++ choice_kinds)))
    (λ zs. shown duration_values (duration_adjust (duration_at zs 0) (at zs 4) (part_at zs 5) (part_at zs 7))) ∷
    row "date_sum" (date_kinds ++ (duration_kinds ++ (overflow_kind ∷ [])))
    (λ zs. shown date_values (date_sum (date_at zs 0) (duration_at zs 3) (overflow_of (at zs 7)))) ∷
    row "date_difference" (date_kinds ++ (date_kinds ++ (unit_kind ∷ [])))
    (λ zs. shown date_difference_values (date_difference (date_at zs 0) (date_at zs 3) (unit_of (at zs 6)))) ∷
    row "datetime_limits" date_time_kinds
    (λ zs. shown no_values (date_time_limits (date_time_at zs 0))) ∷
    row "balance_datetime" (signed 32 ∷ signed 32 ∷ signed 64 ∷ parts_kinds)
    (λ zs. shown date_time_values (balance_date_time (at zs 0) (at zs 1) (at zs 2) (at zs 3) (at zs 4) (at zs 5) (at zs 6) (at zs 7) (at zs 8))) ∷
    row "round_datetime" (date_time_kinds ++ (unit_kind ∷ unsigned 64 ∷ mode_kind ∷ []))
    (λ zs. shown date_time_values (round_date_time (date_time_at zs 0) (unit_of (at zs 9)) (nat_at zs 10) (mode_of (at zs 11)))) ∷
    row "datetime_difference" (date_time_kinds ++ (date_time_kinds ++ (unit_kind ∷ [])))
    (λ zs. shown difference_values (date_time_difference (date_time_at zs 0) (date_time_at zs 9) (unit_of (at zs 18)))) ∷
    row "datetime_from_instant" (signed 64 ∷ signed 64 ∷ signed 64 ∷ [])
    (λ zs. shown date_time_values (from_instant (at zs 0) (at zs 1) (at zs 2))) ∷
    row "write_date" (date_kinds ++ (room_kind ∷ []))
    (λ zs. shown_text (write_date (date_at zs 0) (nat_at zs 3))) ∷
    row "write_time" (time_kinds ++ (room_kind ∷ []))
    (λ zs. shown_text (write_time (time_at zs 0) (nat_at zs 6))) ∷
    row "write_datetime" (date_time_kinds ++ (room_kind ∷ []))
    (λ zs. shown_text (write_date_time (date_time_at zs 0) (nat_at zs 9))) ∷
    []

-- ---- the calls that take a text and nothing else, one row each: its name, and what it answers to the text

pub record TextRow : Type 0 where
  pub name : String
  pub answers : List ℕ → Answer (List ℕ)

abbrev text_row : String → (List ℕ → Answer (List ℕ)) → TextRow
text_row n a = record { name = n; answers = a }

abbrev pub text_calls : List TextRow
text_calls =
    text_row "read_date" (λ text. shown date_values (read_date text)) ∷
    text_row "read_time" (λ text. shown time_values (read_time text)) ∷
    text_row "read_datetime" (λ text. shown date_time_values (read_date_time text)) ∷
    []

-- ---- a row by its name

abbrev pub bytes : String → List ℕ
bytes Text.[] = []
bytes (Text.◌∷◌ c cs) = code c ∷ bytes cs

-- what stands past the last row: no call has an empty name
abbrev pub no_row : Row
no_row = row "" [] (λ zs. given [])

-- the place, from 0, of the first row that has the name; as many as there are rows, where none has it
unfoldable pub place_in : List Row → List ℕ → ℕ
place_in [] name = 0
place_in (r ∷ rs) name = cond (same_bytes name (bytes r.name)) 0 (suc (place_in rs name))

abbrev pub row_named : List Row → List ℕ → Row
row_named [] name = no_row
row_named (r ∷ rs) name = cond (same_bytes name (bytes r.name)) r (row_named rs name)

abbrev pub takes_of : String → List Kind
takes_of name = (row_named calls (bytes name)).takes

abbrev pub answers_of : String → List ℤ → Answer (List ℕ)
answers_of name = (row_named calls (bytes name)).answers

abbrev text_row_named : List TextRow → List ℕ → TextRow
text_row_named [] name = text_row "" (λ text. given [])
text_row_named (r ∷ rs) name = cond (same_bytes name (bytes r.name)) r (text_row_named rs name)

abbrev pub text_answers_of : String → List ℕ → Answer (List ℕ)
text_answers_of name = (text_row_named text_calls (bytes name)).answers
