-- What holds of the calls on dates beyond their definitions, over every whole number.
use native.Mathlib.Omega.{arith}
use mathlib.Core.Path.{◌≡◌, ap}
use mathlib.Core.Bool.{true}
use mathlib.Core.Logic.{◌↔◌}
use lib.IntN.{ℤ, pos, neg_ℤ, ◌+ℤ◌, ◌-ℤ◌, ◌*ℤ◌}
use lib.Signed.{◌≤ℤ◌}
use Rattle.refusal.specs.Answer.{given, and_then}
use Rattle.whole.specs.Whole.{fdiv, fmod}
use Rattle.whole.proofs.Laws.{fdiv_moved, regroup}
use Rattle.iso_date.specs.Proposal.{day_from_month, iso_date_to_epoch_days, epoch_days, is_valid_iso_date, iso_date_within_limits, noon}
use Rattle.iso_date.specs.Paper.{balanced, date_to_day, day_to_date}
use Rattle.iso_date.specs.declared.IsoDate.{IsoDate}
use Rattle.iso_date.proofs.Dates.{read_valid, there_and_back, back_valid, back_and_there, one_date, plain_month}
use Rattle.iso_date.proofs.Answers.{limits_days, noon_in}

-- ---- the two conversions are inverse over the balanced range, both ways

pub day_date_day : (n : ℤ) → balanced n ≡ true → and_then (day_to_date n) date_to_day ≡ given n
unfolding day_to_date date_to_day
day_date_day n b = rw (b, back_valid n, back_and_there n, b)

pub date_day_date : (d : IsoDate) → is_valid_iso_date d ≡ true → balanced (epoch_days d) ≡ true → and_then (date_to_day d) day_to_date ≡ given d
unfolding day_to_date date_to_day
date_day_date d v b =
    rw (v, b, b) (ap given (there_and_back d.year d.month d.day (read_valid d.year d.month d.day v)))

-- a day has one valid date
pub one_valid_date : (d e : IsoDate) → is_valid_iso_date d ≡ true → is_valid_iso_date e ≡ true → epoch_days d ≡ epoch_days e → d ≡ e
one_valid_date d e v w same =
    one_date d.year e.year d.month e.month d.day e.day (read_valid d.year d.month d.day v)
    (read_valid e.year e.month e.day w) same

-- ---- the date limits, which the definition takes at noon, are days -100,000,001 to 100,000,000

pub limits_are : (d : IsoDate) →
    (iso_date_within_limits d ≡ true) ↔ ((neg_ℤ (pos 100000001) ≤ℤ epoch_days d) × (epoch_days d ≤ℤ pos 100000000))
limits_are d = (limits_days (epoch_days d) noon (omega arith), (λ h. noon_in (epoch_days d) h.0 h.1))

-- ---- balancing: twelve months are a year, so month 13 is the next January, month 0 the December before, and so on below

pub months_carry : (y m d k : ℤ) → iso_date_to_epoch_days y (m +ℤ pos 12 *ℤ k) d ≡ iso_date_to_epoch_days (y +ℤ k) m d
unfolding iso_date_to_epoch_days
months_carry y m d k =
    let a = fdiv_moved m k 12 (omega arith) in
    rw (a.0, a.1) (ap (λ (x : ℤ). day_from_month x (fmod m 12) +ℤ d -ℤ pos 1) (regroup y (fdiv m 12) k))

-- month 12 is the December of its own year
pub december : (y d : ℤ) → iso_date_to_epoch_days y (pos 12 -ℤ pos 1) d ≡ day_from_month y 11 +ℤ d -ℤ pos 1
december y d = plain_month y 12 d (omega arith) (omega arith)
