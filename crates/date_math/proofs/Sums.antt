-- What the sum does when nothing is refused on the way, and that it goes back from its answer.
use Prim.Native.Nat.{ℕ, ◌+◌, ◌-◌, ◌^◌, ◌≤◌, ◌<◌}
use native.Mathlib.Omega.{arith}
use mathlib.Core.Path.{◌≡◌, refl, sym, ◌∙◌, ap}
use mathlib.Core.Bool.{Bool, true, false, cond}
use borrow.Author.Tests.{le-leb, lt-leb}
use lib.IntN.{ℤ, pos, neg_ℤ, ◌+ℤ◌, ◌*ℤ◌}
use lib.Signed.{lt_z, ◌≤ℤ◌}
use Rattle.refusal.specs.Answer.{Answer, given, refused, check}
use Rattle.refusal.proofs.Answers.{given_inj, never}
use Rattle.whole.specs.Whole.{fdiv}
use Rattle.whole.proofs.Laws.{ints, read_add}
use Rattle.whole.proofs.Edges.{clamp_same}
use Rattle.iso_date.specs.Proposal.{date, day_from_year, leap_year, days_before_month, epoch_days, epoch_days_to_iso_date, is_valid_iso_date}
use Rattle.iso_date.specs.Proposal.{iso_date_within_limits, constrain_iso_date}
use Rattle.iso_date.specs.Paper.{balanced, date_limits, regulate_date, make_date, day_to_date}
use Rattle.iso_date.specs.declared.IsoDate.{IsoDate}
use Rattle.iso_date.proofs.Dates.{read_valid, day_in_year, in_year, there_and_back, back_and_there}
use Rattle.iso_date.proofs.Answers.{in_range, make_refused, make_out, make_within}
use Rattle.iso_date.proofs.Theorems.{limits_are}
use Rattle.iso_date.proofs.Years.{year_length}
use Rattle.date_duration.specs.Proposal.{is_valid_duration}
use Rattle.date_duration.specs.declared.DateDuration.{DateDuration}
use Rattle.date_duration.proofs.Durations.{bounded}
use Rattle.options.specs.declared.Overflow.{Overflow}
use Rattle.options.specs.declared.Overflow.TheVariants.{Constrain}
use Rattle.options.specs.declared.Unit.{Unit as TemporalUnit}
use Rattle.options.specs.Units.{unit_rank}
use Rattle.date_math.specs.Proposal.{moved_by}
use Rattle.date_math.specs.Paper.{clamped_year, sum_steps, date_sum, difference_of_dates, date_difference}
use Rattle.date_math.specs.declared.DateDifference.{DateDifference}
use Rattle.date_math.proofs.Order.{year_mono}

-- ---- a date within the limits

pub record Fine (d : IsoDate) : Type 0 where
  pub valid : is_valid_iso_date d ≡ true
  pub low : neg_ℤ (pos 100000001) ≤ℤ epoch_days d
  pub high : epoch_days d ≤ℤ pos 100000000

pub fine : (d : IsoDate) → is_valid_iso_date d ≡ true → iso_date_within_limits d ≡ true → Fine d
fine d v l = let b = (limits_are d).0 l in record { valid = v; low = b.0; high = b.1 }

pub fine_within : (d : IsoDate) → Fine d → iso_date_within_limits d ≡ true
fine_within d f = (limits_are d).1 (f.low, f.high)

pub fine_limits : (d : IsoDate) → Fine d → date_limits d ≡ given tt
unfolding date_limits
fine_limits d f = rw (f.valid, fine_within d f)

early : day_from_year (neg_ℤ (pos 300000)) ≡ neg_ℤ (pos 110292278)
unfolding day_from_year fdiv
early = refl

late : day_from_year (pos 300001) ≡ pos 108853588
unfolding day_from_year fdiv
late = refl

-- its year is far from the ends of 32 bits
pub limit_year : (d : IsoDate) → Fine d → (neg_ℤ (pos 300000) ≤ℤ d.year) × (d.year ≤ℤ pos 300000)
limit_year d f =
    let v = read_valid d.year d.month d.day f.valid in
    go d.year (days_before_month (leap_year d.year) (d.month - 1) + (d.day - 1)) (epoch_days d)
    (day_in_year d.year d.month d.day v.month_low v.month_high v.day_low) (in_year d.year d.month d.day v) f.low f.high
  where
    low : (y n : ℤ) (i : ℕ) → n ≡ day_from_year y +ℤ pos i → i < cond (leap_year y) 366 365 → neg_ℤ (pos 100000001) ≤ℤ n →
        (t : Bool) → lt_z y (neg_ℤ (pos 300000)) ≡ t → neg_ℤ (pos 300000) ≤ℤ y
    low y n i e h l false t = omega (arith, ints)
    low y n i e h l true t =
        let a : (y +ℤ pos 1) ≤ℤ neg_ℤ (pos 300000) = omega (arith, ints, read_add y (pos 1)) in
        let b : (day_from_year y +ℤ pos (cond (leap_year y) 366 365)) ≤ℤ day_from_year (neg_ℤ (pos 300000)) =
        rw (year_length y) at (year_mono (y +ℤ pos 1) (neg_ℤ (pos 300000)) a) in
        let z : ⊥ = omega (arith, ints, rw early at b, read_add (day_from_year y) (pos i), read_add (day_from_year y) (pos (cond (leap_year y) 366 365))) in
        absurd z

    high : (y n : ℤ) (i : ℕ) → n ≡ day_from_year y +ℤ pos i → n ≤ℤ pos 100000000 → (t : Bool) → lt_z (pos 300000) y ≡ t → y ≤ℤ pos 300000
    high y n i e l false t = omega (arith, ints)
    high y n i e l true t =
        let b : day_from_year (pos 300001) ≤ℤ day_from_year y = year_mono (pos 300001) y (omega (arith, ints)) in
        let z : ⊥ = omega (arith, ints, rw late at b, read_add (day_from_year y) (pos i)) in
        absurd z

    go : (y : ℤ) (i : ℕ) (n : ℤ) → n ≡ day_from_year y +ℤ pos i → i < cond (leap_year y) 366 365 → neg_ℤ (pos 100000001) ≤ℤ n → n ≤ℤ pos 100000000 →
        (neg_ℤ (pos 300000) ≤ℤ y) × (y ≤ℤ pos 300000)
    go y i n e h l m = (low y n i e h l (lt_z y (neg_ℤ (pos 300000))) refl, high y n i e m (lt_z (pos 300000) y) refl)

-- ---- the sum when the date and the start of the rest are fine

-- constraining leaves the year, so that the clamp of a fine start's year does nothing
no_clamp : (t : IsoDate) → Fine (constrain_iso_date t) → clamped_year t ≡ t
unfolding constrain_iso_date
no_clamp t f =
    let y = limit_year (constrain_iso_date t) f in
    ap (λ (z : ℤ). date z t.month t.day)
    (sym (clamp_same t.year (neg_ℤ (pos (2 ^ 31))) (pos (2 ^ 31 - 1)) (omega (arith, ints, y.0)) (omega (arith, ints, y.1))))

module _ (one : IsoDate) (r : DateDuration) (one_fine : Fine one)
    (start_Fine : Fine (constrain_iso_date (moved_by one r.years r.months))) where
  abbrev start : IsoDate
  start = constrain_iso_date (moved_by one r.years r.months)

  abbrev sum : ℤ
  sum = epoch_days start +ℤ (r.days +ℤ pos 7 *ℤ r.weeks)

  sum_checked : date_sum one r Constrain ≡ check (is_valid_duration r) 8 (day_to_date sum)
  unfolding date_sum sum_steps make_date regulate_date
  sum_checked =
      rw (fine_limits one one_fine, no_clamp (moved_by one r.years r.months) start_Fine, fine_within start start_Fine)

  pub sum_goes : is_valid_duration r ≡ true → date_sum one r Constrain ≡ day_to_date sum
  sum_goes v = sum_checked ∙ ap (λ (t : Bool). check t 8 (day_to_date sum)) v

  -- the day count of an answer
  pub sum_back : (two : IsoDate) → date_sum one r Constrain ≡ given two → sum ≡ epoch_days two
  unfolding day_to_date
  sum_back two e = go (is_valid_duration r) (balanced sum) (sym sum_checked ∙ e)
    where
      go : (t u : Bool) → check t 8 (check u 4 (given (epoch_days_to_iso_date sum))) ≡ given two → sum ≡ epoch_days two
      go true true h = sym (back_and_there sum) ∙ ap epoch_days (given_inj (epoch_days_to_iso_date sum) two h)
      go true false h = never two 4 h
      go false u h = never two 8 h

pub day_back : (two : IsoDate) → Fine two → day_to_date (epoch_days two) ≡ given two
unfolding day_to_date
day_back two f =
    rw (in_range (epoch_days two) f.low (omega (arith, ints, f.high)))
    (ap given (there_and_back two.year two.month two.day (read_valid two.year two.month two.day f.valid)))

-- ---- one law for each way through the code

module _ (d : IsoDate) (t : DateDuration) (overflow : Overflow) where
  abbrev moved : IsoDate
  moved = clamped_year (moved_by d t.years t.months)

  -- the date on the way, by the years and months as the code has them
  pub on_the_way : (x : Answer IsoDate) (y m : ℤ) → y ≡ t.years → m ≡ t.months → x ≡ regulate_date (clamped_year (moved_by d y m)) overflow →
      x ≡ regulate_date moved overflow
  on_the_way x y m e f g = rw (e, f) at g

  pub sum_date : (n : ℕ) → refused n ≡ date_limits d → refused n ≡ date_sum d t overflow
  unfolding date_sum
  sum_date n e = rw (← e)

  pub sum_duration : given tt ≡ date_limits d → is_valid_duration t ≡ false → refused 8 ≡ date_sum d t overflow
  unfolding date_sum
  sum_duration e f = rw (← e, f)

  pub sum_refused : (n : ℕ) → given tt ≡ date_limits d → is_valid_duration t ≡ true → refused n ≡ make_date moved overflow → refused n ≡ date_sum d t overflow
  unfolding date_sum sum_steps
  sum_refused n e f g = rw (← e, f, ← g)

  pub sum_is : (start : IsoDate) → given tt ≡ date_limits d → is_valid_duration t ≡ true → given start ≡ make_date moved overflow →
      day_to_date (epoch_days start +ℤ (t.days +ℤ pos 7 *ℤ t.weeks)) ≡ date_sum d t overflow
  unfolding date_sum sum_steps
  sum_is start e f g = rw (← e, f, ← g)

module _ (one two : IsoDate) (unit : TemporalUnit) where
  pub difference_first : (n : ℕ) → refused n ≡ date_limits one → refused n ≡ date_difference one two unit
  unfolding date_difference
  difference_first n e = rw (← e)

  pub difference_second : (n : ℕ) → given tt ≡ date_limits one → refused n ≡ date_limits two → refused n ≡ date_difference one two unit
  unfolding date_difference
  difference_second n e f = rw (← e, ← f)

  pub difference_unit : given tt ≡ date_limits one → given tt ≡ date_limits two → 3 < unit_rank unit → refused 5 ≡ date_difference one two unit
  unfolding date_difference
  difference_unit e f h = rw (← e, ← f, lt-leb (unit_rank unit) 3 (omega arith))

  pub difference_given : (r : DateDifference) (a b : IsoDate) → a ≡ one → b ≡ two → given tt ≡ date_limits one → given tt ≡ date_limits two →
      unit_rank unit ≤ 3 → r ≡ difference_of_dates a b unit → given r ≡ date_difference one two unit
  unfolding date_difference
  difference_given r a b i j e f h k = rw (← e, ← f, le-leb (unit_rank unit) 3 (omega arith), k, i, j)

pub ruleset sum_ways = (sum_date, sum_duration, sum_refused, sum_is, make_refused, make_out, make_within, bounded)

pub ruleset difference_ways = (difference_first, difference_second, difference_unit, difference_given)
