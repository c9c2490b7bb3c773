-- A test of the three larger parts by one bound, and of the days by theirs.
use Rattle.std.proofs.Common.{rules, tests, ◌≡◌, sym, ◌∙◌, w64, to_z, of_z}
use Rattle.std.proofs.lemmas.Iterator.{YieldsList-from_slice}
use Rattle.std.proofs.lemmas.Iterator.Search.{all_from_yields_List}
use lib.Dec.{leb}
use lib.IntN.{nat_abs}
use Rattle.date_duration.proofs.Durations.{most_part, smalls_are}
use Rattle.date_duration.proofs.DateDuration.all_small.Goals as goal

pub returns-then-all : goal.returns-then-all
returns-then-all c =
    let d = c.args.self in
    let years : to_z w64 (of_z w64 d.years) ≡ d.years = search rules in
    let months : to_z w64 (of_z w64 d.months) ≡ d.months = search rules in
    let weeks : to_z w64 (of_z w64 d.weeks) ≡ d.weeks = search rules in
    let days : to_z w64 (of_z w64 d.days) ≡ d.days = search rules in
    let larger = rw (years, months, weeks) at c.iter.ensures.rest in
    let tested = all_from_yields_List (λ z. leb (nat_abs z) most_part) _ _ _ c.all.ensures.ran (YieldsList-from_slice _ larger) (λ x b q k. search (rules, tests)) in
    let all = smalls_are d in
    rw (c.unsigned_abs.ensures.value, days) (rw (sym tested ∙ c.if-all.true) at all)

pub returns-else-all : goal.returns-else-all
returns-else-all c =
    let d = c.args.self in
    let years : to_z w64 (of_z w64 d.years) ≡ d.years = search rules in
    let months : to_z w64 (of_z w64 d.months) ≡ d.months = search rules in
    let weeks : to_z w64 (of_z w64 d.weeks) ≡ d.weeks = search rules in
    let larger = rw (years, months, weeks) at c.iter.ensures.rest in
    let tested = all_from_yields_List (λ z. leb (nat_abs z) most_part) _ _ _ c.all.ensures.ran (YieldsList-from_slice _ larger) (λ x b q k. search (rules, tests)) in
    let all = smalls_are d in
    rw c.if-all.false (rw (sym tested ∙ c.if-all.false) at all)
