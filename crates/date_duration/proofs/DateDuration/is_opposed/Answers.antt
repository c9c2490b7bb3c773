-- Both tests go over the four parts as they are.
use Rattle.std.proofs.Common.{rules, tests, ◌≡◌, sym, ◌∙◌, w64, to_z, of_z}
use Rattle.std.proofs.lemmas.Iterator.{YieldsList-from_slice}
use Rattle.std.proofs.lemmas.Iterator.Search.{any_from_yields_List}
use lib.IntN.{pos}
use lib.Signed.{lt_z}
use Rattle.date_duration.proofs.Durations.{below_is, above_is}
use Rattle.date_duration.proofs.DateDuration.is_opposed.Goals as goal

pub returns-then-any : goal.returns-then-any
returns-then-any c =
    let d = c.args.self in
    let years : to_z w64 (of_z w64 d.years) ≡ d.years = search rules in
    let months : to_z w64 (of_z w64 d.months) ≡ d.months = search rules in
    let weeks : to_z w64 (of_z w64 d.weeks) ≡ d.weeks = search rules in
    let days : to_z w64 (of_z w64 d.days) ≡ d.days = search rules in
    let parts = rw (years, months, weeks, days) at c.iter.ensures.rest in
    let below = any_from_yields_List (λ z. lt_z z (pos 0)) _ _ _ c.any.ensures.ran (YieldsList-from_slice _ parts) (λ x b q k. search (rules, tests)) ∙ below_is d in
    let again = rw (years, months, weeks, days) at c.iter-then-any.ensures.rest in
    let above = any_from_yields_List (λ z. lt_z (pos 0) z) _ _ _ c.any-then-any.ensures.ran (YieldsList-from_slice _ again) (λ x b q k. search (rules, tests)) ∙ above_is d in
    rw (sym below ∙ c.if-any.true) above

pub returns-else-any : goal.returns-else-any
returns-else-any c =
    let d = c.args.self in
    let years : to_z w64 (of_z w64 d.years) ≡ d.years = search rules in
    let months : to_z w64 (of_z w64 d.months) ≡ d.months = search rules in
    let weeks : to_z w64 (of_z w64 d.weeks) ≡ d.weeks = search rules in
    let days : to_z w64 (of_z w64 d.days) ≡ d.days = search rules in
    let parts = rw (years, months, weeks, days) at c.iter.ensures.rest in
    let below = any_from_yields_List (λ z. lt_z z (pos 0)) _ _ _ c.any.ensures.ran (YieldsList-from_slice _ parts) (λ x b q k. search (rules, tests)) ∙ below_is d in
    rw (sym below ∙ c.if-any.false) c.if-any.false
