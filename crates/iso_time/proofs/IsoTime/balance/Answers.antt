-- The bound of every field first; within it the balance is the definition's.
use Rattle.std.proofs.Common.{rules, tests, ◌≡◌, sym, ◌∙◌, ap}
use Rattle.std.proofs.lemmas.Iterator.{YieldsList-from_slice}
use Rattle.std.proofs.lemmas.Iterator.Search.{all_from_yields_List}
use mir.Facts.{to_z-of_z}
use Rattle.refusal.specs.Answer.{given}
use Rattle.iso_time.specs.Paper.{bounded, all_bounded}
use Rattle.iso_time.proofs.Checks.{fields_are, all_within, balance_refused, balance_given}
use Rattle.iso_time.proofs.IsoTime.balance.Goals as goal
use Rattle.iso_time.proofs.IsoTime.balance.Goals.{After-all}

tested : (c : After-all) →
    let a = c.args in
    c.all.result ≡ all_bounded a.hour a.minute a.second a.millisecond a.microsecond a.nanosecond
tested c =
    let f = c.ranges in
    let hours = rw (to_z-of_z f.hour, to_z-of_z f.minute, to_z-of_z f.second) at c.iter.ensures.rest in
    let fields = rw (to_z-of_z f.millisecond, to_z-of_z f.microsecond, to_z-of_z f.nanosecond) at hours in
    all_from_yields_List bounded _ _ _ c.all.ensures.ran (YieldsList-from_slice _ fields) (λ x b q k. search (rules, tests)) ∙
    fields_are _ _ _ _ _ _

pub returns-then-not-all : goal.returns-then-not-all
returns-then-not-all c = balance_refused _ _ _ _ _ _ (sym (tested (goal.at.returns-then-not-all c).After-all) ∙ c.if-not-all.true)

pub balance-requires : goal.balance-requires
balance-requires c =
    let f = c.ranges in
    rw (to_z-of_z f.hour, to_z-of_z f.minute, to_z-of_z f.second, to_z-of_z f.millisecond, to_z-of_z f.microsecond, to_z-of_z f.nanosecond)
    (all_within _ _ _ _ _ _ (sym (tested (goal.at.balance-requires c).After-all) ∙ c.if-not-all.false))

pub returns : goal.returns
returns c =
    let f = c.ranges in
    let hours = rw (to_z-of_z f.hour, to_z-of_z f.minute, to_z-of_z f.second) at c.balance.ensures in
    let fields = rw (to_z-of_z f.millisecond, to_z-of_z f.microsecond, to_z-of_z f.nanosecond) at hours in
    ap given fields ∙ balance_given _ _ _ _ _ _ (sym (tested (goal.at.returns c).After-all) ∙ c.if-not-all.false)
