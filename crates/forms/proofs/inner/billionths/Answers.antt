-- The loop goes over the digits that the text begins with, ten at most.
use Rattle.std.proofs.Common.{◌∙◌, rules, tests, arith}
use Rattle.std.specs.Char.{is_ascii_digit}
use Rattle.std.proofs.lemmas.List.{length_push, take_rest}
use Rattle.std.proofs.lemmas.Iterator.{YieldsList, YieldsList-from_slice, YieldsList-from_take}
use Rattle.std.proofs.lemmas.Iterator.Search.{YieldsList-from_take_while}
use Rattle.std.proofs.lemmas.Iterator.Consumers.{YieldsList-at, YieldsList-turn, YieldsList-end}
use Rattle.forms.proofs.Fractions.{front, front_length, front_more, no_fraction, all_filled}
use Rattle.forms.proofs.inner.billionths.Given as given
use Rattle.forms.proofs.inner.billionths.Goals as goal
use Rattle.forms.proofs.inner.billionths.Goals.{After-into_iter-b-iterator}

road : (c : After-into_iter-b-iterator) →
    YieldsList given.iterator-loop-b.next_gives (λ y. y.now) c.into_iter-b-iterator.result (front c.args.text.now)
road c =
    YieldsList-at c.into_iter-b-iterator.ensures.into_iter_gives
    (YieldsList-from_take _
    (YieldsList-at c.take-b-items.ensures.source
    (YieldsList-from_take_while _ is_ascii_digit (YieldsList-from_slice c.args.text.now cc)
    c.take_while.ensures.closure c.take_while.ensures.done (λ x b q k. search (rules, tests)))) c.take-b-items.ensures.count)

pub loop-b-preserved : goal.loop-b-preserved
loop-b-preserved c =
    let l = c.loop-b in
    let (_, _, counted, so_far, small) = l.invariant in
    let start = (goal.at.loop-b-preserved c).After-into_iter-b-iterator in
    let next = YieldsList-turn (road start) l.yielded _ l.yielded_by _ _ c.in-Some.b c.in-Some.is c.next.ensures.steps in
    let more = front_more l.count l.value c.in-Some.b.now c.args.text.now (rw counted next) so_far small in
    (search rules, search rules, omega (arith, length_push l.yielded c.in-Some.b), more.0, more.1)

pub returns-then-count-eq0-clause-takes : goal.returns-then-count-eq0-clause-takes
returns-then-count-eq0-clause-takes c =
    let l = c.loop-b in
    let start = (goal.at.returns-then-count-eq0-clause-takes c).After-into_iter-b-iterator in
    let end = YieldsList-end (road start) l.yielded _ l.yielded_by _ _ c.in-None.is c.next.ensures.steps in
    grind (arith, no_fraction, front_length, end.1)

pub returns-clause-takes : goal.returns-clause-takes
returns-clause-takes c =
    let l = c.loop-b in
    let text = c.args.text.now in
    let (_, _, counted, so_far, small) = l.invariant in
    let start = (goal.at.returns-clause-takes c).After-into_iter-b-iterator in
    let all = all_filled l.count l.value text
    (counted ∙ (YieldsList-end (road start) l.yielded _ l.yielded_by _ _ c.in-None.is c.next.ensures.steps).1 ∙ front_length text)
    (omega arith) (omega arith) so_far small in
    grind (arith, all, take_rest text l.count)
