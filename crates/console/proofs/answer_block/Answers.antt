use Rattle.std.proofs.Common.{ap, ◌∙◌, refl, arith}
use Rattle.std.proofs.Math.Seq.{slice}
use Rattle.stream.specs.Stream.{Kept, kept_after}
use Rattle.stream.proofs.Stream.{moves, kept_none, kept_more}
use Rattle.console.proofs.answer_block.Goals as goal

pub loop-state-init : goal.loop-state-init
loop-state-init c = record { at_inside = omega arith; pending_inside = c.requires.1; written = refl; keeps = kept_none _ }

pub loop-state-smaller : goal.loop-state-smaller
loop-state-smaller c =
    let t = c.take_lines-state.ensures in
    let on = moves t.took t.stops c.loop-state-test.true (omega (arith, c.requires.2)) in
    omega (arith, on, t.took.inside.at_inside)

pub loop-state-preserved : goal.loop-state-preserved
loop-state-preserved c =
    let t = c.take_lines-state.ensures.took in
    let i = c.loop-state.invariant in
    let keeps = t.keeps ∙ ap (λ (k : Kept). kept_after k (slice c.loop-state.state.at c.take_lines-state.result.at c.args.block.now)) i.keeps ∙
    kept_more _ _ _ _ t.onward i.at_inside in
    record { at_inside = t.inside.at_inside; pending_inside = t.inside.pending_inside; written = refl; keeps = keeps }
