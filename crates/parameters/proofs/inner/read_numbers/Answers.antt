-- `parameters::inner::read_numbers` meets its contract.
use Rattle.std.proofs.Common.{arith, rules}
use Rattle.std.proofs.lemmas.Int.{to_z-of_z}
use mir.Syntax.{w128}
use mir.Val.{SFits}
use Rattle.lines.proofs.Words.{end_inside}
use Rattle.parameters.specs.Meaning.{numbers_in}
use Rattle.parameters.proofs.Laws.{filled_none, missing, too_many, filled_all, no_number, one_more, none_in, filled_in, left_as_it_was}
use Rattle.parameters.proofs.inner.read_numbers.Goals as goal

pub loop-letter-init : goal.loop-letter-init
loop-letter-init c = record {
  passed = omega arith;
  inside = c.requires.0;
  counted = c.requires.2;
  filled = rw (none_in c.args.numbers.now c.requires.2) (filled_none c.args.letters.now c.args.line.now c.args.from);
}

pub returns-then-at-line : goal.returns-then-at-line
returns-then-at-line c =
    let l = c.loop-letter in
    rw c.no_numbers.ensures.0
    (left_as_it_was c.args.numbers.now _ _ c.requires.2 c.no_numbers.ensures.1
    (missing c.args.letters.now c.args.line.now c.args.from (numbers_in l.numbers) l.letter-index l.at c.loop-letter-test.true (omega arith) l.invariant.filled))

pub slice_bounds-number_of-end : goal.slice_bounds-number_of-end
slice_bounds-number_of-end c =
    let e = end_inside c.args.line.now _ c.word_end-at.result (omega arith) c.word_end-at.ensures in
    search rules

pub returns-in_default : goal.returns-in_default
returns-in_default c =
    let l = c.loop-letter in
    rw c.no_numbers-in_default.ensures.0
    (left_as_it_was c.args.numbers.now _ _ c.requires.2 c.no_numbers-in_default.ensures.1
    (no_number c.args.letters.now c.args.line.now c.args.from (numbers_in l.numbers) l.letter-index l.at c.word_end-at.result c.loop-letter-test.true
    (omega arith) c.word_end-at.ensures l.invariant.filled c.in_default.ensures))

pub loop-letter-preserved : goal.loop-letter-preserved
loop-letter-preserved c =
    let l = c.loop-letter in
    let fits : SFits w128 c.in-Some.number = search rules in
    record {
      passed = omega arith;
      inside = end_inside c.args.line.now _ c.word_end-at.result (omega arith) c.word_end-at.ensures;
      counted = omega (arith, c.push.ensures.1);
      filled =
          rw (c.push.ensures.0, to_z-of_z w128 c.in-Some.number fits)
          (one_more c.args.letters.now c.args.line.now c.args.from (numbers_in l.numbers) l.letter-index l.at c.word_end-at.result c.loop-letter-test.true
          (omega arith) c.word_end-at.ensures l.invariant.filled c.in-Some.number c.in-Some.ensures);
    }

pub returns-then-at-line-2 : goal.returns-then-at-line-2
returns-then-at-line-2 c =
    let l = c.loop-letter in
    rw c.no_numbers-then-at-line-2.ensures.0
    (left_as_it_was c.args.numbers.now _ _ c.requires.2 c.no_numbers-then-at-line-2.ensures.1
    (too_many c.args.letters.now c.args.line.now c.args.from (numbers_in l.numbers) l.letter-index l.at c.loop-letter-test.false (omega arith) l.invariant.filled))

pub returns : goal.returns
returns c =
    let l = c.loop-letter in
    filled_in (filled_all c.args.letters.now c.args.line.now c.args.from (numbers_in l.numbers) l.letter-index l.at c.loop-letter-test.false (omega arith) l.invariant.filled)
