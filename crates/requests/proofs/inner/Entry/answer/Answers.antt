-- The numbers of the line are read, and the call answers to them; a line that has others is no request.
use Rattle.std.proofs.Common.{◌≡◌, true, false, arith, rules}
use Rattle.lines.proofs.Words.{word_inside}
use Rattle.writing.proofs.Writing.{wrote_as}
use Rattle.requests.proofs.Laws.{few_letters, bad_reply, good_reply, ready}
use Rattle.requests.proofs.inner.Entry.answer.Goals as goal

pub read_numbers-requires : goal.read_numbers-requires
read_numbers-requires c = (omega (arith, word_inside c.args.line.now), few_letters _ _ c.requires.3, c.new-numbers.ensures.1)

pub returns-then-not-read_numbers : goal.returns-then-not-read_numbers
returns-then-not-read_numbers c =
    let k : c.read_numbers.result ≡ false = search rules in (
      wrote_as c.put_byte.ensures (bad_reply _ (λ e. omega arith) c.requires.2 _ c.requires.0 _ c.requires.3 _ _ _ c.read_numbers.ensures k),
      omega (arith, c.put_byte.ensures.ends),
    )

pub answer-requires : goal.answer-requires
answer-requires c =
    let k : c.read_numbers.result ≡ true = search rules in
    rw c.as_slice.ensures
    (ready _ (λ e. omega arith) c.requires.2 _ c.requires.0 _ c.requires.3 _ _ _ c.read_numbers.ensures k _ _ c.requires.4)

pub returns : goal.returns
returns c =
    let k : c.read_numbers.result ≡ true = search rules in (
      wrote_as c.answer.ensures.wrote
          (rw c.as_slice.ensures (good_reply _ (λ e. omega arith) c.requires.2 _ c.requires.0 _ c.requires.3 _ _ _ c.read_numbers.ensures k)),
      c.answer.ensures.short,
    )
