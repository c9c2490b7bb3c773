-- An empty line, one that is too long, an unknown name and numbers that do not fit are each answered at once; else the call answers.
use Rattle.std.proofs.Common.{sym, arith}
use Rattle.std.proofs.lemmas.Bool.Decides.{nat_tests}
use Rattle.std.proofs.Math.Seq.{length-take-le}
use Rattle.lines.proofs.Words.{word_inside}
use Rattle.writing.proofs.Writing.{nothing, wrote_as}
use Rattle.requests.proofs.Laws.{empty_reply, long_reply, text_reply}
use Rattle.requests.proofs.inner.reply.Goals as goal

pub returns-then-is_empty : goal.returns-then-is_empty
returns-then-is_empty c = (wrote_as (nothing _ _) (empty_reply _ (grind (arith, nat_tests))), omega arith)

pub returns-then-line-gt-LONGEST : goal.returns-then-line-gt-LONGEST
returns-then-line-gt-LONGEST c = (wrote_as c.put_byte.ensures (long_reply _ (omega arith)), omega (arith, c.put_byte.ensures.ends))

pub slice_bounds-entry_named-end : goal.slice_bounds-entry_named-end
slice_bounds-entry_named-end c = sym (length-take-le _ _ (omega (arith, word_inside c.args.line.now)))

pub returns-in_default : goal.returns-in_default
returns-in_default c =
    (wrote_as c.answer_text.ensures.0 (text_reply _ (grind (arith, nat_tests)) (omega arith) c.word_end-end.result (omega arith) c.in_default.ensures), c.answer_text.ensures.1)

pub answer-requires : goal.answer-requires
answer-requires c = (omega arith, grind (arith, nat_tests), omega arith, c.in-Some.ensures, c.requires)
