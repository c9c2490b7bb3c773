-- While a word is walked, what was passed of it and the word from there on have together its length.
use Rattle.std.proofs.Common.{◌≡◌, ◌+◌, length, drop}
use Rattle.lines.specs.Text.{word}
use Rattle.lines.proofs.word_end.Given as goal

abbrev pub invariant-loop-at : goal.invariant-loop-at
invariant-loop-at l = l.at + length (word (drop l.at l.line)) ≡ l.from + length (word (drop l.from l.line))
