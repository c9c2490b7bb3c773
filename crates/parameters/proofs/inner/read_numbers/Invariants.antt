-- While the letters are walked, the numbers in the cells and those that the line has from the present place on are those of the line.
use Rattle.std.proofs.Common.{◌≡◌, ◌≤◌, length}
use Rattle.parameters.specs.Meaning.{numbers_in}
use Rattle.parameters.proofs.Laws.{Filled}
use Rattle.parameters.proofs.inner.read_numbers.Given as goal

abbrev pub invariant-loop-letter : goal.invariant-loop-letter
invariant-loop-letter l = record {
  passed : l.from ≤ l.at;
  inside : l.at ≤ length l.line;
  counted : l.numbers.count ≡ l.letter-index;
  filled : Filled l.letters l.line l.from (numbers_in l.numbers) l.letter-index l.at;
}
