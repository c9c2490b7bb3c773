-- The number is stored in the first of the cells that hold none.
use Rattle.std.proofs.Common.{refl, ◌∙◌, arith}
use Rattle.std.proofs.Math.ListN.{length-set}
use Rattle.std.proofs.lemmas.Int.{to_z-of_z}
use mir.Syntax.{w128}
use Rattle.parameters.proofs.Laws.{stored_more, blank_more}
use Rattle.parameters.proofs.Numbers.push.Goals as goal

pub invariant_of-self : goal.invariant_of-self
invariant_of-self c =
    let n = c.args.self.now in
    record {
      count_fits = omega arith;
      sized = length-set n.cells n.count _ ∙ n.sized;
      others_blank = blank_more n.cells n.count _ c.requires n.others_blank;
    }

pub returns : goal.returns
returns c =
    let n = c.args.self.now in
    (rw (to_z-of_z w128 c.args.number c.ranges.number) (stored_more n.cells n.count c.args.number n.sized c.requires), refl)
