-- A 0 and the values of the answer.
use Rattle.std.proofs.Common.{arith}
use Rattle.replies.proofs.Laws.{answered}
use Rattle.replies.proofs.inner.reply.Goals as goal

pub returns-in-Ok : goal.returns-in-Ok
returns-in-Ok g c =
    let few = g.met.T.Values.few c.in-Ok.answer in
    rw c.in-Ok.is (answered c.put_byte-next.ensures c.put.ensures.0 (omega arith))
