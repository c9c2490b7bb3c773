-- A newline ends what was pending, which is answered; another byte joins it.
use Rattle.std.proofs.Common.{refl, arith}
use Rattle.stream.proofs.Stream.{took_newline, took_other}
use Rattle.stream.proofs.inner.take_byte.Goals as goal

pub returns-then-byte-eq10 : goal.returns-then-byte-eq10
returns-then-byte-eq10 c =
    let given = c.requires in
    (refl, took_newline given.0 given.1 given.2 c.if-byte-eq10.true (omega (arith, c.end_line-filled.ensures.inside)) c.end_line-filled.ensures.wrote)

pub returns : goal.returns
returns c =
    let given = c.requires in
    (refl, took_other given.0 given.1 given.2 c.if-byte-eq10.false c.join.ensures)
