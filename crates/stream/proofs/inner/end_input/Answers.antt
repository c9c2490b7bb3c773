-- A pending line is not empty, and is answered as any other; where nothing is pending, nothing is written.
use Rattle.std.proofs.Common.{arith}
use Rattle.writing.proofs.Writing.{nothing, wrote_as}
use Rattle.stream.proofs.Stream.{last_whole, last_none}
use Rattle.stream.proofs.inner.end_input.Goals as goal
use Rattle.stream.proofs.inner.end_input.Goals.{in_default-via-in-Buffered+in_default, in_default-via-in_default}

pub returns-in-Buffered-eq0-clause-wrote : goal.returns-in-Buffered-eq0-clause-wrote
returns-in-Buffered-eq0-clause-wrote c =
    λ p h. wrote_as (nothing _ _) (last_none p c.args.line.now _ (omega arith) (rw c.in-Buffered-eq0.is at h))

pub returns-in_default-clause-wrote : goal.returns-in_default-clause-wrote
returns-in_default-clause-wrote c =
    λ p h. wrote_as (c.end_line.ensures.wrote p h)
    (last_whole p c.args.line.now c.args.s.pending h c.requires.0
    (λ e. elim c.in_default.branch [ in_default-via-in-Buffered+in_default w ↦ w.in_default.field-0-test.1 cc | in_default-via-in_default w ↦ cc ]))
