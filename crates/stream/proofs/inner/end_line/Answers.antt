-- A line that outgrew the line buffer is longer than any request.
use Rattle.std.proofs.Common.{sym}
use Rattle.writing.proofs.Writing.{after, wrote_as}
use Rattle.stream.proofs.Stream.{long_lines}
use Rattle.stream.proofs.inner.end_line.Goals as goal

pub returns-in-Outgrown-clause-wrote : goal.returns-in-Outgrown-clause-wrote
returns-in-Outgrown-clause-wrote c =
    λ p h. wrote_as (after c.put_byte-end.ensures c.put_byte.ensures) (sym (long_lines p (rw c.in-Outgrown.is at h.stands)))
