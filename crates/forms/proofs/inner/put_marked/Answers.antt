-- A byte, and the digits after it.
use Rattle.writing.proofs.Writing.{after}
use Rattle.forms.proofs.inner.put_marked.Goals as goal

pub returns : goal.returns
returns c = after c.put_byte-next.ensures c.put_padded.ensures
