-- The text stands in the part that was lent, and its head before it.
use Rattle.parameters.proofs.Laws.{holds_at}
use Rattle.replies.proofs.Laws.{replied_as}
use Rattle.date_text.specs.Paper.{write_time}
use Rattle.text_calls.proofs.Parts.{text_replied}
use Rattle.text_calls.proofs.inner.write_time.Goals as goal

pub time-time-requires : goal.time-time-requires
time-time-requires c = holds_at 6 c.requires.numbers

pub room-requires : goal.room-requires
room-requires c = holds_at 1 c.requires.numbers

pub returns : goal.returns
returns c =
    let w = c.write_time-answer in
    replied_as (text_replied _ _ _ _ c.requires.room c.room.ensures.1 w.auto.out (write_time c.time-time.result) w.result w.ensures _ _ c.put_head.ensures)
    (rw (c.time-time.ensures, c.room.ensures.0))
