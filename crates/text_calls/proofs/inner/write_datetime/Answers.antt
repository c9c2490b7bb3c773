-- The text stands in the part that was lent, and its head before it.
use Rattle.parameters.proofs.Laws.{holds_at}
use Rattle.replies.proofs.Laws.{replied_as}
use Rattle.date_text.specs.Paper.{write_date_time}
use Rattle.text_calls.proofs.Parts.{text_replied}
use Rattle.text_calls.proofs.inner.write_datetime.Goals as goal

pub date_time-stamp-requires : goal.date_time-stamp-requires
date_time-stamp-requires c = holds_at 9 c.requires.numbers

pub room-requires : goal.room-requires
room-requires c = holds_at 1 c.requires.numbers

pub returns : goal.returns
returns c =
    let w = c.write_datetime-answer in
    replied_as (text_replied _ _ _ _ c.requires.room c.room.ensures.1 w.auto.out (write_date_time c.date_time-stamp.result) w.result w.ensures _ _ c.put_head.ensures)
    (rw (c.date_time-stamp.ensures, c.room.ensures.0))
