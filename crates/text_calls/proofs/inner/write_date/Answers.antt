-- The text stands in the part that was lent, and its head before it.
use Rattle.parameters.proofs.Laws.{holds_at}
use Rattle.replies.proofs.Laws.{replied_as}
use Rattle.date_text.specs.Paper.{write_date}
use Rattle.text_calls.proofs.Parts.{text_replied}
use Rattle.text_calls.proofs.inner.write_date.Goals as goal

pub date-date-requires : goal.date-date-requires
date-date-requires c = holds_at 3 c.requires.numbers

pub room-requires : goal.room-requires
room-requires c = holds_at 1 c.requires.numbers

pub returns : goal.returns
returns c =
    let w = c.write_date-answer in
    replied_as (text_replied _ _ _ _ c.requires.room c.room.ensures.1 w.auto.out (write_date c.date-date.result) w.result w.ensures _ _ c.put_head.ensures)
    (rw (c.date-date.ensures, c.room.ensures.0))
