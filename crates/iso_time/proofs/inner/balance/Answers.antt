-- Each field with what is carried into it, in turn.
use Rattle.iso_time.proofs.Times.{balance_is}
use Rattle.iso_time.proofs.inner.balance.Goals as goal

pub returns : goal.returns
returns c =
    balance_is _ _ _ _ _ _ _ _ _ _ _ _ _ _ _ _ _ _ c.requires
    (record { carried = c.carry-micros.ensures.carried; left = c.carry-micros.ensures.left })
    (record { carried = c.carry-millis.ensures.carried; left = c.carry-millis.ensures.left })
    (record { carried = c.carry-seconds.ensures.carried; left = c.carry-seconds.ensures.left })
    (record { carried = c.carry-minutes.ensures.carried; left = c.carry-minutes.ensures.left })
    (record { carried = c.carry-hours.ensures.carried; left = c.carry-hours.ensures.left })
    (record { carried = c.carry-days.ensures.carried; left = c.carry-days.ensures.left })
