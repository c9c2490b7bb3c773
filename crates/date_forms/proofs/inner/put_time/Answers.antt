-- Hours, minutes, seconds and the fraction, one after the other.
use Rattle.writing.proofs.Writing.{after, wrote_as}
use Rattle.forms.proofs.Fractions.{trims_written}
use Rattle.date_forms.specs.Texts.{time_text}
use Rattle.date_forms.proofs.inner.put_time.Goals as goal

pub returns : goal.returns
unfolding time_text
returns c =
    after c.put_padded-after_hour.ensures (after c.put_marked-after_minute.ensures (after c.put_marked-after_second.ensures
    (wrote_as c.put_fraction.ensures (trims_written _ _ c.requires.0))))
