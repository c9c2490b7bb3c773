-- Year, month and day, one after the other. The year stands in 32 bits as it is.
use Rattle.std.proofs.Common.{◌≡◌, rules, to_z, of_z, w32}
use Rattle.writing.proofs.Writing.{after}
use Rattle.date_forms.specs.Texts.{date_text}
use Rattle.date_forms.proofs.inner.put_date.Goals as goal

pub returns : goal.returns
unfolding date_text
returns c =
    let same : to_z w32 (of_z w32 c.args.date.year) ≡ c.args.date.year = search rules in
    after (rw same at c.put_year-after_year.ensures) (after c.put_marked-after_month.ensures c.put_marked.ensures)
