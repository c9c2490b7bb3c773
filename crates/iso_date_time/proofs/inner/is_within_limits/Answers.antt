-- Inside the first and the last day every moment lies within; on the first day of all every one but midnight.
use Rattle.std.proofs.Common.{rules, ◌≡◌, ◌∙◌, ap₂, w64, to_z, of_z}
use Rattle.iso_date.specs.Proposal.{moment_within_limits}
use Rattle.iso_date_time.proofs.Moments.{moment_decides}
use Rattle.iso_date_time.proofs.inner.is_within_limits.Goals as goal

pub returns : goal.returns
returns c =
    let n = c.nanoseconds-ns in
    let r = c.epoch_days-day in
    let day : to_z w64 (of_z w64 r.result) ≡ r.result = search rules in
    rw day (moment_decides r.result n.result n.ensures.1 ∙ ap₂ moment_within_limits r.ensures.0 n.ensures.0)
