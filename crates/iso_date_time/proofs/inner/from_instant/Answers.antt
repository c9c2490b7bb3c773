-- Carry and time are the quotient and the remainder of the raised sum by a day, and no other carry with a valid time has its nanoseconds.
use Rattle.std.proofs.Common.{sym, ◌∙◌}
use mir.Facts.{to_z-of_z}
use Rattle.iso_date_time.proofs.Instants.{read_instant, offset_room, day_room, ns_natural, sum_bounds, instant_is}
use Rattle.iso_date_time.proofs.inner.from_instant.Goals as goal

pub raise-requires : goal.raise-requires
raise-requires c = rw (to_z-of_z c.ranges.offset) (offset_room _ c.requires.1)

pub raise-requires-2 : goal.raise-requires-2
raise-requires-2 c = rw (to_z-of_z c.ranges.day) (day_room _ _ (read_instant _ _ c.requires.0))

pub overflow_sub-d : goal.overflow_sub-d
overflow_sub-d c =
    let f = c.ranges in
    let day = sym (to_z-of_z f.day) ∙ c.raise-2.ensures.0 in
    let ns = ns_natural _ _ c.requires.0 _ (rw (to_z-of_z f.nanosecond) at c.unsigned_abs.ensures.value) in
    let offset = sym (to_z-of_z f.offset) ∙ c.raise.ensures.0 in
    (sum_bounds _ _ _ _ _ _ c.requires.0 c.requires.1 day ns offset).0

pub civil-requires : goal.civil-requires
civil-requires c =
    let f = c.ranges in
    let day = sym (to_z-of_z f.day) ∙ c.raise-2.ensures.0 in
    let ns = ns_natural _ _ c.requires.0 _ (rw (to_z-of_z f.nanosecond) at c.unsigned_abs.ensures.value) in
    let offset = sym (to_z-of_z f.offset) ∙ c.raise.ensures.0 in
    (sum_bounds _ _ _ _ _ _ c.requires.0 c.requires.1 day ns offset).1

pub returns : goal.returns
returns c =
    let f = c.ranges in
    let day = sym (to_z-of_z f.day) ∙ c.raise-2.ensures.0 in
    let ns = ns_natural _ _ c.requires.0 _ (rw (to_z-of_z f.nanosecond) at c.unsigned_abs.ensures.value) in
    let offset = sym (to_z-of_z f.offset) ∙ c.raise.ensures.0 in
    instant_is _ _ _ _ _ _ _ _ c.requires.0 c.requires.1 day ns offset c.civil.ensures c.at.ensures c.at.result.valid
