-- Raised by a multiple of the divisor, quotient and remainder are the floor's.
use Rattle.std.proofs.Common.{sym, ◌∙◌}
use mir.Facts.{to_z-of_z}
use Rattle.iso_time.proofs.Times.{Carry, raises, carry_is}
use Rattle.iso_time.proofs.inner.carry.Goals as goal
use Rattle.iso_time.proofs.inner.carry.Goals.{After-lower-carried}

told : (c : After-lower-carried) → Carry c.args.field c.args.over c.lower-carried.result c.raise-up.result c.args.d
told c =
    let e = sym (to_z-of_z c.ranges.field) ∙ c.field_up.ensures.0 in
    carry_is _ _ _ c.field_up.result _ _ c.requires e c.raise-up.ensures.0 c.lower-carried.ensures

pub raise-up-requires : goal.raise-up-requires
raise-up-requires c =
    let e = sym (to_z-of_z c.ranges.field) ∙ c.field_up.ensures.0 in
    raises c.args.field c.args.over c.field_up.result c.args.d c.requires (e, c.field_up.ensures.1)

pub returns-clause-carried : goal.returns-clause-carried
returns-clause-carried c = ((told c).carried, (told c).low)

pub returns-clause-left : goal.returns-clause-left
returns-clause-left c = ((told c).left, (told c).few)
