-- The step is at most a day, so no sum leaves 64 bits; what comes out is the definition's.
use Rattle.std.proofs.Common.{arith, ◌∙◌}
use Rattle.iso_time.proofs.Checks.{allowed_is, row_scaled}
use Rattle.iso_time.proofs.Rounding.{next_some, next_most, small_step, scaled_round}
use Rattle.iso_time.proofs.inner.round.Goals as goal

pub overflow_mul-next : goal.overflow_mul-next
overflow_mul-next c =
    let u = row_scaled c.args.unit _ c.row_of-scale.ensures c.requires.1.0 in
    record { fits = omega (arith, next_most c.args.t _ _ u) }

pub nonzero_rem-quantity : goal.nonzero_rem-quantity
nonzero_rem-quantity c =
    let u = row_scaled c.args.unit _ c.row_of-scale.ensures c.requires.1.0 in
    omega (arith, next_some c.args.t _ _ u)

pub overflow_mul-increment : goal.overflow_mul-increment
overflow_mul-increment c =
    let u = row_scaled c.args.unit _ c.row_of-scale.ensures c.requires.1.0 in
    let step = small_step c.args.t _ _ u c.args.increment (allowed_is _ _ _ u.dividend_is ∙ c.requires.1.1) in
    record { fits = omega (arith, step.1) }

pub round_small-rounded-requires : goal.round_small-rounded-requires
round_small-rounded-requires c =
    let u = row_scaled c.args.unit _ c.row_of-scale.ensures c.requires.1.0 in
    let step = small_step c.args.t _ _ u c.args.increment (allowed_is _ _ _ u.dividend_is ∙ c.requires.1.1) in
    (step.0, omega (arith, step.1, next_some c.args.t _ _ u, next_most c.args.t _ _ u))

pub overflow_add-n : goal.overflow_add-n
overflow_add-n c =
    let u = row_scaled c.args.unit _ c.row_of-scale.ensures c.requires.1.0 in
    let step = small_step c.args.t _ _ u c.args.increment (allowed_is _ _ _ u.dividend_is ∙ c.requires.1.1) in
    let some = next_some c.args.t _ _ u in
    record { fits = omega (arith, step.1, some, next_most c.args.t _ _ u, c.round_small-rounded.ensures.1, c.nanoseconds-n.ensures.1) }

pub returns : goal.returns
returns c =
    let u = row_scaled c.args.unit _ c.row_of-scale.ensures c.requires.1.0 in
    scaled_round c.args.t _ _ u _ (allowed_is _ _ _ u.dividend_is ∙ c.requires.1.1) c.args.mode c.requires.0 c.carried.result _ _ _
    c.nanoseconds-n.ensures.0 c.get_unsigned_round_mode-rule.ensures c.round_small-rounded.ensures.0 c.carried.ensures
