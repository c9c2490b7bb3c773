-- Forward where the second moment is the later, or the same: a day is borrowed where the order of the times is the other.
use Rattle.std.proofs.Common.{arith, ⊎_elim}
use Rattle.iso_date_time.proofs.Adjusted.{adjusted_ahead, adjusted_behind}
use Rattle.iso_date_time.proofs.inner.adjusted.Goals as goal

pub returns-then-a-b : goal.returns-then-a-b
returns-then-a-b c =
    let t = c.time_until-borrowed in
    adjusted_ahead _ _ _ _ _ _ (⊎_elim (λ e. omega (arith, e)) (λ e. omega (arith, e)) c.if-a-b.either)
    (λ l. ⊎_elim (λ e. omega (arith, e)) (λ e. omega (arith, e)) c.if-a-b.either) c.requires.0.0 t.ensures.0 t.ensures.1.0 t.ensures.1.1

pub returns-else-a-b : goal.returns-else-a-b
returns-else-a-b c =
    let t = c.time_until-borrowed-else-a-b in
    adjusted_behind _ _ _ _ _ _ (⊎_elim (λ e. omega (arith, e)) (λ e. omega (arith, e)) c.if-a-b.either)
    (λ l. ⊎_elim (λ e. omega (arith, e)) (λ e. omega (arith, e)) c.if-a-b.either) c.requires.0.1 t.ensures.0 t.ensures.1.0 t.ensures.1.1
