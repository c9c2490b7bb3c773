-- The count that a trial of candidates keeps, where passing is a matter of distance: as often as the step goes into it. One more has
-- passed, so that those tried are the ones from the first to it.
use Prim.Native.Nat.{ℕ, zero, suc, ◌+◌, ◌-◌, ◌*◌, ◌/◌, ◌≤◌, ◌<◌}
use native.Mathlib.Nat.{div-add-mod, mod-lt, mul-le-mul_left}
use native.Mathlib.Omega.{arith}
use mathlib.Core.Path.{◌≡◌, refl, sym, ◌∙◌}
use mathlib.Core.Bool.{Bool, true, false, cond}
use borrow.Author.Tests.{ltb-true, ltb-false}
use lib.Dec.{ltb}
use mathlib.Core.Logic.{⊎_elim}
use Rattle.whole.proofs.Laws.{split, quotient}
use Rattle.date_math.specs.Proposal.{kept}
use Rattle.date_math.specs.Tries.{tries}

module _ (passed : ℕ → Bool) (step gap : ℕ) (is : (k : ℕ) → passed k ≡ ltb gap (step * k)) where
  kept_from : (left k : ℕ) → step * k ≤ gap → gap < step * (k + left) → kept passed left k ≡ gap / step
  unfolding kept
  kept_from zero k low high = let z : ⊥ = omega arith in absurd z
  kept_from (suc left) k low high = go (ltb gap (step * suc k)) refl (kept_from left (suc k))
    where
      go : (t : Bool) → ltb gap (step * suc k) ≡ t →
          (step * suc k ≤ gap → gap < step * (suc k + left) → kept passed left (suc k) ≡ gap / step) →
          cond (passed (suc k)) k (kept passed left (suc k)) ≡ gap / step
      go true e rest =
          let h = ltb-true gap (step * suc k) e in
          rw (is (suc k) ∙ e) (sym (quotient step gap k (gap - step * k) (omega arith) (omega arith)).0)
      go false e rest =
          let s : suc k + left ≡ k + suc left = omega arith in
          rw (is (suc k) ∙ e) (rest (ltb-false gap (step * suc k) e) (rw s high))

  pub kept_is : (most : ℕ) → gap < step * most → kept passed most 0 ≡ gap / step
  kept_is most high = kept_from most 0 (omega arith) (omega arith)

  module _ (positive : 0 < step) where
    -- what has passed is beyond the quotient
    beyond : (k : ℕ) → gap < step * k → gap / step < k
    beyond k h =
        let d = div-add-mod gap step in
        ⊎_elim (λ l. l) (λ l. let m : step * k ≤ step * (gap / step) = mul-le-mul_left step l in let z : ⊥ = omega arith in absurd z) (split (gap / step) k)

    within : (k : ℕ) → step * k ≤ gap → k ≤ gap / step
    within k h =
        let d = div-add-mod gap step in
        let r = mod-lt gap positive in
        ⊎_elim (λ l. let m : step * (gap / step + 1) ≤ step * k = mul-le-mul_left step (omega arith) in let z : ⊥ = omega arith in absurd z) (λ l. l)
        (split (gap / step) k)

    pub tries_are : (left k : ℕ) → k ≤ gap / step + 1 → gap / step + 2 ≤ k + left → tries passed left k ≡ gap / step + 2 - k
    unfolding tries
    tries_are zero k low high = let z : ⊥ = omega arith in absurd z
    tries_are (suc left) k low high = go (ltb gap (step * k)) refl (tries_are left (suc k))
      where
        go : (t : Bool) → ltb gap (step * k) ≡ t →
            (suc k ≤ gap / step + 1 → gap / step + 2 ≤ suc k + left → tries passed left (suc k) ≡ gap / step + 2 - suc k) →
            suc (cond (passed k) 0 (tries passed left (suc k))) ≡ gap / step + 2 - k
        go true e rest = rw (is k ∙ e) (omega (arith, beyond k (ltb-true gap (step * k) e)))
        go false e rest =
            let l : k ≤ gap / step = within k (ltb-false gap (step * k) e) in
            rw (is k ∙ e, rest (omega arith) (omega arith)) (omega arith)
