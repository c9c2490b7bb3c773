-- The most that can be moved without passing, in numbers: where the way is `gap` long and one count moves by `step`, it is as often as
-- the step goes into the gap, in the direction of the way, and no other count is the most.
use Prim.Native.Nat.{ℕ, zero, suc, ◌+◌, ◌-◌, ◌*◌, ◌/◌, ◌≤◌, ◌<◌}
use native.Mathlib.Nat.{div-add-mod, mod-lt, mul-le-mul_left}
use native.Mathlib.Omega.{arith}
use mathlib.Core.Path.{◌≡◌, refl, sym, ◌∙◌, ap}
use mathlib.Core.Bool.{Bool, true, false, not, ◌&&◌, ◌||◌}
use lib.IntN.{ℤ, pos, negsuc, neg_ℤ, nat_abs, ◌+ℤ◌, ◌*ℤ◌}
use lib.Signed.{lt_z, ◌≤ℤ◌, ◌<ℤ◌}
use mathlib.Core.Logic.{⊎_elim}
use Rattle.whole.proofs.Laws.{ints, split, quotient, read_add, read_neg, size_neg}
use Rattle.whole.proofs.Tests.{and_false, or_true, clash}
use Rattle.iso_date.specs.declared.IsoDate.{IsoDate}
use Rattle.date_math.specs.Proposal.{directed}
use Rattle.date_math.specs.Rules.{on_the_way, Most}
use Rattle.date_math.specs.Claims.{Ahead}
use Rattle.date_math.specs.Inner.{place_of}
use Rattle.date_math.proofs.Places.{Proper, later_place, directed_times}

-- t lies between a and b, in numbers
abbrev pub between : ℤ → ℤ → ℤ → Bool
between a b t = (not (lt_z t a) && not (lt_z b t)) || (not (lt_z a t) && not (lt_z t b))

pub way_is : (one two t : IsoDate) → Proper one → Proper two → Proper t → on_the_way one two t ≡ between (place_of one) (place_of two) (place_of t)
way_is one two t p q r = rw (later_place one t p r, later_place t two r q, later_place t one r p, later_place two t q r)

-- ---- on the way and off it

on : (a b t : ℤ) → a ≤ℤ t → t ≤ℤ b → between a b t ≡ true
on a b t h k =
    let e : lt_z t a ≡ false = omega (arith, ints) in
    let f : lt_z b t ≡ false = omega (arith, ints) in
    rw (e, f)

on_back : (a b t : ℤ) → b ≤ℤ t → t ≤ℤ a → between a b t ≡ true
on_back a b t h k =
    let e : lt_z a t ≡ false = omega (arith, ints) in
    let f : lt_z t b ≡ false = omega (arith, ints) in
    rw (e, f) (or_true (not (lt_z t a) && not (lt_z b t)))

-- below both ends, or above both
off_below : (a b t : ℤ) → t <ℤ a → t <ℤ b → between a b t ≡ false
off_below a b t h k =
    let e : lt_z t a ≡ true = omega (arith, ints) in
    let f : lt_z t b ≡ true = omega (arith, ints) in
    rw (e, f) (and_false (not (lt_z a t)))

off_above : (a b t : ℤ) → a <ℤ t → b <ℤ t → between a b t ≡ false
off_above a b t h k =
    let e : lt_z a t ≡ true = omega (arith, ints) in
    let f : lt_z b t ≡ true = omega (arith, ints) in
    rw (e, f, and_false (not (lt_z t a)))

-- ---- t stands x from a, and b stands gap from a in the direction

stands_on : (forward : Bool) (a b t : ℤ) (gap n : ℕ) → b ≡ a +ℤ directed forward gap → t ≡ a +ℤ directed forward n → n ≤ gap → between a b t ≡ true
stands_on true a b t gap n e f h = on a b t (omega (arith, ints, read_add a (pos n))) (omega (arith, ints, read_add a (pos n), read_add a (pos gap)))
stands_on false a b t gap n e f h =
    on_back a b t (omega (arith, ints, read_neg (pos gap), read_neg (pos n), read_add a (neg_ℤ (pos n)), read_add a (neg_ℤ (pos gap))))
    (omega (arith, ints, read_neg (pos n), read_add a (neg_ℤ (pos n))))

-- too far, either way
stands_off : (forward : Bool) (a b t x : ℤ) (gap : ℕ) → b ≡ a +ℤ directed forward gap → t ≡ a +ℤ x → gap < nat_abs x → between a b t ≡ false
stands_off true a b t (pos x) gap e f h = off_above a b t (omega (arith, ints, read_add a (pos x)))
    (omega (arith, ints, read_add a (pos x), read_add a (pos gap)))
stands_off true a b t (negsuc x) gap e f h = off_below a b t (omega (arith, ints, read_add a (negsuc x)))
    (omega (arith, ints, read_add a (negsuc x), read_add a (pos gap)))
stands_off false a b t (pos x) gap e f h =
    off_above a b t (omega (arith, ints, read_add a (pos x))) (omega (arith, ints, read_add a (pos x), read_neg (pos gap), read_add a (neg_ℤ (pos gap))))
stands_off false a b t (negsuc x) gap e f h =
    off_below a b t (omega (arith, ints, read_add a (negsuc x))) (omega (arith, ints, read_add a (negsuc x), read_neg (pos gap), read_add a (neg_ℤ (pos gap))))

-- against the direction
stands_against : (forward : Bool) (a b t x : ℤ) (gap : ℕ) → b ≡ a +ℤ directed forward gap → t ≡ a +ℤ x → (Ahead forward (pos 0) x → ⊥) → between a b t ≡ false
stands_against true a b t (pos x) gap e f h = absurd (h (omega (arith, ints)))
stands_against true a b t (negsuc x) gap e f h = off_below a b t (omega (arith, ints, read_add a (negsuc x)))
    (omega (arith, ints, read_add a (negsuc x), read_add a (pos gap)))
stands_against false a b t x gap e f h = go (lt_z (pos 0) x) refl
  where
    go : (s : Bool) → lt_z (pos 0) x ≡ s → between a b t ≡ false
    go true s = off_above a b t (omega (arith, ints, read_add a x)) (omega (arith, ints, read_add a x, read_neg (pos gap), read_add a (neg_ℤ (pos gap))))
    go false s = absurd (h (omega (arith, ints)))

-- ---- sizes

pub size_directed : (forward : Bool) (n : ℕ) → nat_abs (directed forward n) ≡ n
size_directed true n = refl
size_directed false n = size_neg n

size_times : (step : ℕ) (k : ℤ) → nat_abs (pos step *ℤ k) ≡ step * nat_abs k
size_times step (pos k) = refl
size_times step (negsuc k) = size_neg (step * suc k)

-- ---- the most

module _ (forward : Bool) (a b : ℤ) (gap step : ℕ) (positive : 0 < step) (far : b ≡ a +ℤ directed forward gap)
    (P : ℤ → Bool) (is : (k : ℤ) → P k ≡ between a b (a +ℤ pos step *ℤ k)) where
  near : (n : ℕ) → step * n ≤ gap → P (directed forward n) ≡ true
  near n h =
      is (directed forward n) ∙
      stands_on forward a b (a +ℤ pos step *ℤ directed forward n) gap (step * n) far (ap (λ (z : ℤ). a +ℤ z) (directed_times forward step n)) h

  too_far : (k : ℤ) → gap < step * nat_abs k → P k ≡ false
  too_far k h =
      is k ∙ stands_off forward a b (a +ℤ pos step *ℤ k) (pos step *ℤ k) gap far refl (rw (size_times step k) h)

  against : (k : ℤ) → (Ahead forward (pos 0) (pos step *ℤ k) → ⊥) → P k ≡ false
  against k h = is k ∙ stands_against forward a b (a +ℤ pos step *ℤ k) (pos step *ℤ k) gap far refl h

  pub most_of : Most P (directed forward (gap / step))
  most_of =
      let d = div-add-mod gap step in
      let r = mod-lt gap positive in
      record {
        stands = near (gap / step) (omega arith);
        larger_pass = λ k h.
            let l : gap / step + 1 ≤ nat_abs k = omega (arith, rw (size_directed forward (gap / step)) at h) in
            let m : step * (gap / step + 1) ≤ step * nat_abs k = mul-le-mul_left step l in
            too_far k (omega arith);
      }

  -- any count that is the most goes in the direction ..
  in_direction : (f : Bool) → f ≡ forward → (k : ℤ) → P k ≡ true → k ≡ directed f (nat_abs k)
  in_direction true e (pos k) h = refl
  in_direction true e (negsuc k) h =
      let m : step * 1 ≤ step * suc k = mul-le-mul_left step (omega arith) in
      clash (P (negsuc k)) h (against (negsuc k) (rw (← e) (λ l. omega (arith, ints, read_neg (pos (step * suc k))))))
  in_direction false e (pos zero) h = refl
  in_direction false e (pos (suc k)) h =
      let m : step * 1 ≤ step * suc k = mul-le-mul_left step (omega arith) in
      clash (P (pos (suc k))) h (against (pos (suc k)) (rw (← e) (λ l. omega (arith, ints))))
  in_direction false e (negsuc k) h = refl

  -- .. and is of that size
  pub most_is : (k : ℤ) → Most P k → k ≡ directed forward (gap / step)
  most_is k m =
      let n : ℕ = nat_abs k in
      let low : step * n ≤ gap = ⊎_elim (λ l. clash (P k) m.stands (too_far k l)) (λ l. l) (split gap (step * n)) in
      let next : n < nat_abs (directed forward (n + 1)) = rw (size_directed forward (n + 1)) (omega arith) in
      let high : gap < step * (n + 1) =
      ⊎_elim (λ l. l) (λ l. clash (P (directed forward (n + 1))) (near (n + 1) l) (m.larger_pass (directed forward (n + 1)) next))
      (split gap (step * (n + 1))) in
      let e : gap / step ≡ n = (quotient step gap n (gap - step * n) (omega arith) (omega arith)).0 in
      in_direction forward refl k m.stands ∙ ap (directed forward) (sym e)
