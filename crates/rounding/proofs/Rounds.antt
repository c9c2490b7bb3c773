-- The rounder on sizes gives the proposal's numbers.
use Prim.Native.Nat.{ℕ, zero, suc, ◌+◌, ◌-◌, ◌*◌, ◌/◌, ◌%◌, ◌^◌, ◌≤◌, ◌<◌}
use native.Mathlib.Nat.{div-mul-le_self, div-add-mod', mod-lt}
use native.Mathlib.Omega.{arith}
use mathlib.Core.Path.{◌≡◌, refl, sym, ◌∙◌, ap}
use mathlib.Core.Bool.{Bool, true, false, cond, not}
use mathlib.Core.Logic.{⊎_elim}
use mathlib.Core.List.{List, [], ◌∷◌}
use borrow.Author.Tests.{eq-eqb, ne_eqb, lt-ltb, le-ltb, le-leb, lt-leb, eqb-true, eqb-false}
use lib.Dec.{leb, ltb, eqb}
use mir.Syntax.{w64}
use mir.Val.{SFits, bool_byte}
use lib.ListN.{get_or}
use lib.IntN.{ℤ, pos, negsuc, neg_ℤ, nat_abs, neg_ℤ-neg_ℤ, ◌+ℤ◌, ◌*ℤ◌, +ℤ_idr}
use lib.Signed.{lt_z, le_z, ◌≤ℤ◌, ◌<ℤ◌}
use Rattle.refusal.specs.Answer.{given, refused}
use Rattle.whole.specs.Whole.{◌⊖◌, fdiv, fmod}
use Rattle.whole.proofs.Laws.{up, split, whole, ints, fdiv_unique, read_neg, range_of}
use Rattle.whole.proofs.Tests.{clash, both}
use Rattle.rounding.specs.Proposal.{get_unsigned_rounding_mode, apply_rule, apply_unsigned_rounding_mode, round_quotient}
use Rattle.rounding.specs.Proposal.{round_number_to_increment, round_number_to_increment_as_if_positive}
use Rattle.rounding.specs.Paper.{in_signed64, rounded, round_number, round_number_as_if_positive}
use Rattle.rounding.specs.Inner.{mode_row, up_by, takes_up, rounded_size, mirrored, by_size}
use Rattle.rounding.specs.declared.RoundingMode.{RoundingMode}
use Rattle.rounding.specs.declared.RoundingMode.TheVariants as M
use Rattle.rounding.specs.declared.UnsignedRoundingMode.{UnsignedRoundingMode}
use Rattle.rounding.specs.declared.UnsignedRoundingMode.TheVariants as U

-- ---- the table

abbrev pub table : List (List UnsignedRoundingMode)
table =
    (U.Infinity ∷ U.Zero ∷ []) ∷ (U.Zero ∷ U.Infinity ∷ []) ∷ (U.Infinity ∷ U.Infinity ∷ []) ∷ (U.Zero ∷ U.Zero ∷ []) ∷
    (U.HalfInfinity ∷ U.HalfZero ∷ []) ∷ (U.HalfZero ∷ U.HalfInfinity ∷ []) ∷ (U.HalfInfinity ∷ U.HalfInfinity ∷ []) ∷
    (U.HalfZero ∷ U.HalfZero ∷ []) ∷ (U.HalfEven ∷ U.HalfEven ∷ []) ∷ []

-- the table's rule, once for its eighteen cells
pub cell : (m : RoundingMode) (n : Bool) → get_or (get_or table (mode_row m) []) (bool_byte n) U.Infinity ≡ get_unsigned_rounding_mode m n
unfolding get_unsigned_rounding_mode
cell M.Ceil true = refl
cell M.Ceil false = refl
cell M.Floor true = refl
cell M.Floor false = refl
cell M.Expand true = refl
cell M.Expand false = refl
cell M.Trunc true = refl
cell M.Trunc false = refl
cell M.HalfCeil true = refl
cell M.HalfCeil false = refl
cell M.HalfFloor true = refl
cell M.HalfFloor false = refl
cell M.HalfExpand true = refl
cell M.HalfExpand false = refl
cell M.HalfTrunc true = refl
cell M.HalfTrunc false = refl
cell M.HalfEven true = refl
cell M.HalfEven false = refl

-- ---- whether the upper multiple is taken

module _ (rule : UnsignedRoundingMode) (odd : Bool) (d1 d2 : ℕ) where
  pub takes_none : d1 ≡ 0 → takes_up rule odd d1 d2 ≡ false
  unfolding takes_up
  takes_none e = rw (eq-eqb d1 0 e)

  pub takes_by : (d1 ≡ 0 → ⊥) → takes_up rule odd d1 d2 ≡ up_by rule odd d1 d2
  unfolding takes_up
  takes_by e = rw (ne_eqb d1 0 e)

-- the proposal's choice is r1, or the one above where that is taken
module _ (r1 : ℤ) (d1 d2 : ℕ) where
  abbrev odd : Bool
  odd = not (eqb (fmod r1 2) 0)

  abbrev chosen : Bool → ℤ
  chosen t = r1 +ℤ pos (cond t 1 0)

  -- by which of the two is nearer, and by the parity of r1 where that matters
  nearer_lower : d1 < d2 → (rule : UnsignedRoundingMode) (even : Bool) → eqb (fmod r1 2) 0 ≡ even → apply_rule rule r1 d1 d2 ≡ chosen (up_by rule odd d1 d2)
  nearer_lower h U.Infinity even s = refl
  nearer_lower h U.Zero even s = sym (+ℤ_idr r1)
  nearer_lower h U.HalfZero even s = simp (lt-ltb d1 d2 h, le-ltb d2 d1 (omega arith)) (sym (+ℤ_idr r1))
  nearer_lower h U.HalfInfinity even s = simp (lt-ltb d1 d2 h, lt-leb d2 d1 h) (sym (+ℤ_idr r1))
  nearer_lower h U.HalfEven true s = simp (s, lt-ltb d1 d2 h, le-ltb d2 d1 (omega arith)) (sym (+ℤ_idr r1))
  nearer_lower h U.HalfEven false s = simp (s, lt-ltb d1 d2 h, lt-leb d2 d1 h) (sym (+ℤ_idr r1))

  nearer_upper : d2 < d1 → (rule : UnsignedRoundingMode) (even : Bool) → eqb (fmod r1 2) 0 ≡ even → apply_rule rule r1 d1 d2 ≡ chosen (up_by rule odd d1 d2)
  nearer_upper h U.Infinity even s = refl
  nearer_upper h U.Zero even s = sym (+ℤ_idr r1)
  nearer_upper h U.HalfZero even s = simp (le-ltb d1 d2 (omega arith), lt-ltb d2 d1 h)
  nearer_upper h U.HalfInfinity even s = simp (le-ltb d1 d2 (omega arith), lt-ltb d2 d1 h, le-leb d2 d1 (omega arith))
  nearer_upper h U.HalfEven true s = simp (s, le-ltb d1 d2 (omega arith), lt-ltb d2 d1 h)
  nearer_upper h U.HalfEven false s = simp (s, le-ltb d1 d2 (omega arith), lt-ltb d2 d1 h, le-leb d2 d1 (omega arith))

  at_middle : d1 ≡ d2 → (rule : UnsignedRoundingMode) (even : Bool) → eqb (fmod r1 2) 0 ≡ even → apply_rule rule r1 d1 d2 ≡ chosen (up_by rule odd d1 d2)
  at_middle h U.Infinity even s = refl
  at_middle h U.Zero even s = sym (+ℤ_idr r1)
  at_middle h U.HalfZero even s = simp (le-ltb d1 d2 (omega arith), le-ltb d2 d1 (omega arith)) (sym (+ℤ_idr r1))
  at_middle h U.HalfInfinity even s = simp (le-ltb d1 d2 (omega arith), le-ltb d2 d1 (omega arith), le-leb d2 d1 (omega arith))
  at_middle h U.HalfEven true s = simp (s, le-ltb d1 d2 (omega arith), le-ltb d2 d1 (omega arith)) (sym (+ℤ_idr r1))
  at_middle h U.HalfEven false s = simp (s, le-ltb d1 d2 (omega arith), le-ltb d2 d1 (omega arith), le-leb d2 d1 (omega arith))

  by_rule : (rule : UnsignedRoundingMode) → apply_rule rule r1 d1 d2 ≡ chosen (up_by rule odd d1 d2)
  by_rule rule =
      ⊎_elim (λ h. nearer_lower h rule (eqb (fmod r1 2) 0) refl)
      (λ h. ⊎_elim (λ k. nearer_upper k rule (eqb (fmod r1 2) 0) refl) (λ k. let e : d1 ≡ d2 = omega arith in
      at_middle e rule (eqb (fmod r1 2) 0) refl) (split d2 d1))
      (split d1 d2)

  pub applied : (rule : UnsignedRoundingMode) → apply_unsigned_rounding_mode rule r1 d1 d2 ≡ chosen (takes_up rule odd d1 d2)
  unfolding apply_unsigned_rounding_mode takes_up
  applied rule = go (eqb d1 0) refl
    where
      go : (t : Bool) → eqb d1 0 ≡ t → apply_unsigned_rounding_mode rule r1 d1 d2 ≡ chosen (takes_up rule odd d1 d2)
      go true e = rw e (sym (+ℤ_idr r1))
      go false e = rw e (by_rule rule)

-- ---- a size: its lower multiple and what is left

module _ (m step : ℕ) (some : 0 < step) where
  pub lower_le : m / step * step ≤ m
  lower_le = div-mul-le_self m step

  pub left_lt : m - m / step * step < step
  left_lt = omega (arith, div-add-mod' m step, mod-lt m some)

  left_is : m - m / step * step ≡ m % step
  left_is = omega (arith, div-add-mod' m step, mod-lt m some)

odd_two : (q : ℕ) → not (eqb (q % 2) 0) ≡ eqb (q % 2) 1
odd_two q =
    ⊎_elim
    (λ h. let e : q % 2 ≡ 0 = omega arith in rw e)
    (λ h. let e : q % 2 ≡ 1 = omega arith in rw e)
    (split (q % 2) 1)

-- a multiple as a whole number, on either side of zero
up_times : (q step : ℕ) (t : Bool) → (q + cond t 1 0) * step ≡ q * step + cond t step 0
up_times q step true = omega arith
up_times q step false = omega arith

neg_times : (n step : ℕ) → neg_ℤ (pos n) *ℤ pos step ≡ neg_ℤ (pos (n * step))
neg_times n step = simp whole (omega arith)

module _ (m step : ℕ) (rule : UnsignedRoundingMode) (p : 0 < step) where
  -- the quotient that comes out is the floor, or one more
  size_quotient : (q : ℕ) × ((round_quotient (pos m) step rule ≡ pos q) × (q * step ≡ rounded_size m step rule))
  unfolding round_quotient rounded_size fdiv fmod
  size_quotient =
      let t : Bool = takes_up rule (eqb (m / step % 2) 1) (m - m / step * step) (step - (m - m / step * step)) in (
        m / step + cond t 1 0,
        (
          rw (applied (pos (m / step)) (m % step) (step - m % step) rule, odd_two (m / step), ← left_is m step p) refl,
          up_times (m / step) step t,
        ),
      )

  -- what comes out is a multiple of the step
  pub rounded_multiple : (q : ℕ) × (q * step ≡ rounded_size m step rule)
  rounded_multiple = (size_quotient.0, size_quotient.1.1)

  -- and nearer to the size than a step
  pub rounded_near : (rounded_size m step rule < m + step) × (m < rounded_size m step rule + step)
  unfolding rounded_size
  rounded_near = go (takes_up rule (eqb (m / step % 2) 1) (m - m / step * step) (step - (m - m / step * step))) refl
    where
      go : (t : Bool) → takes_up rule (eqb (m / step % 2) 1) (m - m / step * step) (step - (m - m / step * step)) ≡ t →
          (rounded_size m step rule < m + step) × (m < rounded_size m step rule + step)
      go false e = rw e (omega (arith, lower_le m step p, left_lt m step p), omega (arith, lower_le m step p, left_lt m step p))
      go true e =
          let some : m / step * step < m =
          ⊎_elim (λ h. h)
          (λ h. clash _ e (takes_none rule (eqb (m / step % 2) 1) (m - m / step * step) (step - (m - m / step * step)) (omega (arith, h))))
          (split (m / step * step) m) in
          rw e (omega arith, omega (arith, lower_le m step p, left_lt m step p))

  pub positive_round : round_quotient (pos m) step rule *ℤ pos step ≡ pos (rounded_size m step rule)
  positive_round = rw size_quotient.1.0 (ap pos size_quotient.1.1)

  pub negative_round : neg_ℤ (round_quotient (pos m) step rule) *ℤ pos step ≡ neg_ℤ (pos (rounded_size m step rule))
  negative_round = rw size_quotient.1.0 (neg_times size_quotient.0 step ∙ ap (λ (n : ℕ). neg_ℤ (pos n)) size_quotient.1.1)

-- below zero as if positive: with m = q step + r the floor is -q where nothing is left, else -(q + 1) with step - r up to the number
even_neg : (q : ℕ) → not (eqb (fmod (negsuc q) 2) 0) ≡ eqb (q % 2) 0
unfolding fmod
even_neg q =
    ⊎_elim
    (λ h. let e : q % 2 ≡ 0 = omega arith in rw e)
    (λ h. let e : q % 2 ≡ 1 = omega arith in rw e)
    (split (q % 2) 1)

-- the floor and what is left of a negative number, by the quotient and the rest of its size
below_exact : (q step m : ℕ) → m ≡ q * step → neg_ℤ (pos m) ≡ pos step *ℤ neg_ℤ (pos q) +ℤ pos 0
below_exact q step m e = simp whole (omega (arith, e))

below_rest : (q step r m : ℕ) → m ≡ q * step + r → r < step → neg_ℤ (pos m) ≡ pos step *ℤ negsuc q +ℤ pos (step - r)
below_rest q step r m e h = simp whole (omega (arith, e))

-- from the floor -(q + 1), or k above it, to the size n
below_sum : (q k : ℕ) → negsuc q +ℤ pos k ≡ k ⊖ suc q
unfolding ◌⊖◌
below_sum q k = refl

below_size : (q k step n : ℕ) → n + k * step ≡ suc q * step → (k ⊖ suc q) *ℤ pos step ≡ neg_ℤ (pos n)
below_size q k step n e = simp whole (omega (arith, e))

below_times : (q step : ℕ) (t : Bool) → (negsuc q +ℤ pos (cond t 1 0)) *ℤ pos step ≡ neg_ℤ (pos (q * step + cond (not t) step 0))
below_times q step true = ap (λ (z : ℤ). z *ℤ pos step) (below_sum q 1) ∙ below_size q 1 step (q * step + 0) (omega arith)
below_times q step false = ap (λ (z : ℤ). z *ℤ pos step) (below_sum q 0) ∙ below_size q 0 step (q * step + step) (omega arith)

-- seen from the other side of zero the choice, the parity and the distances change places
not_even : (q : ℕ) → eqb (q % 2) 1 ≡ not (eqb (q % 2) 0)
not_even q = sym (odd_two q)

not_le : (a b : ℕ) → not (leb a b) ≡ ltb b a
not_le a b = ⊎_elim (λ h. simp (lt-leb a b h, lt-ltb b a h)) (λ h. simp (le-leb a b h, le-ltb b a h)) (split b a)

not_lt : (a b : ℕ) → not (ltb a b) ≡ leb b a
not_lt a b = ⊎_elim (λ h. simp (lt-ltb a b h, lt-leb b a h)) (λ h. simp (le-ltb a b h, le-leb b a h)) (split a b)

turned : (rule : UnsignedRoundingMode) (q d1 d2 : ℕ) → not (up_by rule (eqb (q % 2) 0) d1 d2) ≡ up_by (mirrored rule) (eqb (q % 2) 1) d2 d1
turned U.Infinity q d1 d2 = refl
turned U.Zero q d1 d2 = refl
turned U.HalfInfinity q d1 d2 = not_le d2 d1
turned U.HalfZero q d1 d2 = not_lt d2 d1
turned U.HalfEven q d1 d2 = rw (not_even q) (go (eqb (q % 2) 0))
  where
    go : (even : Bool) → not (cond even (leb d2 d1) (ltb d2 d1)) ≡ cond (not even) (leb d1 d2) (ltb d1 d2)
    go true = not_le d2 d1
    go false = not_lt d2 d1

module _ (m step : ℕ) (rule : UnsignedRoundingMode) (p : 0 < step) where
  exact_below : m - m / step * step ≡ 0 → round_quotient (neg_ℤ (pos m)) step rule *ℤ pos step ≡ neg_ℤ (pos m)
  unfolding round_quotient
  exact_below e =
      let h : m ≡ m / step * step = omega (arith, div-mul-le_self m step) in
      let z : ℤ = neg_ℤ (pos (m / step)) in
      let f = fdiv_unique (neg_ℤ (pos m)) z step 0 p (below_exact (m / step) step m h) in
      rw (f.0, f.1)
      (rw (applied z 0 (step - 0) rule, takes_none rule (not (eqb (fmod z 2) 0)) 0 (step - 0) refl, +ℤ_idr z)
      (neg_times (m / step) step ∙ ap (λ (n : ℕ). neg_ℤ (pos n)) (sym h)))

  rest_below : (m - m / step * step ≡ 0 → ⊥) → round_quotient (neg_ℤ (pos m)) step rule *ℤ pos step ≡
      neg_ℤ (pos (m / step * step + cond (not (takes_up rule (eqb (m / step % 2) 0) (step - (m - m / step * step)) (m - m / step * step))) step 0))
  unfolding round_quotient
  rest_below e =
      let q : ℕ = m / step in
      let r : ℕ = m - m / step * step in
      let h : m ≡ q * step + r = omega (arith, div-mul-le_self m step) in
      let l : r < step = left_lt m step p in
      let d : step - (step - r) ≡ r = omega arith in
      let f = fdiv_unique (neg_ℤ (pos m)) (negsuc q) step (step - r) (omega arith) (below_rest q step r m h l) in
      rw (f.0, f.1) (rw (applied (negsuc q) (step - r) (step - (step - r)) rule, even_neg q, d)
      (below_times q step (takes_up rule (eqb (q % 2) 0) (step - r) r)))

  pub below_round : round_quotient (neg_ℤ (pos m)) step rule *ℤ pos step ≡ neg_ℤ (pos (rounded_size m step (mirrored rule)))
  unfolding rounded_size
  below_round = go (eqb (m - m / step * step) 0) refl
    where
      go : (t : Bool) → eqb (m - m / step * step) 0 ≡ t →
          round_quotient (neg_ℤ (pos m)) step rule *ℤ pos step ≡ neg_ℤ (pos (rounded_size m step (mirrored rule)))
      go true e =
          let h : m - m / step * step ≡ 0 = eqb-true _ 0 e in
          let s : m / step * step + 0 ≡ m = omega (arith, div-mul-le_self m step) in
          exact_below h ∙ rw (takes_none (mirrored rule) (eqb (m / step % 2) 1) _ (step - (m - m / step * step)) h, s) refl
      go false e =
          let h = eqb-false _ 0 e in
          let g : step - (m - m / step * step) ≡ 0 → ⊥ = λ z. omega (arith, left_lt m step p) in
          rest_below h ∙
          rw (
            takes_by rule (eqb (m / step % 2) 0) _ (m - m / step * step) g,
            takes_by (mirrored rule) (eqb (m / step % 2) 1) _ (step - (m - m / step * step)) h,
            turned rule (m / step) (step - (m - m / step * step)) (m - m / step * step),
          ) refl

-- ---- the numbers, by their sizes

pub size_up : (m step : ℕ) (rule : UnsignedRoundingMode) (up : Bool) →
    up ≡ takes_up rule (eqb (m / step % 2) 1) (m - m / step * step) (step - (m - m / step * step)) →
    rounded_size m step rule ≡ m / step * step + cond up step 0
unfolding rounded_size
size_up m step rule up e = rw e

-- the number by its sign and size
module _ (m step : ℕ) (mode : RoundingMode) (p : 0 < step) where
  pub number_above : round_number_to_increment (pos m) step mode ≡ pos (rounded_size m step (get_unsigned_rounding_mode mode false))
  unfolding round_number_to_increment
  number_above = rw (le-ltb m 0 (omega arith)) (positive_round m step (get_unsigned_rounding_mode mode false) p)

  number_below : 1 ≤ m → round_number_to_increment (neg_ℤ (pos m)) step mode ≡ neg_ℤ (pos (rounded_size m step (get_unsigned_rounding_mode mode true)))
  unfolding round_number_to_increment
  number_below h =
      let t : lt_z (neg_ℤ (pos m)) (pos 0) ≡ true = omega (arith, ints, read_neg (pos m)) in
      rw (t, neg_ℤ-neg_ℤ (pos m)) (negative_round m step (get_unsigned_rounding_mode mode true) p)

by_size_pos : (m step : ℕ) (rule : UnsignedRoundingMode) → by_size (pos m) step rule ≡ pos (rounded_size m step rule)
unfolding by_size
by_size_pos m step rule = rw (le-ltb m 0 (omega arith))

by_size_neg : (n step : ℕ) (rule : UnsignedRoundingMode) → by_size (negsuc n) step rule ≡ neg_ℤ (pos (rounded_size (suc n) step rule))
unfolding by_size
by_size_neg n step rule = refl

-- by the size, where the number is known by its sign
pub by_size_above : (x : ℤ) (step : ℕ) (rule : UnsignedRoundingMode) → pos 0 ≤ℤ x → by_size x step rule ≡ pos (rounded_size (nat_abs x) step rule)
by_size_above (pos m) step rule h = by_size_pos m step rule
by_size_above (negsuc n) step rule h = absurd h.le

pub by_size_below : (x : ℤ) (m step : ℕ) (rule : UnsignedRoundingMode) → x ≡ neg_ℤ (pos m) → 1 ≤ m → by_size x step rule ≡ neg_ℤ (pos (rounded_size m step rule))
by_size_below x zero step rule e h = absurd (omega arith)
by_size_below x (suc n) step rule e h = ap (λ (z : ℤ). by_size z step rule) e ∙ by_size_neg n step rule

-- two results that are one where there is a step get one answer
same_rounded : (step : ℕ) (y z : ℤ) → (0 < step → y ≡ z) → rounded step y ≡ rounded step z
same_rounded zero y z h = refl
same_rounded (suc n) y z h = ap (rounded (suc n)) (h (omega arith))

pub round_is : (x : ℤ) (step : ℕ) (mode : RoundingMode) →
    rounded step (by_size x step (get_unsigned_rounding_mode mode (lt_z x (pos 0)))) ≡ round_number x step mode
unfolding round_number
round_is x step mode = same_rounded step _ _ (go x)
  where
    go : (x : ℤ) → 0 < step → by_size x step (get_unsigned_rounding_mode mode (lt_z x (pos 0))) ≡ round_number_to_increment x step mode
    go (pos m) p =
        let t : lt_z (pos m) (pos 0) ≡ false = omega (arith, ints) in
        rw t (by_size_pos m step _ ∙ sym (number_above m step mode p))
    go (negsuc n) p = by_size_neg n step _ ∙ sym (number_below (suc n) step mode p (omega arith))

module _ (x : ℤ) (step : ℕ) (mode : RoundingMode) where
  pub round_above_as_if : pos 0 ≤ℤ x → rounded step (by_size x step (get_unsigned_rounding_mode mode false)) ≡ round_number_as_if_positive x step mode
  unfolding round_number_as_if_positive round_number_to_increment_as_if_positive
  round_above_as_if h = same_rounded step _ _ (go x h)
    where
      go : (x : ℤ) → pos 0 ≤ℤ x → 0 < step → by_size x step (get_unsigned_rounding_mode mode false) ≡
          round_quotient x step (get_unsigned_rounding_mode mode false) *ℤ pos step
      go (pos m) h p = by_size_pos m step _ ∙ sym (positive_round m step _ p)
      go (negsuc n) h p = absurd h.le

  pub round_below_as_if : x <ℤ pos 0 → rounded step (by_size x step (mirrored (get_unsigned_rounding_mode mode false))) ≡ round_number_as_if_positive x step mode
  unfolding round_number_as_if_positive round_number_to_increment_as_if_positive
  round_below_as_if h = same_rounded step _ _ (go x h)
    where
      go : (x : ℤ) → x <ℤ pos 0 → 0 < step → by_size x step (mirrored (get_unsigned_rounding_mode mode false)) ≡
          round_quotient x step (get_unsigned_rounding_mode mode false) *ℤ pos step
      go (pos m) h p = absurd (omega (arith, ints))
      go (negsuc n) h p = by_size_neg n step _ ∙ sym (below_round (suc n) step _ p)

-- ---- the answers

-- what 64 bits with a sign hold
signed64 : (z : ℤ) → SFits w64 z → in_signed64 z ≡ true
unfolding in_signed64
signed64 z f =
    let a : le_z (neg_ℤ (pos (2 ^ 63))) z ≡ true = omega (arith, ints, f.sfits, range_of z) in
    let b : le_z z (pos (2 ^ 63 - 1)) ≡ true = omega (arith, ints, f.sfits, range_of z) in
    rw (a, b)

not_signed64 : (z : ℤ) → (SFits w64 z → ⊥) → in_signed64 z ≡ false
unfolding in_signed64
not_signed64 z h = go (in_signed64 z) refl
  where
    go : (t : Bool) → in_signed64 z ≡ t → in_signed64 z ≡ false
    go false e = e
    go true e =
        let b = both (le_z (neg_ℤ (pos (2 ^ 63))) z) (le_z z (pos (2 ^ 63 - 1))) e in
        absurd (h (record { sfits = omega (arith, ints, b.0, b.1, range_of z) }))

-- a size up to the most that an answer of its sign holds, and one that is past it
module _ (n most : ℕ) where
  pub fits_above : n ≤ most → most ≤ 2 ^ 63 - 1 → SFits w64 (pos n)
  fits_above h k = record { sfits = omega arith }

  pub fits_below : n ≤ most → most ≤ 2 ^ 63 → SFits w64 (neg_ℤ (pos n))
  fits_below h k = record { sfits = omega (arith, range_of (neg_ℤ (pos n)), read_neg (pos n)) }

  pub past_above : (n ≤ most → ⊥) → 2 ^ 63 - 1 ≤ most → SFits w64 (pos n) → ⊥
  past_above h k f = omega (arith, h, f.sfits)

  pub past_below : (n ≤ most → ⊥) → 2 ^ 63 ≤ most → SFits w64 (neg_ℤ (pos n)) → ⊥
  past_below h k f = omega (arith, h, f.sfits, range_of (neg_ℤ (pos n)), read_neg (pos n))

module _ (step : ℕ) (z : ℤ) (some : step ≡ 0 → ⊥) where
  step_some : 0 < step
  step_some = omega (arith, some)

  pub rounded_given : SFits w64 z → given z ≡ rounded step z
  rounded_given f = rw (lt-ltb 0 step step_some, signed64 z f)

  pub rounded_past : (SFits w64 z → ⊥) → refused 7 ≡ rounded step z
  rounded_past h = rw (lt-ltb 0 step step_some, not_signed64 z h)
