-- What the functions of `inner` do to a number at the edge, over plain variables: each proof there cites these.
use Prim.Native.Nat.{ℕ, ◌+◌, ◌≤◌, ◌<◌, ◌^◌}
use native.Mathlib.Numerals.{add-one}
use native.Mathlib.Omega.{arith}
use mathlib.Core.Path.{◌≡◌, refl, sym, ◌∙◌, ap}
use mathlib.Core.Bool.{true, false}
use lib.Dec.{T}
use lib.IntN.{ℤ, pos, negsuc, neg_ℤ, nat_abs, ◌+ℤ◌, ◌-ℤ◌}
use lib.Signed.{lt_z, ◌≤ℤ◌, ◌<ℤ◌, non_neg, yes_non_neg, pos-nat_abs}
use mir.Syntax.{w32, w64}
use mir.Val.{SFits, Fits}
use mir.Facts.{to_z-of_z}
use Rattle.whole.specs.Whole.{◌⊖◌, clamp_z}
use Rattle.whole.proofs.Laws.{up, ints, whole, read_add, read_diff, read_neg, range_of, size_of}

pub nat_of : (z : ℤ) → pos 0 ≤ℤ z → nat_abs z ≡ up z
nat_of (pos n) h = refl
nat_of (negsuc n) h = absurd h.le

-- a cast to a natural of a number that is not negative
pub as_nat : (z : ℤ) → pos 0 ≤ℤ z → SFits w64 z → T (non_neg z) × Fits w64 (nat_abs z)
as_nat z h f = (yes_non_neg h, record { fits = omega (arith, nat_of z h, f.sfits, range_of z) })

pub above_is : (z : ℤ) → pos 0 ≤ℤ z → SFits w64 z → (z ≡ pos (nat_abs z)) × (nat_abs z < 2 ^ 63)
above_is z h f = (sym (pos-nat_abs z (yes_non_neg h)), omega (arith, nat_of z h, f.sfits, range_of z))

-- x + k, for an x of which 0 ⊖ k is not above
module _ (x : ℤ) (k : ℕ) (low : (0 ⊖ k) ≤ℤ x) where
  pub raised_low : pos 0 ≤ℤ (x +ℤ pos k)
  raised_low = omega (arith, ints, read_add x (pos k), read_diff 0 k)

  pub raised_is : x ≡ nat_abs (x +ℤ pos k) ⊖ k
  raised_is =
      omega (arith, ints, read_add x (pos k), read_diff 0 k, read_diff (nat_abs (x +ℤ pos k)) k, nat_of (x +ℤ pos k) raised_low, range_of (x +ℤ pos k))

  pub raised_fits : x <ℤ ((2 ^ 63) ⊖ k) → SFits w64 (x +ℤ pos k)
  raised_fits h =
      omega (arith, ints, read_add x (pos k), read_diff 0 k, read_diff (2 ^ 63) k, range_of (x +ℤ pos k))

  pub raised_top : (n : ℕ) → x <ℤ (n ⊖ k) → nat_abs (x +ℤ pos k) < n
  raised_top n h =
      omega (arith, ints, read_add x (pos k), read_diff 0 k, read_diff n k, nat_of (x +ℤ pos k) raised_low, range_of (x +ℤ pos k))

-- a number of a bounded size has room, and stays near k
pub raise_room : (z : ℤ) (k : ℕ) → nat_abs z < k → k < 2 ^ 62 → (k < 2 ^ 63) × (((0 ⊖ k) ≤ℤ z) × (z <ℤ ((2 ^ 63) ⊖ k)))
raise_room z k h l = omega (arith, ints, size_of z, read_diff 0 k, read_diff (2 ^ 63) k)

pub raised_within : (z : ℤ) (r k n : ℕ) → z ≡ r ⊖ k → nat_abs z < n → n ≤ k → (k < r + n) × (r < k + n)
raised_within z r k n e h l = omega (arith, ints, size_of z, read_diff r k)

-- a number of 32 bits has room, and stays within 2^31 of k
pub raise_room32 : (y : ℤ) (k : ℕ) → SFits w32 y → 2 ^ 31 ≤ k → k < 2 ^ 62 → (k < 2 ^ 63) × (((0 ⊖ k) ≤ℤ y) × (y <ℤ ((2 ^ 63) ⊖ k)))
raise_room32 y k f h l = omega (arith, ints, f.sfits, range_of y, read_diff 0 k, read_diff (2 ^ 63) k)

pub raised32 : (y : ℤ) (r k : ℕ) → SFits w32 y → 2 ^ 31 ≤ k → y ≡ r ⊖ k → (r < 2 ^ 31 + k) × (k ≤ r + 2 ^ 31)
raised32 y r k f h e = omega (arith, ints, read_diff r k, f.sfits, range_of y)

-- what is lowered to within 2^31 of 0 has room in 32 bits
pub lowered32 : (z : ℤ) (u k : ℕ) → z ≡ u ⊖ k → u < 2 ^ 31 + k → k ≤ u + 2 ^ 31 → SFits w32 z
lowered32 z u k e h l = record { sfits = omega (arith, ints, read_diff u k, range_of z) }

-- for a function that raises numbers of 32 bits, or lowers naturals to them: what a local gives back is what went in
pub ruleset raises = (to_z-of_z, raise_room32, raised32)

pub ruleset lowers = (to_z-of_z, lowered32)

-- u - k
pub lowered_is : (u k : ℕ) → pos u -ℤ pos k ≡ u ⊖ k
lowered_is u k = simp whole (omega arith)

pub lowered_fits : (u k : ℕ) → u < 2 ^ 63 → k < 2 ^ 63 → SFits w64 (pos u -ℤ pos k)
lowered_fits u k h l = simp whole (omega arith)

-- -1 - x, of a negative x, and back
pub below_low : (x : ℤ) → x <ℤ pos 0 → pos 0 ≤ℤ (negsuc 0 -ℤ x)
below_low x h = omega (arith, ints, read_add (negsuc 0) (neg_ℤ x), read_neg x)

pub below_fits : (x : ℤ) → x <ℤ pos 0 → SFits w64 x → SFits w64 (negsuc 0 -ℤ x)
below_fits x h f = omega (arith, ints, read_add (negsuc 0) (neg_ℤ x), read_neg x, f.sfits, range_of x, range_of (negsuc 0 -ℤ x))

pub below_is : (x : ℤ) → x <ℤ pos 0 → x ≡ negsuc (nat_abs (negsuc 0 -ℤ x))
below_is x h =
    omega (arith, ints, read_add (negsuc 0) (neg_ℤ x), read_neg x, nat_of (negsuc 0 -ℤ x) (below_low x h), range_of (negsuc 0 -ℤ x))

pub below_top : (x : ℤ) → x <ℤ pos 0 → SFits w64 x → nat_abs (negsuc 0 -ℤ x) < 2 ^ 63
below_top x h f =
    omega (arith, nat_of (negsuc 0 -ℤ x) (below_low x h), (below_fits x h f).sfits, range_of (negsuc 0 -ℤ x))

pub minus_is : (n : ℕ) → negsuc 0 -ℤ pos n ≡ negsuc n
minus_is n = simp whole (omega arith)

pub minus_fits : (n : ℕ) → n < 2 ^ 63 → SFits w64 (negsuc 0 -ℤ pos n)
minus_fits n h = simp whole (omega arith)

-- the three ways of a clamp
pub clamp_low : (x low high : ℤ) → x <ℤ low → low ≡ clamp_z x low high
unfolding clamp_z
clamp_low x low high h = let t : lt_z x low ≡ true = omega (arith, ints) in rw t

pub clamp_high : (x low high : ℤ) → low ≤ℤ x → high <ℤ x → high ≡ clamp_z x low high
unfolding clamp_z
clamp_high x low high h k =
    let t : lt_z x low ≡ false = omega (arith, ints) in let s : lt_z high x ≡ true = omega (arith, ints) in rw (t, s)

pub clamp_same : (x low high : ℤ) → low ≤ℤ x → x ≤ℤ high → x ≡ clamp_z x low high
unfolding clamp_z
clamp_same x low high h k =
    let t : lt_z x low ≡ false = omega (arith, ints) in let s : lt_z high x ≡ false = omega (arith, ints) in rw (t, s)

-- a depth and its size
pub size_is : (x : ℤ) (n : ℕ) → x ≡ negsuc n → x ≡ neg_ℤ (pos (n + 1))
size_is x n e = e ∙ sym (ap (λ (k : ℕ). neg_ℤ (pos k)) (add-one n))
