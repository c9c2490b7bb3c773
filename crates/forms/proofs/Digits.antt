-- Digits off the front of a text, one more at a time, and how large the number is that they say.
use Prim.Native.Nat.{ℕ, zero, suc, ◌+◌, ◌-◌, ◌*◌, ◌^◌, ◌≤◌, ◌<◌}
use native.Mathlib.Omega.{arith}
use native.Mathlib.Numerals.{add-one}
use native.Mathlib.Nat.{pow-suc, pow-le-pow_right, add-zero}
use mathlib.Core.Path.{◌≡◌}
use mathlib.Core.List.{List}
use Rattle.forms.specs.Forms.{took, nothing, digit, digits}

-- ---- digits

-- where some are missing, more are
pub fewer : (m k : ℕ) (text : List ℕ) → digits k text ≡ nothing → (n : ℕ) → n ≡ k + m → digits n text ≡ nothing
unfolding digits
fewer zero k text e n f = rw (f, add-zero k) e
fewer (suc m) k text e zero f = let z : ⊥ = omega arith in absurd z
fewer (suc m) k text e (suc n) f = rw (fewer m k text e n (omega arith))

-- after i digits
module _ (text rest : List ℕ) (i v : ℕ) (so_far : digits i text ≡ took v rest) where
  pub no_digit : (n : ℕ) → i < n → digit rest ≡ nothing → digits n text ≡ nothing
  unfolding digits
  no_digit n h none =
      let e : digits (suc i) text ≡ nothing = rw (so_far, none) in
      fewer (n - suc i) (suc i) text e n (omega arith)

  pub next_digit : (d : ℕ) (after : List ℕ) → digit rest ≡ took d after → digits (i + 1) text ≡ took (10 * v + d) after
  unfolding digits
  next_digit d after more = rw (add-one i, so_far, more)

-- ---- how large

pub grows : (i v d : ℕ) → v < 10 ^ i → d < 10 → 10 * v + d < 10 ^ (i + 1)
grows i v d h l = rw (add-one i, pow-suc 10 i) (omega arith)

pub fits : (i v : ℕ) → v < 10 ^ i → i ≤ 18 → v < 10 ^ 18
fits i v h l = let p : 10 ^ i ≤ 10 ^ 18 = pow-le-pow_right {n = 10} (omega arith) {i = i} {j = 18} l in omega arith

pub some : (n : ℕ) → 0 < 10 ^ n
some zero = omega arith
some (suc n) = rw (pow-suc 10 n) (omega (arith, some n))
