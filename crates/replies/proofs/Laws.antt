-- How a reply is put together.
use Prim.Native.Nat.{ℕ, ◌+◌, ◌≤◌}
use native.Mathlib.Omega.{arith}
use mathlib.Core.Path.{◌≡◌, sym}
use mathlib.Core.List.{List, [], ◌∷◌, ◌++◌}
use lib.IntN.{ℤ}
use Rattle.refusal.specs.Answer.{Answer, given}
use Rattle.lines.specs.Text.{digit_zero, space}
use Rattle.writing.specs.Text.{decimal, spaced}
use Rattle.writing.specs.Wrote.{Wrote}
use Rattle.writing.proofs.Values.{spaced_append}
use Rattle.writing.proofs.Writing.{after, nothing, wrote_as}
use Rattle.replies.specs.Replies.{Replied}

-- an answer: 0, and then the bytes of its values
pub answered : {a b c bytes : List ℕ} {at m n : ℕ} → Wrote a at (digit_zero ∷ []) b m → Wrote b m bytes c n → n ≤ m + 254 → Replied a at (given bytes) c n
answered v w h = record { wrote = after v w; short = omega (arith, v.ends) }

-- ---- values, one after the other

pub no_value : (a : List ℕ) (at : ℕ) → Wrote a at (spaced []) a at
unfolding spaced
no_value a at = nothing a at

pub one_value : (z : ℤ) {a b : List ℕ} {at m : ℕ} → Wrote a at (space ∷ decimal z) b m → Wrote a at (spaced (z ∷ [])) b m
unfolding spaced
one_value z v = after v (nothing _ _)

pub more_values : (z : ℤ) (zs : List ℤ) {a b c : List ℕ} {at m n : ℕ} → Wrote a at (space ∷ decimal z) b m → Wrote b m (spaced zs) c n →
    Wrote a at (spaced (z ∷ zs)) c n
unfolding spaced
more_values z zs v w = after v w

pub both_values : (ys zs : List ℤ) {a b c : List ℕ} {at m n : ℕ} → Wrote a at (spaced ys) b m → Wrote b m (spaced zs) c n →
    Wrote a at (spaced (ys ++ zs)) c n
both_values ys zs v w = wrote_as (after v w) (sym (spaced_append ys zs))

pub replied_as : {before after : List ℕ} {at end : ℕ} {x y : Answer (List ℕ)} → Replied before at x after end → x ≡ y → Replied before at y after end
replied_as h e = rw e at h
