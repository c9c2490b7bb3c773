-- What an answer tells of what went into it.
use Prim.Native.Nat.{ℕ}
use native.Mathlib.Omega.{arith}
use mathlib.Core.Path.{◌≡◌, refl, sym, ◌∙◌, ap}
use Rattle.std.specs.Prelude.{cond, eqb, Result, Ok, Err}
use Rattle.refusal.specs.Answer.{Answer, given, refused}
use Rattle.refusal.specs.Refusals.{refusal_number, answer_of}
use Rattle.refusal.specs.declared.Refusal.{Refusal}
use Rattle.refusal.specs.declared.Refusal.TheVariants as R

-- one answer carries one value
pub given_inj : {A : Type 0} (a b : A) → given a ≡ given b → a ≡ b
given_inj a b e = cc

-- a refusal is no value
pub never : {A B : Type 0} (a : A) (n : ℕ) → refused n ≡ given a → B
never a n e = let z : ◌≡◌ {A = ℕ} 0 1 = cc in let f : ⊥ = omega arith in absurd f

-- where the answer gives the result back, one answer has one result
pub one_result : {A R : Type 0} (of : R → Answer A) (back : Answer A → R) → ((r : R) → back (of r) ≡ r) → (a : Answer A) (r s : R) → of r ≡ a → of s ≡ a → r ≡ s
one_result of back is a r s e f = sym (is r) ∙ ap back (e ∙ sym f) ∙ is s

-- ---- a contract by `answer_of` allows one result: number and value tell whether it is Ok or Err, and which

abbrev to_refusal : ℕ → Refusal
to_refusal n =
    cond (eqb n 1) R.Field (cond (eqb n 2) R.DateLimits (cond (eqb n 3) R.DateTimeLimits (cond (eqb n 4) R.DayCount (cond (eqb n 5) R.Unit
    (cond (eqb n 6) R.Increment (cond (eqb n 7) R.Bound (cond (eqb n 8) R.Duration (cond (eqb n 9) R.Form R.Room))))))))

refusal_back : (e : Refusal) → to_refusal (refusal_number e) ≡ e
refusal_back R.Field = refl
refusal_back R.DateLimits = refl
refusal_back R.DateTimeLimits = refl
refusal_back R.DayCount = refl
refusal_back R.Unit = refl
refusal_back R.Increment = refl
refusal_back R.Bound = refl
refusal_back R.Duration = refl
refusal_back R.Form = refl
refusal_back R.Room = refl

abbrev to_result : {A : Type 0} → Answer A → Result A Refusal
to_result (given a) = Ok a
to_result (refused n) = Err (to_refusal n)

result_back : {A : Type 0} (r : Result A Refusal) → to_result (answer_of r) ≡ r
result_back (Ok a) = refl
result_back (Err e) = ap Err (refusal_back e)

pub one_answer : {A : Type 0} (a : Answer A) (r s : Result A Refusal) → answer_of r ≡ a → answer_of s ≡ a → r ≡ s
one_answer = one_result answer_of to_result result_back
