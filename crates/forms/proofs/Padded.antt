-- The digits of a number, n of them: put into their place from the last to the first, and read back.
use Prim.Native.Nat.{ℕ, zero, suc, ◌+◌, ◌-◌, ◌*◌, ◌/◌, ◌%◌, ◌^◌, ◌≤◌, ◌<◌}
use native.Mathlib.Omega.{arith}
use native.Mathlib.Nat.{pow-suc}
use mathlib.Core.Path.{◌≡◌, refl, sym, ap, ◌∙◌}
use mathlib.Core.Bool.{Bool, true, false}
use mathlib.Core.List.{List, [], ◌∷◌, ◌++◌, append_assoc}
use borrow.Author.Tests.{le-leb, leb-true}
use lib.Dec.{leb}
use lib.ListN.{length, set, length-append}
use Rattle.whole.proofs.Tests.{both}
use Rattle.lines.specs.Text.{digit_zero, is_digit}
use Rattle.writing.specs.Wrote.{Wrote}
use Rattle.writing.proofs.Writing.{placed, placed_none, placed_wrote, put_last}
use Rattle.forms.specs.Forms.{Parsed, took, nothing, digit, digits, padded}

pub padded_length : (n v : ℕ) → length (padded n v) ≡ n
unfolding padded
padded_length zero v = refl
padded_length (suc n) v = rw (length-append, padded_length n (v / 10)) (omega arith)

-- the last digit is stored, the others are left
pub put_digit : (l : List ℕ) (at v i : ℕ) → 0 < i → at + (i - 1) < length l →
    placed (set l (at + (i - 1)) (digit_zero + v % 10)) at (padded (i - 1) (v / 10)) ≡ placed l at (padded i v)
unfolding padded
put_digit l at v zero some inside = let z : ⊥ = omega arith in absurd z
put_digit l at v (suc i) some inside =
    let e : suc i - 1 ≡ i = omega arith in
    let f : at + (suc i - 1) ≡ at + length (padded (suc i - 1) (v / 10)) = rw (padded_length (suc i - 1) (v / 10)) in
    put_last l at (padded (suc i - 1) (v / 10)) (digit_zero + v % 10) (at + (suc i - 1)) f inside ∙
    ap (λ (k : ℕ). placed l at (padded k (v / 10) ++ ((digit_zero + v % 10) ∷ []))) e

-- no digit is left
pub all_put : (l l' : List ℕ) (at n v i left : ℕ) → i ≡ 0 → at + n ≤ length l → placed l' at (padded i left) ≡ placed l at (padded n v) →
    Wrote l at (padded n v) l' (at + n)
unfolding padded
all_put l l' at n v i left none room all =
    let long = padded_length n v in
    placed_wrote l l' at (padded n v) (at + n) (omega (arith, long)) (sym (placed_none l' at) ∙ rw none at all) (ap (λ (k : ℕ). at + k) (sym long))

-- ---- read back

pub digit_is : (d : ℕ) → d < 10 → is_digit (digit_zero + d) ≡ true
digit_is d h =
    let low : 48 ≤ digit_zero + d = omega arith in
    let high : digit_zero + d ≤ 57 = omega arith in
    rw (le-leb 48 (digit_zero + d) low, le-leb (digit_zero + d) 57 high)

pub digits_back : (n v : ℕ) (rest : List ℕ) → v < 10 ^ n → digits n (padded n v ++ rest) ≡ took v rest
unfolding digits padded digit
digits_back zero v rest h = let e : 0 ≡ v = omega arith in ap (λ (k : ℕ). took k rest) e
digits_back (suc n) v rest h =
    let small : v / 10 < 10 ^ n = omega (arith, pow-suc 10 n) in
    let e : 10 * (v / 10) + (digit_zero + v % 10 - digit_zero) ≡ v = omega arith in
    rw (
      append_assoc (padded n (v / 10)) ((digit_zero + v % 10) ∷ []) rest,
      digits_back n (v / 10) ((digit_zero + v % 10) ∷ rest) small,
      digit_is (v % 10) (omega arith),
      e,
    )

-- ---- what was read is all that could be written so

pub took_inj : {A : Type 0} (a b : A) (s t : List ℕ) → took a s ≡ took b t → (a ≡ b) × (s ≡ t)
took_inj a b s t e = (cc, cc)

pub never_took : {A B : Type 0} (a : A) (s : List ℕ) → ◌≡◌ {A = Parsed A} nothing (took a s) → B
never_took a s e = let z : ◌≡◌ {A = ℕ} 0 1 = cc in let f : ⊥ = omega arith in absurd f

digit_only : (rest : List ℕ) (d : ℕ) (after : List ℕ) → digit rest ≡ took d after → (rest ≡ (digit_zero + d) ∷ after) × (d < 10)
unfolding digit
digit_only [] d after e = never_took d after e
digit_only (b ∷ rest) d after e = by_test (is_digit b) refl
  where
    by_test : (q : Bool) → is_digit b ≡ q → (b ∷ rest ≡ (digit_zero + d) ∷ after) × (d < 10)
    by_test false n = never_took d after (rw n at e)
    by_test true y =
        let same = took_inj (b - digit_zero) d rest after (rw y at e) in
        let range = both (leb digit_zero b) (leb b 57) y in
        let low : digit_zero ≤ b = leb-true digit_zero b range.0 in
        let high : b ≤ 57 = leb-true b 57 range.1 in
        let f : b ≡ digit_zero + d = omega (arith, same.0) in
        (rw (f, same.1), omega (arith, same.0))

-- one digit more than n, of which it is known
digits_more : (n : ℕ) (text : List ℕ) (v : ℕ) (rest : List ℕ) → digits (suc n) text ≡ took v rest →
    ((w : ℕ) (more : List ℕ) → digits n text ≡ took w more → (text ≡ padded n w ++ more) × (w < 10 ^ n)) →
    (text ≡ padded (suc n) v ++ rest) × (v < 10 ^ suc n)
unfolding digits padded
digits_more n text v rest e before = by_front (digits n text) refl
  where
    by_front : (p : Parsed ℕ) → digits n text ≡ p → (text ≡ (padded n (v / 10) ++ ((digit_zero + v % 10) ∷ [])) ++ rest) × (v < 10 ^ suc n)
    by_front nothing f = never_took v rest (rw f at e)
    by_front (took w more) f = by_digit (digit more) refl
      where
        by_digit : (q : Parsed ℕ) → digit more ≡ q → (text ≡ (padded n (v / 10) ++ ((digit_zero + v % 10) ∷ [])) ++ rest) × (v < 10 ^ suc n)
        by_digit nothing g = never_took v rest (rw (f, g) at e)
        by_digit (took d after) g =
            let same = took_inj (10 * w + d) v after rest (rw (f, g) at e) in
            let front = before w more f in
            let last = digit_only more d after g in
            let high : v / 10 ≡ w = omega (arith, same.0, last.1) in
            let low : v % 10 ≡ d = omega (arith, same.0, last.1) in (
              rw (high, low, append_assoc (padded n w) ((digit_zero + d) ∷ []) rest, ← same.1, ← last.0) front.0,
              rw (pow-suc 10 n) (omega (arith, same.0, last.1, front.1)),
            )

pub digits_only : (n : ℕ) (text : List ℕ) (v : ℕ) (rest : List ℕ) → digits n text ≡ took v rest → (text ≡ padded n v ++ rest) × (v < 10 ^ n)
unfolding digits padded
digits_only zero text v rest e = let same = took_inj 0 v text rest e in (same.1, omega (arith, same.0))
digits_only (suc n) text v rest e = digits_more n text v rest e (λ w more f. digits_only n text w more f)
