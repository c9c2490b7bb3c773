-- Marked digits and fractions read back, and the shortest text: what a production took is at least as long as what is written for it,
-- and where it is no longer it is that text.
use Prim.Native.Nat.{ℕ, zero, suc, ◌+◌, ◌-◌, ◌*◌, ◌/◌, ◌%◌, ◌^◌, ◌≤◌, ◌<◌}
use native.Mathlib.Omega.{arith}
use native.Mathlib.Nat.{pow-suc, mul-one}
use mathlib.Core.Path.{◌≡◌, refl, sym, ap, ◌∙◌}
use mathlib.Core.Bool.{Bool, true, false, cond, ◌&&◌}
use mathlib.Core.Logic.{⊎_elim}
use mathlib.Core.List.{List, [], ◌∷◌, ◌++◌, append_assoc, append-nil}
use borrow.Author.Tests.{leb-true, eq-eqb, eqb-true}
use lib.Dec.{leb, eqb}
use lib.ListN.{length, replicate, length-append, length-replicate}
use Rattle.whole.proofs.Tests.{both}
use Rattle.whole.proofs.Laws.{split}
use Rattle.lines.specs.Text.{digit_zero, is_digit}
use Rattle.forms.specs.Forms.{Parsed, took, nothing, then_read, or_else, marked, digits, padded, point, run, filled, fraction, keep, trimmed}
use Rattle.forms.specs.Forms.{pointed, fraction_text}
use Rattle.forms.proofs.Padded.{padded_length, digits_back, digits_only, took_inj, never_took}
use Rattle.forms.proofs.Fractions.{run_padded, filled_is, trim_more, trim_stops, trim_over, pointed_some}

-- ---- what was taken

-- one production after the other: each of them took something
pub through : {A B C : Type 0} (p : Parsed A) (next : A → List ℕ → Parsed B) {b : B} {rest : List ℕ} → then_read p next ≡ took b rest →
    ((a : A) (after : List ℕ) → p ≡ took a after → next a after ≡ took b rest → C) → C
through nothing next {b} {rest} e go = never_took b rest e
through (took a after) next e go = go a after refl e

-- one production or the other: one of them took it
pub one_or_other : {A C : Type 0} (p other : Parsed A) {a : A} {rest : List ℕ} → or_else p other ≡ took a rest →
    (p ≡ took a rest → C) → (other ≡ took a rest → C) → C
one_or_other nothing other e first second = second e
one_or_other (took b after) other e first second = first e

-- a byte, and what followed it
pub marked_only : {A : Type 0} (mark : ℕ) (form : List ℕ → Parsed A) (text : List ℕ) (a : A) (rest : List ℕ) → marked mark form text ≡ took a rest →
    (tail : List ℕ) × ((text ≡ mark ∷ tail) × (form tail ≡ took a rest))
unfolding marked
marked_only mark form [] a rest e = never_took a rest e
marked_only mark form (b ∷ tail) a rest e = by_test (eqb b mark) refl
  where
    by_test : (t : Bool) → eqb b mark ≡ t → (l : List ℕ) × ((b ∷ tail ≡ mark ∷ l) × (form l ≡ took a rest))
    by_test false n = never_took a rest (rw n at e)
    by_test true y = (tail, (ap (λ (c : ℕ). c ∷ tail) (eqb-true b mark y), rw y at e))

pub digits_marked : (mark n : ℕ) (text : List ℕ) (v : ℕ) (rest : List ℕ) → marked mark (digits n) text ≡ took v rest →
    (text ≡ (mark ∷ padded n v) ++ rest) × (v < 10 ^ n)
digits_marked mark n text v rest e =
    let m = marked_only mark (digits n) text v rest e in
    let d = digits_only n m.0 v rest m.1.1 in
    (m.1.0 ∙ ap (λ (l : List ℕ). mark ∷ l) d.0, d.1)

pub long : (text front rest : List ℕ) (n : ℕ) → text ≡ front ++ rest → length front ≡ n → length text ≡ n + length rest
long text front rest n e f = rw (e, length-append front rest, f)

-- ---- at least as long, and the same where it is no longer

-- a text is no shorter than `out` and `rest` together, and where it is as long it is these two
abbrev pub Shortest : List ℕ → List ℕ → List ℕ → Type 0
Shortest text out rest = (length out + length rest ≤ length text) × (length text ≡ length out + length rest → text ≡ out ++ rest)

pub exactly : (text out rest : List ℕ) → text ≡ out ++ rest → Shortest text out rest
exactly text out rest e = (omega (arith, ap length e ∙ length-append out rest), λ _. e)

pub longer : (text out rest : List ℕ) → length out + length rest < length text → Shortest text out rest
longer text out rest h = (omega arith, λ e. let z : ⊥ = omega arith in absurd z)

pub one_after : (text a mid b rest : List ℕ) → Shortest text a mid → Shortest mid b rest → Shortest text (a ++ b) rest
one_after text a mid b rest f g =
    let n = length-append a b in (
      omega (arith, f.0, g.0),
      λ e.
          let h : length text ≡ length a + length mid = omega (arith, f.0, g.0) in
          let k : length mid ≡ length b + length rest = omega (arith, f.0, g.0) in
          f.1 h ∙ ap (λ (l : List ℕ). a ++ l) (g.1 k) ∙ sym (append_assoc a b rest),
    )

-- ---- a byte and digits read back

pub marked_back : (mark n v : ℕ) (rest : List ℕ) → v < 10 ^ n → marked mark (digits n) ((mark ∷ padded n v) ++ rest) ≡ took v rest
unfolding marked
marked_back mark n v rest h = rw (eq-eqb mark mark refl) (digits_back n v rest h)

-- ---- a fraction read back

-- n digits without the zeros at their end are the digits of a number, and the zeros multiply it
record Trims (n v : ℕ) : Type 0 where
  count : ℕ
  value : ℕ
  few : count ≤ n
  small : value < 10 ^ count
  worth : value * 10 ^ (n - count) ≡ v
  left : trimmed (padded n v) ≡ padded count value

trims : (n v : ℕ) → v < 10 ^ n → Trims n v
trims zero v h = record { count = 0; value = v; few = omega arith; small = h; worth = mul-one v; left = trim_over 0 v refl }
trims (suc n) v h = by_last (v % 10) refl (trims n (v / 10) (omega (arith, pow-suc 10 n)))
  where
    by_last : (d : ℕ) → v % 10 ≡ d → Trims n (v / 10) → Trims (suc n) v
    by_last zero e t =
        let one : suc n - 1 ≡ n = omega arith in
        let more : suc n - t.count ≡ suc (n - t.count) = omega (arith, t.few) in
        record {
          count = t.count;
          value = t.value;
          few = omega (arith, t.few);
          small = t.small;
          worth = rw (more, pow-suc 10 (n - t.count)) (omega (arith, t.worth));
          left = sym (trim_more (suc n) v (omega arith) e) ∙ rw one t.left;
        }
    by_last (suc d) e t =
        let none : suc n - suc n ≡ 0 = omega arith in
        record {
          count = suc n;
          value = v;
          few = omega arith;
          small = h;
          worth = rw none (mul-one v);
          left = trim_stops (suc n) v (omega arith) (λ z. omega (arith, z, e));
        }

trims_some : (n v : ℕ) → 0 < v → (t : Trims n v) → 0 < t.count
trims_some n v some t =
    ⊎_elim
    (λ h.
    let e : t.count ≡ 0 = omega arith in
    let small : t.value < 1 = rw e at t.small in
    let none : t.value ≡ 0 = omega arith in
    omega (arith, rw none at t.worth))
    (λ h. h)
    (split t.count 1)

run_all : (n v : ℕ) → run (padded n v) ≡ took (padded n v) []
unfolding run
run_all n v = rw (append-nil (padded n v)) at (run_padded n v [])

pub fraction_back : (f : ℕ) → 0 < f → f < 10 ^ 9 → fraction (fraction_text f) ≡ took f []
unfolding fraction fraction_text marked
fraction_back f some h =
    let t = trims 9 f h in
    let i = trims_some 9 f some t in
    rw (t.left, pointed_some t.count t.value i, run_all t.count t.value)
    (filled_is t.count t.value [] i t.few t.small ∙ ap (λ (k : ℕ). took k []) t.worth)

fraction_none : fraction_text 0 ≡ []
unfolding fraction_text padded trimmed
fraction_none = refl

-- with nothing where there is no fraction
pub fraction_or_none : (f : ℕ) → f < 10 ^ 9 → or_else (fraction (fraction_text f)) (took 0 (fraction_text f)) ≡ took f []
unfolding fraction marked
fraction_or_none zero h = rw fraction_none
fraction_or_none (suc f) h = rw (fraction_back (suc f) (omega arith) h)

-- ---- the shortest fraction

-- the digits of a run stand there
run_step : (b : ℕ) (tail ds after : List ℕ) → run (b ∷ tail) ≡ took ds after →
    ((more : List ℕ) → run tail ≡ took more after → tail ≡ more ++ after) → b ∷ tail ≡ ds ++ after
unfolding run
run_step b tail ds after e before = by_test (is_digit b) refl
  where
    by_test : (t : Bool) → is_digit b ≡ t → b ∷ tail ≡ ds ++ after
    by_test false n = let same = took_inj [] ds (b ∷ tail) after (rw n at e) in rw (← same.0, ← same.1)
    by_test true y =
        through (run tail) _ (rw y at e) (λ more rest f g.
        let same = took_inj (b ∷ more) ds rest after g in
        rw (← same.0) (ap (λ (l : List ℕ). b ∷ l) (before more (f ∙ ap (λ (l : List ℕ). took more l) same.1))))

run_only : (text ds after : List ℕ) → run text ≡ took ds after → text ≡ ds ++ after
unfolding run
run_only [] ds after e = let same = took_inj [] ds [] after e in rw (← same.0, ← same.1)
run_only (b ∷ tail) ds after e = run_step b tail ds after e (λ more f. run_only tail more after f)

-- what a fraction was read from: a point and at most nine digits, which the zeros behind them fill up to nine
record FractionRead (text : List ℕ) (f : ℕ) (rest : List ℕ) : Type 0 where
  ds : List ℕ
  stands : text ≡ (point ∷ ds) ++ rest
  few : length ds ≤ 9
  nine : ds ++ replicate (9 - length ds) digit_zero ≡ padded 9 f

none_behind : (front more : List ℕ) → length (front ++ more) ≡ length front → front ++ more ≡ front
none_behind front [] e = append-nil front
none_behind front (b ∷ more) e = let z : ⊥ = omega (arith, length-append front (b ∷ more)) in absurd z

filled_only : (ds after : List ℕ) (f : ℕ) (rest : List ℕ) → filled ds after ≡ took f rest →
    (after ≡ rest) × ((length ds ≤ 9) × (ds ++ replicate (9 - length ds) digit_zero ≡ padded 9 f))
unfolding filled
filled_only ds after f rest e = by_test (leb 1 (length ds) && leb (length ds) 9) refl
  where
    nine : List ℕ
    nine = ds ++ replicate (9 - length ds) digit_zero

    by_test : (t : Bool) → (leb 1 (length ds) && leb (length ds) 9) ≡ t → (after ≡ rest) × ((length ds ≤ 9) × (nine ≡ padded 9 f))
    by_test false n = never_took f rest (rw n at e)
    by_test true y =
        let few : length ds ≤ 9 = leb-true (length ds) 9 (both (leb 1 (length ds)) (leb (length ds) 9) y).1 in
        through (digits 9 nine) (λ n none. took n after) (rw y at e) (λ n none g h.
        let same = took_inj n f after rest h in
        let only = (digits_only 9 nine n none g).0 in
        let long : length (padded 9 n ++ none) ≡ length (padded 9 n) =
        omega (arith, ap length only, length-append ds (replicate (9 - length ds) digit_zero), length-replicate (9 - length ds) digit_zero, padded_length 9 n) in
        (same.1, (few, only ∙ none_behind (padded 9 n) none long ∙ ap (padded 9) same.0)))

fraction_read : (text : List ℕ) (f : ℕ) (rest : List ℕ) → fraction text ≡ took f rest → FractionRead text f rest
unfolding fraction
fraction_read text f rest e =
    through (marked point run text) filled e (λ ds after g h.
    let m = marked_only point run text ds after g in
    let o = filled_only ds after f rest h in
    record {
      ds = ds;
      stands = m.1.0 ∙ ap (λ (l : List ℕ). point ∷ l) (run_only m.0 ds after m.1.1) ∙ ap (λ (l : List ℕ). (point ∷ ds) ++ l) o.0;
      few = o.1.0;
      nine = o.1.1;
    })

-- zeros behind it do not change what is left of a text
zeros_trimmed : (k : ℕ) → trimmed (replicate k digit_zero) ≡ []
unfolding trimmed
zeros_trimmed zero = refl
zeros_trimmed (suc k) = rw (zeros_trimmed k)

trimmed_zeros : (l : List ℕ) (k : ℕ) → trimmed (l ++ replicate k digit_zero) ≡ trimmed l
unfolding trimmed
trimmed_zeros [] k = zeros_trimmed k
trimmed_zeros (b ∷ rest) k = ap (keep b) (trimmed_zeros rest k)

keep_shortest : (b : ℕ) (l : List ℕ) → (length (keep b l) ≤ suc (length l)) × (length (keep b l) ≡ suc (length l) → keep b l ≡ b ∷ l)
keep_shortest b (c ∷ l) = (omega arith, λ e. refl)
keep_shortest b [] = by_test (eqb b digit_zero)
  where
    by_test : (t : Bool) → (length (cond t [] (b ∷ [])) ≤ 1) × (length (cond t [] (b ∷ [])) ≡ 1 → cond t [] (b ∷ []) ≡ b ∷ [])
    by_test true = (omega arith, λ e. let z : ⊥ = omega arith in absurd z)
    by_test false = (omega arith, λ e. refl)

trimmed_shortest : (l : List ℕ) → (length (trimmed l) ≤ length l) × (length (trimmed l) ≡ length l → trimmed l ≡ l)
unfolding trimmed
trimmed_shortest [] = (omega arith, λ e. refl)
trimmed_shortest (b ∷ l) =
    let s = trimmed_shortest l in
    let k = keep_shortest b (trimmed l) in (
      omega (arith, s.0, k.0),
      λ e.
          let same : length (trimmed l) ≡ length l = omega (arith, s.0, k.0) in
          let kept : length (keep b (trimmed l)) ≡ suc (length (trimmed l)) = omega (arith, s.0, k.0) in
          k.1 kept ∙ ap (λ (m : List ℕ). b ∷ m) (s.1 same),
    )

pointed_shortest : (l : List ℕ) → (length (pointed l) ≤ suc (length l)) × (length (pointed l) ≡ suc (length l) → pointed l ≡ point ∷ l)
pointed_shortest [] = (omega arith, λ e. let z : ⊥ = omega arith in absurd z)
pointed_shortest (d ∷ ds) = (omega arith, λ e. refl)

pub fraction_shortest : (text : List ℕ) (f : ℕ) (rest : List ℕ) → fraction text ≡ took f rest → Shortest text (fraction_text f) rest
unfolding fraction_text
fraction_shortest text f rest e =
    let r = fraction_read text f rest e in
    let same : trimmed (padded 9 f) ≡ trimmed r.ds = ap trimmed (sym r.nine) ∙ trimmed_zeros r.ds (9 - length r.ds) in
    let s = trimmed_shortest r.ds in
    let p = pointed_shortest (trimmed r.ds) in
    let n : length text ≡ suc (length r.ds) + length rest = ap length r.stands ∙ length-append (point ∷ r.ds) rest in
    rw same (
      omega (arith, n, s.0, p.0),
      λ h.
          let short : length (trimmed r.ds) ≡ length r.ds = omega (arith, n, s.0, p.0) in
          let sharp : length (pointed (trimmed r.ds)) ≡ suc (length (trimmed r.ds)) = omega (arith, n, s.0, p.0) in
          r.stands ∙ ap (λ (l : List ℕ). l ++ rest) (sym (p.1 sharp ∙ ap (λ (l : List ℕ). point ∷ l) (s.1 short))),
    )

pub fraction_longest : (text : List ℕ) (f : ℕ) (rest : List ℕ) → fraction text ≡ took f rest → length text ≤ 10 + length rest
fraction_longest text f rest e =
    let r = fraction_read text f rest e in omega (arith, ap length r.stands, length-append (point ∷ r.ds) rest, r.few)

-- the same where there may be none
module _ (text : List ℕ) (f : ℕ) (rest : List ℕ) (e : or_else (fraction text) (took 0 text) ≡ took f rest) where
  pub if_any_shortest : Shortest text (fraction_text f) rest
  if_any_shortest =
      one_or_other (fraction text) (took 0 text) e (fraction_shortest text f rest) (λ h.
      let same = took_inj 0 f text rest h in rw (← same.0, fraction_none) (exactly text [] rest same.1))

  pub if_any_longest : length text ≤ 10 + length rest
  if_any_longest =
      one_or_other (fraction text) (took 0 text) e (fraction_longest text f rest) (λ h.
      omega (arith, ap length (took_inj 0 f text rest h).1))
