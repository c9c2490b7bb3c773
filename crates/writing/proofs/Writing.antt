-- Text in a buffer: a text put into its place byte by byte from its end, and one text written after another.
use Prim.Native.Nat.{ℕ, suc, ◌+◌, ◌≤◌, ◌<◌}
use native.Mathlib.Nat.{add-zero}
use native.Mathlib.Omega.{arith}
use mathlib.Core.Path.{◌≡◌, refl, sym, ap, ◌∙◌}
use mathlib.Core.List.{List, [], ◌∷◌, ◌++◌, append_assoc, append-nil}
use lib.ListN.{length, take, drop, set, length-append, length-take, length-drop, length-set, take-append-drop}
use lib.Seq.{take-set-le, drop-set-lt, drop-cons, drop-drop, get_or-set_same, take-add, take-take, take_at, drop_at, length-take-le}
use Rattle.writing.specs.Wrote.{Wrote}

-- the buffer with a text at its place
abbrev pub placed : List ℕ → ℕ → List ℕ → List ℕ
placed l at text = take at l ++ (text ++ drop (at + length text) l)

pub placed_none : (l : List ℕ) (at : ℕ) → placed l at [] ≡ l
placed_none l at = rw (add-zero at, take-append-drop)

-- a store of the last byte leaves the others to place
pub put_last : (l : List ℕ) (at : ℕ) (text : List ℕ) (b i : ℕ) → i ≡ at + length text → i < length l →
    placed (set l i b) at text ≡ placed l at (text ++ (b ∷ []))
put_last l at text b i e h =
    let low : at ≤ i = omega arith in
    let long : i < length (set l i b) = rw (length-set l i b) h in
    let f : at + length (text ++ (b ∷ [])) ≡ suc i = rw (length-append text (b ∷ [])) (omega arith) in
    let here : drop (at + length text) (set l i b) ≡ b ∷ drop (at + length (text ++ (b ∷ []))) l =
    rw (← e, f, drop-cons (set l i b) i 0 long, get_or-set_same l i b 0 h, drop-set-lt (suc i) l i b (omega arith)) in
    rw (take-set-le at l i b low, here, append_assoc)

pub placed_wrote : (l l' : List ℕ) (at : ℕ) (text : List ℕ) (end : ℕ) → at + length text ≤ length l → l' ≡ placed l at text → end ≡ at + length text →
    Wrote l at text l' end
placed_wrote l l' at text end room e f =
    let n : length (take at l) ≡ at = length-take-le at l (omega arith) in
    let m : length (take at l ++ text) ≡ end = length-append (take at l) text ∙ ap (λ (k : ℕ). k + length text) n ∙ sym f in
    let split : l' ≡ (take at l ++ text) ++ drop (at + length text) l = e ∙ sym (append_assoc (take at l) text (drop (at + length text) l)) in
    record {
      ends = f;
      holds = ap (take end) split ∙ take_at (take at l ++ text) (drop (at + length text) l) end m;
      keeps = ap (drop end) split ∙ drop_at (take at l ++ text) (drop (at + length text) l) end m ∙ ap (λ (k : ℕ). drop k l) (sym f);
      sized = ap length e ∙ (simp (length-append, length-drop, n) (omega arith));
    }

-- one text after another
pub after : {a b c s t : List ℕ} {at m n : ℕ} → Wrote a at s b m → Wrote b m t c n → Wrote a at (s ++ t) c n
after {a} {b} {c} {s} {t} {at} {m} {n} v w =
    record {
      ends = w.ends ∙ (simp length-append (omega (arith, v.ends)));
      holds = w.holds ∙ ap (λ (l : List ℕ). l ++ t) v.holds ∙ append_assoc (take at a) s t;
      keeps = w.keeps ∙ ap (λ (k : ℕ). drop k b) w.ends ∙ sym (drop-drop (length t) m b) ∙ ap (drop (length t)) v.keeps ∙
          drop-drop (length t) m a ∙ ap (λ (k : ℕ). drop k a) (sym w.ends);
      sized = w.sized ∙ v.sized;
    }

pub nothing : (l : List ℕ) (at : ℕ) → Wrote l at [] l at
nothing l at = record { ends = sym (add-zero at); holds = sym (append-nil (take at l)); keeps = refl; sized = refl }

-- what was written ends within the buffer
pub ends_inside : {before text after : List ℕ} {at end : ℕ} → at ≤ length before → Wrote before at text after end → end ≤ length after
ends_inside {before} {text} {after} {at} {end} h w =
    omega (arith, w.ends, simp (length-append, length-take) at (ap length w.holds))

pub wrote_as : {before after : List ℕ} {at end : ℕ} {a b : List ℕ} → Wrote before at a after end → a ≡ b → Wrote before at b after end
wrote_as h e = rw e at h

-- two results that this allows are one
pub wrote_once : {before text after after' : List ℕ} {at end end' : ℕ} → Wrote before at text after end → Wrote before at text after' end' →
    (after ≡ after') × (end ≡ end')
wrote_once {before} {text} {after} {after'} {at} {end} {end'} v w =
    let e : end ≡ end' = v.ends ∙ sym w.ends in
    let h : take end after ≡ take end after' = v.holds ∙ sym (rw (← e) at w.holds) in
    let k : drop end after ≡ drop end after' = v.keeps ∙ sym (rw (← e) at w.keeps) in
    (sym (take-append-drop end after) ∙ rw (h, k) (take-append-drop end after'), e)

-- a text that is written before one that stands there already
pub ahead : {a b c s t : List ℕ} {at m n : ℕ} → m ≤ length a → Wrote a m t b n → Wrote b at s c m → Wrote a at (s ++ t) c n
ahead {a} {b} {c} {s} {t} {at} {m} {n} room v w =
    let low : at ≤ m = omega (arith, w.ends) in
    let start : length (take m a) ≡ m = length-take-le m a room in
    let more : m ≤ n = omega (arith, v.ends) in
    let e : n ≡ m + length t = v.ends in
    let front : take m b ≡ take m a =
    sym (take-take m n b more) ∙ ap (take m) v.holds ∙ take_at (take m a) t m start in
    let text : take (length t) (drop m b) ≡ t =
    let whole : take m b ++ take (length t) (drop m b) ≡ take m a ++ t = sym (take-add m (length t) b) ∙ ap (λ (k : ℕ). take k b) (sym e) ∙ v.holds in
    let long : length (take m b) ≡ m = ap length front ∙ start in
    sym (drop_at (take m b) (take (length t) (drop m b)) m long) ∙ ap (drop m) whole ∙ drop_at (take m a) t m start in
    let before : take at b ≡ take at a = sym (take-take at m b low) ∙ ap (take at) front ∙ take-take at m a low in
    record {
      ends = simp length-append (omega (arith, v.ends, w.ends));
      holds =
          ap (λ (k : ℕ). take k c) e ∙ take-add m (length t) c ∙ rw (w.holds, w.keeps, text, before) (append_assoc (take at a) s t);
      keeps =
          ap (λ (k : ℕ). drop k c) e ∙ sym (drop-drop (length t) m c) ∙ ap (drop (length t)) w.keeps ∙ drop-drop (length t) m b ∙
          ap (λ (k : ℕ). drop k b) (sym e) ∙ v.keeps;
      sized = w.sized ∙ v.sized;
    }
