-- An input of lines: the answers do not depend on how its bytes are cut into parts, what one byte does to them, and that the parts
-- together are answered as the whole.
use Prim.Native.Nat.{ℕ, suc, ◌+◌, ◌-◌, ◌≤◌, ◌<◌}
use native.Mathlib.Omega.{arith}
use native.Mathlib.Numerals.{add-one}
use mathlib.Core.Path.{◌≡◌, refl, sym, ◌∙◌, ap}
use mathlib.Core.Logic.{⊎_elim}
use mathlib.Core.Bool.{Bool, true, false, cond}
use mathlib.Core.List.{List, [], ◌∷◌, ◌++◌, append_assoc, append-nil}
use borrow.Author.Tests.{eq-eqb, ne_eqb, lt-leb, ltb-true, ltb-false}
use lib.Dec.{eqb, ltb}
use lib.ListN.{length, take, drop, get_or, set, replicate, length-append, length-set, length-replicate}
use lib.Seq.{slice, slice_empty, slice-cons, take-add, take_all, take-suc-set, drop-append-le, drop_at, length-take-le}
use Rattle.whole.proofs.Laws.{split}
use Rattle.lines.specs.Text.{newline}
use Rattle.writing.specs.Wrote.{Wrote}
use Rattle.writing.proofs.Writing.{after, nothing, wrote_once}
use Rattle.requests.specs.Requests.{reply_to, response_to, line_room}
use Rattle.replies.specs.Replies.{question}
use Rattle.stream.specs.Stream.{answered, pending_after, last_answer, output_of, response_room, Kept, kept, buffered, joined, kept_with, kept_after, Holds}
use Rattle.stream.specs.Stream.{Inside, Roomy, Stops, Took, Taken, begun, more}
use Rattle.stream.specs.declared.inner.Progress.{Progress}
use Rattle.stream.specs.declared.inner.Pending.{Pending}
use Rattle.stream.specs.declared.inner.Pending.TheVariants.{Buffered, Outgrown}

-- ---- bytes in two parts

answered_by : (t : Bool) (p : List ℕ) (b : ℕ) (xs ys : List ℕ) →
    ((q : List ℕ) → answered q (xs ++ ys) ≡ answered q xs ++ answered (pending_after q xs) ys) →
    cond t (response_to p ++ answered [] (xs ++ ys)) (answered (p ++ (b ∷ [])) (xs ++ ys)) ≡
    cond t (response_to p ++ answered [] xs) (answered (p ++ (b ∷ [])) xs) ++ answered (cond t (pending_after [] xs) (pending_after (p ++ (b ∷ [])) xs)) ys
answered_by true p b xs ys h = rw (h [], append_assoc (response_to p) (answered [] xs) (answered (pending_after [] xs) ys))
answered_by false p b xs ys h = h (p ++ (b ∷ []))

pub answered_append : (p xs ys : List ℕ) → answered p (xs ++ ys) ≡ answered p xs ++ answered (pending_after p xs) ys
unfolding answered pending_after
answered_append p [] ys = refl
answered_append p (b ∷ xs) ys = answered_by (eqb b newline) p b xs ys (λ q. answered_append q xs ys)

pending_by : (t : Bool) (p : List ℕ) (b : ℕ) (xs ys : List ℕ) →
    ((q : List ℕ) → pending_after q (xs ++ ys) ≡ pending_after (pending_after q xs) ys) →
    cond t (pending_after [] (xs ++ ys)) (pending_after (p ++ (b ∷ [])) (xs ++ ys)) ≡ pending_after
    (cond t (pending_after [] xs) (pending_after (p ++ (b ∷ [])) xs)) ys
pending_by true p b xs ys h = h []
pending_by false p b xs ys h = h (p ++ (b ∷ []))

pub pending_after_append : (p xs ys : List ℕ) → pending_after p (xs ++ ys) ≡ pending_after (pending_after p xs) ys
unfolding pending_after
pending_after_append p [] ys = refl
pending_after_append p (b ∷ xs) ys = pending_by (eqb b newline) p b xs ys (λ q. pending_after_append q xs ys)

-- so an input may be read in any parts
pub output_parts : (xs ys : List ℕ) → output_of (xs ++ ys) ≡ answered [] xs ++ (answered (pending_after [] xs) ys ++ last_answer
    (pending_after (pending_after [] xs) ys))
output_parts xs ys = rw (answered_append [] xs ys, pending_after_append [] xs ys, append_assoc)

-- ---- a part of a block: nothing, one byte, two parts

slice_add : (l : List ℕ) (a b c : ℕ) → a ≤ b → b ≤ c → b ≤ length l → slice a c l ≡ slice a b l ++ slice b c l
slice_add l a b c h k m =
    let n : length (take b l) ≡ b = length-take-le b l m in
    let f : b + (c - b) ≡ c = omega arith in
    let e : take c l ≡ take b l ++ take (c - b) (drop b l) = rw f at (take-add b (c - b) l) in
    rw (e, drop-append-le a (take b l) (take (c - b) (drop b l)) (omega arith), drop_at (take b l) (take (c - b) (drop b l)) b n)

module _ (block : List ℕ) (at : ℕ) (inside : at < length block) where
  one_byte : slice at (at + 1) block ≡ get_or block at 0 ∷ []
  one_byte = rw (add-one at, slice-cons at (suc at) block 0 (omega arith) (omega arith), slice_empty)

  newline_answered : (p : List ℕ) → get_or block at 0 ≡ newline → answered p (slice at (at + 1) block) ≡ response_to p
  unfolding answered
  newline_answered p e = rw (one_byte, eq-eqb _ _ e, append-nil)

  other_answered : (p : List ℕ) → (get_or block at 0 ≡ newline → ⊥) → answered p (slice at (at + 1) block) ≡ []
  unfolding answered
  other_answered p n = rw (one_byte, ne_eqb _ _ n)

  newline_kept : (k : Kept) → get_or block at 0 ≡ newline → kept k.line (Buffered 0) ≡ kept_after k (slice at (at + 1) block)
  unfolding kept_after kept_with
  newline_kept k e = rw (one_byte, eq-eqb _ _ e)

  other_kept : (k : Kept) → (get_or block at 0 ≡ newline → ⊥) → joined k.line k.pending (get_or block at 0) ≡ kept_after k (slice at (at + 1) block)
  unfolding kept_after kept_with
  other_kept k n = rw (one_byte, ne_eqb _ _ n)

-- ---- what the line buffer keeps

kept_after_append : (k : Kept) (xs ys : List ℕ) → kept_after k (xs ++ ys) ≡ kept_after (kept_after k xs) ys
unfolding kept_after
kept_after_append k [] ys = refl
kept_after_append k (b ∷ xs) ys = kept_after_append (kept_with k b) xs ys

-- at the start of an input, and after a newline
pub holds_none : (line : List ℕ) → Holds [] (kept line (Buffered 0))
holds_none line = record { stands = refl }

pub record Sized (k : Kept) : Type 0 where
  pub long : length k.line ≡ line_room
  pub some : buffered k.pending ≤ line_room

-- another byte joins the line
module _ (line : List ℕ) (b : ℕ) where
  joined_by : (t : Bool) (have : ℕ) → ltb have (length line) ≡ t → length line ≡ line_room → have ≤ line_room →
      Sized (cond t (kept (set line have b) (Buffered (have + 1))) (kept line (Outgrown have))) ×
      Holds (take have line ++ (b ∷ [])) (cond t (kept (set line have b) (Buffered (have + 1))) (kept line (Outgrown have)))
  joined_by true have e s h =
      let l : have < length line = ltb-true _ _ e in
      (record { long = length-set line have b ∙ s; some = omega (arith, s) }, record { stands = sym (rw (add-one have) (take-suc-set line have b l)) })
  joined_by false have e s h =
      let g : length (take have line) ≡ have = length-take-le have line (omega (arith, s)) in
      let f : length line ≤ have = ltb-false _ _ e in
      (record { long = s; some = omega arith }, record { stands = rw (length-append (take have line) (b ∷ [])) (omega (arith, s)) })

  outgrown_by : (t : Bool) (have : ℕ) (p : List ℕ) → ltb have (length line) ≡ t → length line ≡ line_room → have ≤ line_room →
      line_room < length p →
      Sized (cond t (kept (set line have b) (Outgrown (have + 1))) (kept line (Outgrown have))) ×
      Holds (p ++ (b ∷ [])) (cond t (kept (set line have b) (Outgrown (have + 1))) (kept line (Outgrown have)))
  outgrown_by true have p e s h l =
      let i : have < length line = ltb-true _ _ e in
      let longer : line_room < length (p ++ (b ∷ [])) = rw (length-append p (b ∷ [])) (omega (arith, l)) in
      (record { long = length-set line have b ∙ s; some = omega (arith, s) }, record { stands = longer })
  outgrown_by false have p e s h l = (record { long = s; some = h }, record { stands = rw (length-append p (b ∷ [])) (omega (arith, l)) })

  pub joins : (p : List ℕ) (q : Pending) → Sized (kept line q) → Holds p (kept line q) → Sized (joined line q b) × Holds (p ++ (b ∷ [])) (joined line q b)
  joins p (Buffered have) s h =
      rw h.stands (joined_by (ltb have (length line)) have refl s.long s.some)
  joins p (Outgrown have) s h = outgrown_by (ltb have (length line)) have p refl s.long s.some h.stands

holds_by : (t : Bool) (k : Kept) (b : ℕ) (bs p : List ℕ) → Sized k → Holds p k →
    ((j : Kept) (q : List ℕ) → Sized j → Holds q j → Holds (pending_after q bs) (kept_after j bs)) →
    Holds (cond t (pending_after [] bs) (pending_after (p ++ (b ∷ [])) bs)) (kept_after (cond t (kept k.line (Buffered 0)) (joined k.line k.pending b)) bs)
holds_by true k b bs p s h step = step (kept k.line (Buffered 0)) [] (record { long = s.long; some = omega arith }) (holds_none k.line)
holds_by false k b bs p s h step =
    let j = joins k.line b p k.pending s h in
    step (joined k.line k.pending b) (p ++ (b ∷ [])) j.0 j.1

holds_after : (bytes : List ℕ) (k : Kept) (p : List ℕ) → Sized k → Holds p k → Holds (pending_after p bytes) (kept_after k bytes)
unfolding pending_after kept_after kept_with
holds_after [] k p s h = h
holds_after (b ∷ bs) k p s h = holds_by (eqb b newline) k b bs p s h (λ j q. holds_after bs j q)

-- something is pending that is kept so
abbrev pending_of : List ℕ → Pending → List ℕ
pending_of line (Buffered have) = take have line
pending_of line (Outgrown have) = replicate (suc line_room) 0

holds_pending : (line : List ℕ) (p : Pending) → Holds (pending_of line p) (kept line p)
holds_pending line (Buffered have) = record { stands = refl }
holds_pending line (Outgrown have) = record { stands = rw length-replicate (omega arith) }

-- ---- the end of the input, and of a line that is too long

pub long_lines : (line : List ℕ) → line_room < length line → response_to line ≡ question ++ (newline ∷ [])
unfolding reply_to
long_lines [] h = let f : ⊥ = omega arith in absurd f
long_lines (b ∷ bs) h = rw (lt-leb _ _ h)

last_some : (p : List ℕ) → 0 < length p → response_to p ≡ last_answer p
unfolding last_answer
last_some [] h = let f : ⊥ = omega arith in absurd f
last_some (b ∷ bs) h = refl

-- something that is pending is answered as a line, and nothing is where nothing is
pub last_whole : (p line : List ℕ) (q : Pending) → Holds p (kept line q) → buffered q ≤ length line → (q ≡ Buffered 0 → ⊥) → response_to p ≡ last_answer p
last_whole p line (Buffered have) h l n =
    last_some p (omega (arith, ap length h.stands ∙ length-take-le have line l, λ (e : have ≡ 0). n (ap (λ (k : ℕ). Buffered k) e)))
last_whole p line (Outgrown have) h l n = last_some p (omega (arith, h.stands))

pub last_none : (p line : List ℕ) (have : ℕ) → have ≡ 0 → Holds p (kept line (Buffered have)) → [] ≡ last_answer p
unfolding last_answer
last_none p line have e h = rw (h.stands, e)

-- ---- a block taken: nothing, one byte, two parts

module _ {block line out : List ℕ} {s : Progress} (w : Inside block line out s) where
  pub took_nothing : Took block line out s line out s
  unfolding answered kept_after
  took_nothing =
      record {
        onward = omega arith;
        inside = w;
        keeps = rw (slice_empty s.at block);
        wrote = λ p h. rw (slice_empty s.at block) (nothing out s.filled);
        roomy = λ p h m l u. let f : ⊥ = omega arith in absurd f;
      }

  -- what was pending is kept
  held : {line' out' : List ℕ} {m : Progress} {p : List ℕ} → Took block line out s line' out' m → Holds p (kept line s.pending) →
      Holds (pending_after p (slice s.at m.at block)) (kept line' m.pending)
  held {p = p} v h = rw v.keeps (holds_after _ (kept line s.pending) p (record { long = w.line_sized; some = w.pending_inside }) h)

  pub took_more : {line' out' line'' out'' : List ℕ} {m r : Progress} → Took block line out s line' out' m → Took block line' out' m line'' out'' r →
      Took block line out s line'' out'' r
  took_more {line'} {out'} {line''} {out''} {m} {r} v x =
      let e : slice s.at r.at block ≡ slice s.at m.at block ++ slice m.at r.at block =
      slice_add block s.at m.at r.at v.onward x.onward v.inside.at_inside in
      record {
        onward = omega (arith, v.onward, x.onward);
        inside = x.inside;
        keeps =
            x.keeps ∙ ap (λ (k : Kept). kept_after k (slice m.at r.at block)) v.keeps ∙
            rw e (sym (kept_after_append (kept line s.pending) (slice s.at m.at block) (slice m.at r.at block)));
        wrote = λ p h. rw (e, answered_append p) (after (v.wrote p h) (x.wrote _ (held v h)));
        roomy =
            λ p h n l u.
            ⊎_elim
            (λ (d : n < m.at). v.roomy p h n l d)
            (λ (d : m.at ≤ n).
            let f : slice s.at n block ≡ slice s.at m.at block ++ slice m.at n block =
            slice_add block s.at m.at n v.onward d v.inside.at_inside in
            rw (f, answered_append p, length-append) (omega (arith, (v.wrote p h).ends, (v.wrote p h).sized, x.roomy _ (held v h) n d u)))
            (split n m.at);
      }

module _ {block line out : List ℕ} {s : Progress} (w : Inside block line out s) (inside : s.at < length block)
    (room : s.filled + response_room ≤ length out) where
  roomy_one : (p : List ℕ) → Roomy p block out s (s.at + 1)
  unfolding answered
  roomy_one p m l u = let e : m ≡ s.at = omega arith in rw (e, slice_empty s.at block) (omega arith)

  pub took_newline : {out' : List ℕ} {n : ℕ} → get_or block s.at 0 ≡ newline → n ≤ length out' →
      ((p : List ℕ) → Holds p (kept line s.pending) → Wrote out s.filled (response_to p) out' n) →
      Took block line out s line out' (record { at = s.at + 1; pending = Buffered 0; filled = n })
  took_newline e fits wrote =
      record {
        onward = omega arith;
        inside = record { at_inside = omega arith; line_sized = w.line_sized; pending_inside = omega arith; filled_inside = fits };
        keeps = newline_kept block s.at inside (kept line s.pending) e;
        wrote = λ p h. rw (newline_answered block s.at inside p e) (wrote p h);
        roomy = λ p h. roomy_one p;
      }

  pub took_other : {line' : List ℕ} {q : Pending} → (get_or block s.at 0 ≡ newline → ⊥) → kept line' q ≡ joined line s.pending (get_or block s.at 0) →
      Took block line out s line' out (record { at = s.at + 1; pending = q; filled = s.filled })
  took_other n e =
      let z = rw (← e) at (joins line (get_or block s.at 0) (pending_of line s.pending) s.pending (record { long = w.line_sized; some = w.pending_inside }) (holds_pending line s.pending)).0 in
      record {
        onward = omega arith;
        inside = record { at_inside = omega arith; line_sized = z.long; pending_inside = z.some; filled_inside = w.filled_inside };
        keeps = e ∙ other_kept block s.at inside (kept line s.pending) n;
        wrote = λ p h. rw (other_answered block s.at inside p n) (nothing out s.filled);
        roomy = λ p h. roomy_one p;
      }

-- ---- where the taking stops

module _ {block line out : List ℕ} {s : Progress} where
  filled_as : {line' out' : List ℕ} {r : Progress} → Took block line out s line' out' r →
      r.filled ≡ s.filled + length (answered (pending_of line s.pending) (slice s.at r.at block))
  filled_as v = (v.wrote _ (holds_pending line s.pending)).ends

  -- with room at first and a byte to take, one is taken
  pub moves : {line' out' : List ℕ} {r : Progress} → Took block line out s line' out' r → Stops block out r → s.at < length block →
      s.filled + response_room ≤ length out → s.at < r.at
  unfolding answered
  moves {r = r} v stops l room =
      ⊎_elim
      (λ (d : s.at < r.at). d)
      (λ (d : r.at ≤ s.at).
      let e : r.at ≡ s.at = omega (arith, v.onward) in
      let g : r.filled ≡ s.filled + 0 = rw (e, slice_empty s.at block) at (filled_as v) in
      let f : ⊥ = omega (arith, stops (omega arith)) in
      absurd f)
      (split s.at r.at)

  not_later : {line' out' line'' out'' : List ℕ} {r t : Progress} → Took block line out s line' out' r → Stops block out r →
      Took block line out s line'' out'' t → t.at ≤ r.at
  not_later {r = r} {t = t} v stops x =
      ⊎_elim
      (λ (d : r.at < t.at).
      let room = x.roomy _ (holds_pending line s.pending) r.at v.onward d in
      let l : length out < r.filled + response_room = stops (omega (arith, x.inside.at_inside)) in
      let f : ⊥ = omega (arith, filled_as v) in
      absurd f)
      (λ (d : t.at ≤ r.at). d)
      (split r.at t.at)

  -- two results that the contract of `take_lines` allows are one
  pub took_once : {line' out' line'' out'' : List ℕ} {r t : Progress} → Took block line out s line' out' r → Stops block out r →
      Took block line out s line'' out'' t → Stops block out t →
      (r ≡ t) × ((line' ≡ line'') × (out' ≡ out''))
  took_once {line'} {out'} {line''} {out''} {r} {t} v stops x halts =
      let e : r.at ≡ t.at = omega (arith, not_later v stops x, not_later x halts v) in
      let k : kept line' r.pending ≡ kept line'' t.pending = v.keeps ∙ (rw (← e) at (sym x.keeps)) in
      let p = holds_pending line s.pending in
      let o = wrote_once (v.wrote _ p) (rw (← e) at (x.wrote _ p)) in
      let pending : r.pending ≡ t.pending = ap (λ (j : Kept). j.pending) k in
      (same_progress _ _ _ _ _ _ e pending o.1, (ap (λ (j : Kept). j.line) k, o.0))
    where
      same_progress : (a b : ℕ) (p q : Pending) (m n : ℕ) → a ≡ b → p ≡ q → m ≡ n →
          ◌≡◌ {A = Progress} (record { at = a; pending = p; filled = m }) (record { at = b; pending = q; filled = n })
      same_progress a b p q m n e f g = rw (e, f, g)

-- ---- the parts of a block together

pub kept_more : (block : List ℕ) (from to : ℕ) (k : Kept) → from ≤ to → from ≤ length block →
    kept_after (kept_after k (take from block)) (slice from to block) ≡ kept_after k (take to block)
kept_more block from to k h l = sym (ap (kept_after k) (slice_add block 0 from to (omega arith) h l) ∙
    kept_after_append k (take from block) (slice from to block))

pub kept_all : (block : List ℕ) (to : ℕ) (k : Kept) → length block ≤ to → kept_after k (take to block) ≡ kept_after k block
kept_all block to k h = ap (kept_after k) (take_all to block h)

pub kept_none : (k : Kept) → k ≡ kept_after k []
unfolding kept_after
kept_none k = refl

-- ---- the parts of an input together

wrote_slice : {a text b : List ℕ} {at end : ℕ} → at ≤ length a → Wrote a at text b end → slice at end b ≡ text
wrote_slice {a} {text} {b} {at} {end} h w = ap (drop at) w.holds ∙ drop_at (take at a) text at (length-take-le at a h)

pub taken_is : {input output : List ℕ} {k : Kept} → Taken input output k → (output ≡ answered [] input) × Holds (pending_after [] input) k
unfolding answered pending_after
taken_is (begun line) = (refl, holds_none line)
taken_is (more {input} {output} {block} {line} {out} {line'} {out'} {s} {r} t w v) =
    let i = taken_is t in
    let bytes : List ℕ = slice s.at r.at block in
    (rw (answered_append [] input bytes, i.0, wrote_slice w.filled_inside (v.wrote _ i.1)), rw (pending_after_append [] input bytes) (held w v i.1))

-- what `take_lines` wrote part by part, and `end_input` at last, is the output of the input
pub whole_output : {input output line out out' : List ℕ} {filled end : ℕ} {p : Pending} → Taken input output (kept line p) → filled ≤ length out →
    ((pending : List ℕ) → Holds pending (kept line p) → Wrote out filled (last_answer pending) out' end) →
    output ++ slice filled end out' ≡ output_of input
whole_output t h last = let i = taken_is t in rw (i.0, wrote_slice h (last _ i.1))
