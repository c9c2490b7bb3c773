-- A text in a part of a buffer that was lent, and what stands before it.
use Rattle.std.specs.Prelude.{Result, Ok, Err}
use Prim.Native.Nat.{ℕ, ◌+◌, ◌-◌, ◌≤◌}
use native.Mathlib.Omega.{arith}
use mathlib.Core.Path.{◌≡◌, refl, sym, ap, ◌∙◌}
use mathlib.Core.List.{List, [], ◌∷◌, ◌++◌, append_assoc}
use borrow.Rule.Slice.PartMut.{mid_of, put_mid, put_same, same_len_mid}
use lib.ListN.{length, take, drop, length-append, length-drop, take-append-drop}
use lib.Seq.{drop-append-le, drop-drop, length-take-le}
use Rattle.refusal.specs.Answer.{Answer, given, refused}
use Rattle.refusal.proofs.Answers.{given_inj, never}
use Rattle.lines.specs.Text.{digit_zero, space}
use Rattle.writing.specs.Wrote.{Wrote}
use Rattle.writing.proofs.Writing.{placed, placed_wrote, ahead}
use Rattle.replies.specs.Replies.{Replied, shown_text}
use Rattle.date_text.specs.Paper.{length_of, afterwards}
use Rattle.refusal.specs.Refusals.{refusal_number, answer_of}
use Rattle.refusal.specs.declared.Refusal.{Refusal}
use Rattle.text_calls.specs.Heads.{head_of, behind}

-- a text at the start of a part is a text at the part's place
module _ (out : List ℕ) (start room : ℕ) (inside : start + room ≤ length out) where
  abbrev part : List ℕ
  part = mid_of start room out

  part_long : length part ≡ room
  part_long = length-take-le room (drop start out) (rw (length-drop start out) (omega arith))

  part_wrote : (text : List ℕ) → length text ≤ room → Wrote out start text (put_mid start room out (text ++ drop (length text) part)) (start + length text)
  part_wrote text fits =
      let behind_it : drop (length text) part ++ drop room (drop start out) ≡ drop (start + length text) out =
      sym (drop-append-le (length text) part (drop room (drop start out)) (rw part_long fits)) ∙
      ap (drop (length text)) (take-append-drop room (drop start out)) ∙ drop-drop (length text) start out in
      let whole : put_mid start room out (text ++ drop (length text) part) ≡ placed out start text =
      ap (λ (l : List ℕ). take start out ++ l) (append_assoc text (drop (length text) part) (drop room (drop start out)) ∙
      ap (λ (l : List ℕ). text ++ l) behind_it) in
      placed_wrote out _ start text (start + length text) (omega arith) whole refl

-- a text that was written is no longer than what was lent
text_fits : (part part' text : List ℕ) → part' ≡ text ++ drop (length text) part → length part' ≡ length part → length text ≤ length part
text_fits part part' text e same = omega (arith, (simp (length-append, length-drop) at (ap length e)), same)

behind_fits : (part part' : List ℕ) (a : Answer (List ℕ)) (r : Result ℕ Refusal) → answer_of r ≡ length_of a → part' ≡ afterwards part a →
    length part' ≡ length part → behind r ≤ length part
behind_fits part part' (given text) (Ok n) e h same = let f = given_inj n (length text) e in omega (arith, f, text_fits part part' text h same)
behind_fits part part' (given text) (Err n) e h same = never (length text) (refusal_number n) e
behind_fits part part' (refused m) (Ok n) e h same = never n m (sym e)
behind_fits part part' (refused m) (Err n) e h same = omega arith

-- ---- the reply of a writer: the text in the part that was lent, and its head before it

module _ (out part' : List ℕ) (at room : ℕ) (inside : at + 255 ≤ length out) (small : room ≤ 64) (same : length part' ≡ length (mid_of (at + 2) room out)) where
  abbrev lent : List ℕ
  lent = mid_of (at + 2) room out

  lent_long : length lent ≡ room
  lent_long = part_long out (at + 2) room (omega arith)

  -- what the head asks for, when a writer has answered to the room that it is lent
  head_asks_all : (writes : ℕ → Answer (List ℕ)) (r : Result ℕ Refusal) →
      (answer_of r ≡ length_of (writes (length lent))) × (part' ≡ afterwards lent (writes (length lent))) →
      (at + 255 ≤ length (put_mid (at + 2) room out part')) × (behind r ≤ 64)
  head_asks_all writes r wrote =
      let most = behind_fits lent part' (writes (length lent)) r wrote.0 wrote.1 same in
      (rw (same_len_mid (at + 2) room out part' same) inside, omega (arith, most, lent_long))

  module _ (out' : List ℕ) (end : ℕ) where
    with_text : (text : List ℕ) (n : ℕ) → n ≡ length text → part' ≡ text ++ drop (length text) lent →
        Wrote (put_mid (at + 2) room out part') at (digit_zero ∷ space ∷ []) out' (at + 2) → end ≡ at + 2 + n → Replied out at (given (space ∷ text)) out' end
    with_text text n e h w f =
        let fits : length text ≤ room = omega (arith, text_fits lent part' text h same, lent_long) in
        let there = part_wrote out (at + 2) room (omega arith) text fits in
        let g : at + 2 + length text ≡ end = omega arith in
        record { wrote = rw (← g) (ahead (omega arith) there (rw h at w)); short = omega arith }

    headed : (a : Answer (List ℕ)) (r : Result ℕ Refusal) → answer_of r ≡ length_of a → part' ≡ afterwards lent a →
        Wrote (put_mid (at + 2) room out part') at (head_of r) out' (at + length (head_of r)) →
        end ≡ at + length (head_of r) + behind r → length (head_of r) ≤ 20 → Replied out at (shown_text a) out' end
    headed (given text) (Ok n) e h w f few = with_text text n (given_inj n (length text) e) h w f
    headed (given text) (Err n) e h w f few = never (length text) (refusal_number n) e
    headed (refused m) (Ok n) e h w f few = never n m (sym e)
    headed (refused m) (Err n) e h w f few =
        let same_number : refusal_number n ≡ m = cc in
        let g : at + length (head_of (Err n)) ≡ end = omega arith in
        let back : put_mid (at + 2) room out part' ≡ out = ap (put_mid (at + 2) room out) h ∙ put_same (at + 2) room out in
        rw (← same_number) (record { wrote = rw (← g) (rw back at w); short = omega arith })

    -- the reply is what it answers
    text_replied_all : (writes : ℕ → Answer (List ℕ)) (r : Result ℕ Refusal) →
        (answer_of r ≡ length_of (writes (length lent))) × (part' ≡ afterwards lent (writes (length lent))) →
        Wrote (put_mid (at + 2) room out part') at (head_of r) out' (at + length (head_of r)) ×
        ((end ≡ at + length (head_of r) + behind r) × (length (head_of r) ≤ 20)) →
        Replied out at (shown_text (writes room)) out' end
    text_replied_all writes r wrote head =
        rw (← lent_long) (headed (writes (length lent)) r wrote.0 wrote.1 head.0 head.1.0 head.1.1)

-- the same of the room as the code has it: what lies between the part's start and its end
abbrev pub between : ℕ → ℕ → ℕ
between at room = at + 2 + room - (at + 2)

between_is : (at room : ℕ) → between at room ≡ room
between_is at room = omega arith

module _ (out part' : List ℕ) (at room : ℕ) (inside : at + 255 ≤ length out) (small : room ≤ 64)
    (same : length part' ≡ length (mid_of (at + 2) (between at room) out)) (writes : ℕ → Answer (List ℕ)) (r : Result ℕ Refusal)
    (wrote : (answer_of r ≡ length_of (writes (length (mid_of (at + 2) (between at room) out)))) ×
    (part' ≡ afterwards (mid_of (at + 2) (between at room) out) (writes (length (mid_of (at + 2) (between at room) out))))) where
  few : between at room ≤ 64
  few = omega (arith, between_is at room)

  pub head_asks : (at + 255 ≤ length (put_mid (at + 2) (between at room) out part')) × (behind r ≤ 64)
  head_asks = head_asks_all out part' at (between at room) inside few same writes r wrote

  pub text_replied : (out' : List ℕ) (end : ℕ) →
      Wrote (put_mid (at + 2) (between at room) out part') at (head_of r) out' (at + length (head_of r)) ×
      ((end ≡ at + length (head_of r) + behind r) × (length (head_of r) ≤ 20)) → Replied out at (shown_text (writes room)) out' end
  text_replied out' end head =
      rw (← (between_is at room)) (text_replied_all out part' at (between at room) inside few same out' end writes r wrote head)

-- a text ends where its length says
pub ends_there : {before text after : List ℕ} {at end : ℕ} → Wrote before at text after end → Wrote before at text after (at + length text)
ends_there w = rw w.ends at w
