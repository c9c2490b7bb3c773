-- Which call a name is that takes a text, and what answers the line then.
use Prim.Native.Nat.{ℕ, ◌+◌, ◌≤◌, ◌<◌}
use native.Mathlib.Numerals.{add-one}
use native.Mathlib.Omega.{arith}
use mathlib.Core.Path.{◌≡◌, refl, sym, ap, ◌∙◌}
use mathlib.Core.Bool.{Bool, true, false, cond}
use mathlib.Core.List.{List, [], ◌∷◌}
use lib.ListN.{length, take, drop, get_or, drop_of_length-le}
use lib.Seq.{drop-cons}
use Rattle.lines.specs.Text.{word, rest, same_bytes}
use Rattle.lines.proofs.Words.{word_inside, word_start, rest_start_lem, same_yes, same_no}
use Rattle.replies.specs.Replies.{reply_text, question}
use Rattle.calls.specs.Table.{TextRow, text_calls, bytes}
use Rattle.text_calls.specs.Texts.{reply_by_text}

-- without a space behind the name there is no text
no_text_by : (rs : List TextRow) (line : List ℕ) → rest line ≡ [] → reply_by_text rs line ≡ question
unfolding reply_by_text
no_text_by [] line e = refl
no_text_by (r ∷ rs) line e = rw (e, no_text_by rs line e) (either (same_bytes (word line) (bytes r.name)))
  where
    either : (t : Bool) → cond t question question ≡ question
    either true = refl
    either false = refl

pub no_text : (line : List ℕ) (end : ℕ) → end ≡ length (word line) → end ≡ length line → question ≡ reply_by_text text_calls line
no_text line end e f =
    let all : length line ≤ end = omega arith in
    let over : drop end line ≡ [] = drop_of_length-le line all in
    sym (no_text_by text_calls line (sym (rest_start_lem line) ∙ ap (λ (k : ℕ). drop k line) (sym e) ∙ over))

pub no_text_call : (line : List ℕ) → question ≡ reply_by_text [] line
unfolding reply_by_text
no_text_call line = refl

-- a name that does not end with the line ends before it
pub inside : (line : List ℕ) (end : ℕ) → end ≡ length (word line) → (end ≡ length line → ⊥) → end < length line
inside line end e f = omega (arith, e, f, word_inside line)

-- a name that was compared
module _ (line : List ℕ) (end : ℕ) (ends : end ≡ length (word line)) (inside : end < length line) where
  name_is : take end line ≡ word line
  name_is = ap (λ (k : ℕ). take k line) ends ∙ word_start line

  text_is : rest line ≡ get_or line end 0 ∷ drop (end + 1) line
  text_is = sym (rest_start_lem line) ∙ ap (λ (k : ℕ). drop k line) (sym ends) ∙ rw (add-one end, drop-cons line end 0 inside)

  pub text_here : (r : TextRow) (rs : List TextRow) → take end line ≡ bytes r.name → reply_text (r.answers (drop (end + 1) line)) ≡ reply_by_text (r ∷ rs) line
  unfolding reply_by_text
  text_here r rs e = rw (same_yes (word line) (bytes r.name) (sym name_is ∙ e), text_is)

  pub text_later : (r : TextRow) (rs : List TextRow) → (take end line ≡ bytes r.name → ⊥) → reply_by_text rs line ≡ reply_by_text (r ∷ rs) line
  unfolding reply_by_text
  text_later r rs n = rw (same_no (word line) (bytes r.name) (λ e. n (name_is ∙ e)))
