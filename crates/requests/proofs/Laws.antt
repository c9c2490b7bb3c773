-- The rows of the code are those of the contract's table; which entry has a name, and what answers a line then.
use Rattle.std.proofs.Common.{ℕ, zero, suc, ◌+◌, ◌≤◌, ◌<◌, ◌≡◌, refl, sym, ap, ◌∙◌, arith, Bool, true, false, cond, ◌&&◌, List, [], ◌∷◌, length, take, drop, map, get_or}
use Rattle.std.proofs.Common.{Bor, Option, Some, None, MatchOption, Decides}
use Rattle.std.specs.List.{find}
use Rattle.std.specs.Option.{option_map}
use Rattle.std.specs.Str.{bytes_eq}
use borrow.Author.Tests.{le-leb, lt-leb, leb-true}
use lib.Dec.{leb}
use Rattle.whole.proofs.Tests.{both, clash}
use Rattle.lines.specs.Text.{word, rest, same_bytes}
use Rattle.std.proofs.lemmas.Slice.Eq.{bytes_eq-Decides}
use Rattle.lines.proofs.Words.{same_yes, same_no, word_start, rest_start_lem}
use Rattle.parameters.specs.Kinds.{Kind, arguments}
use Rattle.parameters.specs.Letters.{letters_kinds}
use Rattle.parameters.specs.Meaning.{Reads, ReadsInto, numbers_in}
use Rattle.parameters.specs.declared.Numbers.{Numbers}
use Rattle.replies.specs.Replies.{reply_text, question}
use Rattle.calls.specs.Table.{Row, calls, text_calls, bytes, no_row, place_in}
use Rattle.parameters.proofs.Laws.{holds_all}
use Rattle.calls.specs.Ready.{Ready}
use Rattle.requests.specs.Requests.{reply_with, reply_by, reply_to, line_room}
use Rattle.requests.specs.Entries.{place_of_call, row_of, letters_of, Named}
use Rattle.requests.specs.declared.inner.Entry.{Entry}
use Rattle.text_calls.specs.Texts.{reply_by_text}

-- ---- the rows of the code

-- what a row of the code says of its call: the name, the letters, the parameters and the place in the contract's table
abbrev pub seen : Entry → List ℕ × (List ℕ × (List Kind × ℕ))
seen entry = (entry.name.now, (entry.letters.now, (letters_kinds entry.letters.now, place_of_call entry.call)))

-- and what the rows of that table say, the first of them at the k-th place
unfoldable pub wanted : ℕ → List Row → List (List ℕ × (List ℕ × (List Kind × ℕ)))
wanted k [] = []
wanted k (r ∷ rs) = (bytes r.name, (letters_of r.takes, (r.takes, k))) ∷ wanted (suc k) rs

same_by : (t : Bool) (a b : List ℕ) → Decides t (a ≡ b) → same_bytes b a ≡ t
same_by true a b d = same_yes b a (sym (d.0 refl))
same_by false a b d = same_no b a (λ e. clash false (d.1 (sym e)) refl)

record At (k : ℕ) (rs : List Row) (name : List ℕ) (entry : Entry) : Type 0 where
  known : place_in rs name < length rs
  place : k + place_in rs name ≡ place_of_call entry.call
  called : entry.name.now ≡ name
  spelled : entry.letters.now ≡ letters_of (get_or rs (place_in rs name) no_row).takes
  letters : letters_kinds entry.letters.now ≡ (get_or rs (place_in rs name) no_row).takes

module _ (name : List ℕ) where
  step : (t : Bool) (k : ℕ) (entry : Entry) (r : Row) (rs : List Row) (found : Option Entry) → same_bytes name (bytes r.name) ≡ t →
      seen entry ≡ (bytes r.name, (letters_of r.takes, (r.takes, k))) → (t ≡ true → entry.name.now ≡ name) →
      MatchOption found (place_in rs name ≡ length rs) (λ x. At (suc k) rs name x) →
      MatchOption (cond t (Some entry) found) (place_in (r ∷ rs) name ≡ length (r ∷ rs)) (λ x. At k (r ∷ rs) name x)
  unfolding place_in
  step true k entry r rs found e s n h = record {
    known = rw e (omega arith);
    place = rw e (omega (arith, ap (λ x. x.1.1.1) s));
    called = n refl;
    spelled = rw e (ap (λ x. x.1.0) s);
    letters = rw e (ap (λ x. x.1.1.0) s);
  }
  step false k entry r rs None e s n h = rw e (ap suc h)
  step false k entry r rs (Some x) e s n h = record {
    known = rw e (omega (arith, h.known));
    place = rw e (omega (arith, h.place));
    called = h.called;
    spelled = rw e h.spelled;
    letters = rw e h.letters;
  }

  finds : (k : ℕ) (entries : List Entry) (rs : List Row) → map seen entries ≡ wanted k rs →
      MatchOption (find (λ entry. bytes_eq entry.name.now name) entries) (place_in rs name ≡ length rs) (λ x. At k rs name x)
  unfolding wanted place_in
  finds k [] [] e = refl
  finds k [] (r ∷ rs) e = absurd cc
  finds k (entry ∷ entries) [] e = absurd cc
  finds k (entry ∷ entries) (r ∷ rs) e =
      let s : seen entry ≡ (bytes r.name, (letters_of r.takes, (r.takes, k))) = cc in
      let t : bytes_eq entry.name.now name ≡ same_bytes name (bytes r.name) = sym (same_by (bytes_eq entry.name.now name) entry.name.now name (bytes_eq-Decides entry.name.now name)) ∙ ap (same_bytes name) (ap (λ x. x.0) s) in
      let others : map seen entries ≡ wanted (suc k) rs = cc in
      rw t (step (same_bytes name (bytes r.name)) k entry r rs (find (λ x. bytes_eq x.name.now name) entries) refl s
      (λ h. (bytes_eq-Decides entry.name.now name).0 (t ∙ h)) (finds (suc k) entries rs others))

  pub named : (entries : List Entry) → map seen entries ≡ wanted 0 calls → (found : Option (Bor Entry)) →
      option_map (λ x. x.now) found ≡ find (λ entry. bytes_eq entry.name.now name) entries →
      MatchOption found (place_in calls name ≡ length calls) (λ entry. Named name entry.now)
  named entries s None e = rw (← e) at (finds 0 entries calls s)
  named entries s (Some entry) e =
      let h : At 0 calls name entry.now = rw (← e) at (finds 0 entries calls s) in
      let p : place_in calls name ≡ place_of_call entry.now.call = omega (arith, h.place) in
      record { known = h.known; place = p; called = h.called; spelled = rw p at h.spelled; letters = rw p at h.letters }

-- ---- a call has at most 24 parameters

as_many : (letters : List ℕ) → length (letters_kinds letters) ≡ length letters
unfolding letters_kinds
as_many [] = refl
as_many (l ∷ ls) = ap suc (as_many ls)

few : List Row → Bool
few [] = true
few (r ∷ rs) = leb (length r.takes) 24 && few rs

few_at : (rs : List Row) (place : ℕ) → few rs ≡ true → length (get_or rs place no_row).takes ≤ 24
unfolding few
few_at [] zero h = omega arith
few_at [] (suc place) h = omega arith
few_at (r ∷ rs) zero h = leb-true (length r.takes) 24 (both (leb (length r.takes) 24) (few rs) h).0
few_at (r ∷ rs) (suc place) h = few_at rs place (both (leb (length r.takes) 24) (few rs) h).1

all_few : few calls ≡ true
unfolding few
all_few = refl

pub few_letters : (name : List ℕ) (entry : Entry) → Named name entry → length entry.letters.now ≤ 24
few_letters name entry e =
    omega (arith, as_many entry.letters.now, ap length e.letters, few_at calls (place_of_call entry.call) all_few)

-- ---- what answers a line

reply_by_lem : (t : Bool) (r : Row) (rs : List Row) (line : List ℕ) (n : ℕ) → (n < length rs → reply_by rs line ≡ reply_with (get_or rs n no_row).answers
    (arguments (get_or rs n no_row).takes (rest line))) →
    cond t 0 (suc n) < suc (length rs) →
    cond t (reply_with r.answers (arguments r.takes (rest line))) (reply_by rs line) ≡
    reply_with (get_or (r ∷ rs) (cond t 0 (suc n)) no_row).answers (arguments (get_or (r ∷ rs) (cond t 0 (suc n)) no_row).takes (rest line))
reply_by_lem true r rs line n h l = refl
reply_by_lem false r rs line n h l = h (omega arith)

reply_at : (rs : List Row) (line : List ℕ) → place_in rs (word line) < length rs →
    reply_by rs line ≡ reply_with (get_or rs (place_in rs (word line)) no_row).answers (arguments (get_or rs (place_in rs (word line)) no_row).takes (rest line))
unfolding reply_by place_in
reply_at [] line h = let f : ⊥ = omega arith in absurd f
reply_at (r ∷ rs) line h = reply_by_lem (same_bytes (word line) (bytes r.name)) r rs line (place_in rs (word line)) (reply_at rs line) h

none_by : (t : Bool) (r : Row) (rs : List Row) (line : List ℕ) (n : ℕ) → (n ≡ length rs → reply_by rs line ≡ reply_by_text text_calls line) →
    cond t 0 (suc n) ≡ suc (length rs) → cond t (reply_with r.answers (arguments r.takes (rest line))) (reply_by rs line) ≡ reply_by_text text_calls line
none_by true r rs line n h l = let f : ⊥ = omega arith in absurd f
none_by false r rs line n h l = h (omega arith)

reply_none : (rs : List Row) (line : List ℕ) → place_in rs (word line) ≡ length rs → reply_by rs line ≡ reply_by_text text_calls line
unfolding reply_by place_in
reply_none [] line h = refl
reply_none (r ∷ rs) line h = none_by (same_bytes (word line) (bytes r.name)) r rs line (place_in rs (word line)) (reply_none rs line) h

pub empty_reply : (line : List ℕ) → length line ≡ 0 → [] ≡ reply_to line
unfolding reply_to
empty_reply [] h = refl
empty_reply (b ∷ bs) h = let f : ⊥ = omega arith in absurd f

pub long_reply : (line : List ℕ) → line_room < length line → question ≡ reply_to line
unfolding reply_to
long_reply [] h = let f : ⊥ = omega arith in absurd f
long_reply (b ∷ bs) h = rw (lt-leb _ _ h)

-- a line that is not empty, and not too long, whose first word ends at `end`
module _ (line : List ℕ) (some : length line ≡ 0 → ⊥) (fits : length line ≤ line_room) (end : ℕ) (ends : end ≡ length (word line)) where
  by_calls : (l : List ℕ) → (length l ≡ 0 → ⊥) → length l ≤ line_room → reply_by calls l ≡ reply_to l
  unfolding reply_to
  by_calls [] n h = absurd (n refl)
  by_calls (b ∷ bs) n h = rw (le-leb _ _ h)

  named_word : take end line ≡ word line
  named_word = rw ends (word_start line)

  pub text_reply : place_in calls (take end line) ≡ length calls → reply_by_text text_calls line ≡ reply_to line
  text_reply e = sym (reply_none calls line (rw named_word at e)) ∙ by_calls line some fits

  module _ (entry : Entry) (found : Named (take end line) entry) where
    there : reply_with (row_of entry.call).answers (arguments (letters_kinds entry.letters.now) (drop end line)) ≡ reply_to line
    there =
        let h : Named (word line) entry = rw named_word at found in
        rw (ends, rest_start_lem line, h.letters, ← h.place) (sym (reply_at calls line h.known) ∙ by_calls line some fits)

    no_reply : Reads None (arguments (letters_kinds entry.letters.now) (drop end line)) → question ≡ reply_to line
    no_reply read = ap (reply_with (row_of entry.call).answers) read.reads_as ∙ there

    -- what was read of it
    module _ (before n : Numbers) (known : Bool) (read : ReadsInto before known n (arguments (letters_kinds entry.letters.now) (drop end line))) where
      pub bad_reply : known ≡ false → question ≡ reply_to line
      bad_reply e = no_reply (rw e at read.reads)

      these_are : known ≡ true → Reads (Some n) (arguments (letters_kinds entry.letters.now) (drop end line))
      these_are e = rw e at read.reads

      pub good_reply : known ≡ true → reply_text ((row_of entry.call).answers (numbers_in n)) ≡ reply_to line
      good_reply e = ap (reply_with (row_of entry.call).answers) (these_are e).reads_as ∙ there

      pub ready : known ≡ true → (at : ℕ) (out : List ℕ) → at + 255 ≤ length out → Ready (row_of entry.call).takes (numbers_in n) at out
      ready e at out room = record { numbers = rw (← found.letters) (holds_all _ _ _ (these_are e)); room = room }
