-- Without a space behind the name there is no text; else the name is compared with those of the calls, one after the other.
use Rattle.std.proofs.Common.{arith, ◌≡◌, ◌≤◌, ◌-◌, ℕ, List, length, take, drop, sym, ap, ◌∙◌, length-drop}
use Rattle.std.proofs.lemmas.Slice.Eq.{slice_eq-Decides}
use Rattle.std.proofs.lemmas.Bool.Decides.{Decides-eqb}
use lib.Seq.{length-take-le, take_all}
use Rattle.whole.proofs.Tests.{clash}
use Rattle.lines.proofs.Words.{word_inside}
use Rattle.writing.proofs.Writing.{wrote_as}
use Rattle.replies.specs.Replies.{reply_text, shown, date_values, time_values, date_time_values}
use Rattle.date_text.specs.Paper.{read_date, read_time, read_date_time}
use Rattle.text_calls.proofs.Names.{inside, no_text, no_text_call, text_here, text_later}
use Rattle.text_calls.proofs.inner.answer_text.Goals as goal

-- the part of the line from a place on
text : (line : List ℕ) (start : ℕ) → take (length line - start) (drop start line) ≡ drop start line
text line start =
    let h : length (drop start line) ≤ length line - start = omega (arith, length-drop start line) in
    take_all _ _ h

pub returns-then-end-line : goal.returns-then-end-line
returns-then-end-line c =
    (wrote_as c.put_byte.ensures (no_text _ c.args.end c.requires.0 c.if-end-line.true), omega (arith, c.put_byte.ensures.ends))

pub slice_bounds-name-end : goal.slice_bounds-name-end
slice_bounds-name-end c =
    let h : c.args.end ≤ length c.args.line.now = omega (arith, c.requires.0, word_inside c.args.line.now) in
    sym (length-take-le _ _ h)

pub returns-then-eq : goal.returns-then-eq
returns-then-eq c =
    let line = c.args.line.now in
    let i = inside line c.args.end c.requires.0 c.if-end-line.false in
    let first = slice_eq-Decides Decides-eqb _ _ _ c.eq.ensures in
    let named = text_here line c.args.end c.requires.0 i _ _ (first.0 c.if-eq.true ∙ c.as_slice.ensures) in (
      wrote_as c.reply.ensures.wrote (ap (λ a. reply_text (shown date_values a)) (c.read_date.ensures ∙ ap read_date (text line _)) ∙ named),
      c.reply.ensures.short,
    )

pub returns-then-eq-2 : goal.returns-then-eq-2
returns-then-eq-2 c =
    let line = c.args.line.now in
    let i = inside line c.args.end c.requires.0 c.if-end-line.false in
    let first = slice_eq-Decides Decides-eqb _ _ _ c.eq.ensures in
    let second = slice_eq-Decides Decides-eqb _ _ _ c.eq-2.ensures in
    let not_first = text_later line c.args.end c.requires.0 i _ _ (λ e. clash c.eq.result (first.1 (e ∙ sym c.as_slice.ensures)) c.if-eq.false) in
    let named = text_here line c.args.end c.requires.0 i _ _ (second.0 c.if-eq-2.true ∙ c.as_slice-2.ensures) in (
      wrote_as c.reply-then-eq-2.ensures.wrote
          (ap (λ a. reply_text (shown time_values a)) (c.read_time.ensures ∙ ap read_time (text line _)) ∙ named ∙ not_first),
      c.reply-then-eq-2.ensures.short,
    )

pub returns-then-eq-3 : goal.returns-then-eq-3
returns-then-eq-3 c =
    let line = c.args.line.now in
    let i = inside line c.args.end c.requires.0 c.if-end-line.false in
    let first = slice_eq-Decides Decides-eqb _ _ _ c.eq.ensures in
    let second = slice_eq-Decides Decides-eqb _ _ _ c.eq-2.ensures in
    let third = slice_eq-Decides Decides-eqb _ _ _ c.eq-3.ensures in
    let not_first = text_later line c.args.end c.requires.0 i _ _ (λ e. clash c.eq.result (first.1 (e ∙ sym c.as_slice.ensures)) c.if-eq.false) in
    let not_second = text_later line c.args.end c.requires.0 i _ _ (λ e. clash c.eq-2.result (second.1 (e ∙ sym c.as_slice-2.ensures)) c.if-eq-2.false) in
    let named = text_here line c.args.end c.requires.0 i _ _ (third.0 c.if-eq-3.true ∙ c.as_slice-3.ensures) in (
      wrote_as c.reply-then-eq-3.ensures.wrote
          (ap (λ a. reply_text (shown date_time_values a)) (c.read_datetime.ensures ∙ ap read_date_time (text line _)) ∙ named ∙ not_second ∙ not_first),
      c.reply-then-eq-3.ensures.short,
    )

pub returns : goal.returns
returns c =
    let line = c.args.line.now in
    let i = inside line c.args.end c.requires.0 c.if-end-line.false in
    let first = slice_eq-Decides Decides-eqb _ _ _ c.eq.ensures in
    let second = slice_eq-Decides Decides-eqb _ _ _ c.eq-2.ensures in
    let third = slice_eq-Decides Decides-eqb _ _ _ c.eq-3.ensures in
    let not_first = text_later line c.args.end c.requires.0 i _ _ (λ e. clash c.eq.result (first.1 (e ∙ sym c.as_slice.ensures)) c.if-eq.false) in
    let not_second = text_later line c.args.end c.requires.0 i _ _ (λ e. clash c.eq-2.result (second.1 (e ∙ sym c.as_slice-2.ensures)) c.if-eq-2.false) in
    let not_third = text_later line c.args.end c.requires.0 i _ _ (λ e. clash c.eq-3.result (third.1 (e ∙ sym c.as_slice-3.ensures)) c.if-eq-3.false) in
    (wrote_as c.put_byte-2.ensures (no_text_call _ ∙ not_third ∙ not_second ∙ not_first), omega (arith, c.put_byte-2.ensures.ends))
